-- Each route decides. Assumes nothing.
use Rattle.std.proofs.Common.{rules}
use Rattle.snapshot.specs.Lent.{columns_of}
use Rattle.tables.specs.Judging.{RouteGood}
use Rattle.tables.specs.JudgeLaws.{all_decides}
use Rattle.tables.proofs.routes_good.Goals as goal

pub returns : goal.returns
returns c =
    all_decides {P = RouteGood c.args.routers (columns_of c.args.rows.now) c.args.at} c.args.count c.all.ensures.ran (λ k f called. search rules) (λ k f called. search rules)
