-- Each id decides. Assumes nothing.
use Rattle.std.proofs.Common.{rules}
use Rattle.tables.specs.Judging.{IdGood}
use Rattle.tables.specs.JudgeLaws.{all_decides}
use Rattle.tables.proofs.ids_good.Goals as goal

pub returns : goal.returns
returns c = all_decides {P = IdGood c.args.ids.now} c.args.n c.all.ensures.ran (λ k f called. search rules) (λ k f called. search rules)
