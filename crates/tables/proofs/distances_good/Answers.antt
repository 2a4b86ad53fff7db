-- The row of each router decides. Assumes nothing.
use Rattle.std.proofs.Common.{rules}
use Rattle.tables.specs.Judging.{CellGood, Below}
use Rattle.tables.specs.JudgeLaws.{all_decides}
use Rattle.tables.proofs.distances_good.Goals as goal

pub returns : goal.returns
returns c = all_decides {P = λ from. Below c.args.n (CellGood c.args.distances.now from)} c.args.n c.all.ensures.ran (λ from f called. search rules) (λ from f called. search rules)
