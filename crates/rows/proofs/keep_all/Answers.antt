use Rattle.std.proofs.Common.{arith}
use Rattle.model.proofs.ListLaws.{all_listed}
use Rattle.rows.proofs.keep_all.Goals as goal

pub returns : goal.returns
returns c = all_listed c.loop-i.invariant (omega arith)
