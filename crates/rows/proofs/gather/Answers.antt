use Rattle.std.proofs.Common.{arith}
use Rattle.model.proofs.LoopLaws.{stored_end}
use Rattle.rows.proofs.gather.Goals as goal

pub returns : goal.returns
returns c = stored_end c.loop-i.invariant (omega arith)
