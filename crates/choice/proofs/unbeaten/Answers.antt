use Rattle.std.proofs.Common.{arith}
use Rattle.model.proofs.ListLaws.{pack_end}
use Rattle.choice.proofs.unbeaten.Goals as goal

pub returns : goal.returns
returns c = pack_end c.loop-q.invariant (omega arith)
