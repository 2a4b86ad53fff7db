use Rattle.model.proofs.LoopLaws.{stored_end}
use Rattle.fill.proofs.fill_row.Goals as goal

pub returns : goal.returns
returns c = stored_end c.loop-to.invariant c.loop-to-test.false
