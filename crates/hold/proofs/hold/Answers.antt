-- A router that holds a row chooses it.
use Rattle.std.proofs.Common.{sym, arith}
use Rattle.model.proofs.LoopLaws.{stored_next, stored_end}
use Rattle.hold.proofs.hold.Goals as goal
use Rattle.hold.proofs.hold.Goals.{then-own-r, else-own-r}

pub loop-r-preserved : goal.loop-r-preserved
loop-r-preserved c =
    elim c.if-own-r.branch [
      | then-own-r w ↦ (rw w.held-is (stored_next c.loop-r.invariant (omega arith) (sym (c.requires.rests _ (omega arith) w.if-own-r.true))))
      | else-own-r w ↦ (rw w.held-is (stored_next c.loop-r.invariant (omega arith) w.choose.ensures))
    ]

pub returns : goal.returns
returns c = stored_end c.loop-r.invariant (omega arith)
