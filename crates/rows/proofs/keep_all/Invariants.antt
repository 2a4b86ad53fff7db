use Rattle.std.proofs.Common.{length}
use Rattle.model.proofs.LoopLaws.{Stored}
use Rattle.rows.proofs.keep_all.Given as goal

-- the rows before i are listed
abbrev pub invariant-loop-i : goal.invariant-loop-i
invariant-loop-i l = Stored 0 (λ k. k) (length l.fn.rows) l.fn.rows l.i l.rows
