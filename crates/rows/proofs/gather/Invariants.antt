use Rattle.std.proofs.Common.{length}
use Rattle.model.specs.Rows.{column}
use Rattle.model.proofs.LoopLaws.{Stored}
use Rattle.rows.proofs.gather.Given as goal

-- the keys of the rows so far are stored
abbrev pub invariant-loop-i : goal.invariant-loop-i
invariant-loop-i l = Stored 0 (λ k. column l.key (column l.rows k)) (length l.rows) l.fn.out l.i l.out
