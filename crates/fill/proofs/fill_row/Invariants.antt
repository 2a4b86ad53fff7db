-- The distances before `to` are put, and the others are as before.
use Rattle.std.proofs.Common.{length}
use Rattle.model.proofs.LoopLaws.{Stored}
use Rattle.fill.specs.Fill.{distance_in}
use Rattle.fill.proofs.fill_row.Given as goal

abbrev pub invariant-loop-to : goal.invariant-loop-to
invariant-loop-to l = Stored 0 (distance_in l.input l.n l.from) (length l.fn.row) l.fn.row l.to l.row
