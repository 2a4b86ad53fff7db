-- Each bucket has the least key of the rows so far that are in it.
use Rattle.std.proofs.Common.{length}
use Rattle.model.specs.Rows.{span, column}
use Rattle.model.proofs.ListLaws.{Lowers}
use Rattle.group.proofs.lower.Given as goal

abbrev pub invariant-loop-b : goal.invariant-loop-b
invariant-loop-b l = Lowers (column l.bucket) (column l.key) (span 0 (length l.bucket)) l.fn.low (length l.yielded) l.low
