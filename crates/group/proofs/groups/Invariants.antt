-- The groups so far are stored.
use Rattle.std.proofs.Common.{length}
use Rattle.model.specs.Rows.{column}
use Rattle.model.specs.Listing.{group_by}
use Rattle.model.proofs.LoopLaws.{Stored}
use Rattle.group.proofs.groups.Given as goal

abbrev pub invariant-loop-k : goal.invariant-loop-k
invariant-loop-k l = Stored 0 (group_by (λ p. column l.key (column l.rows p))) (length l.rows) l.fn.group l.k l.group
