-- The rows of the routers before r are stored, and the contenders of the others are left.
use Rattle.std.proofs.Common.{length}
use Rattle.model.specs.Listing.{stands_at}
use Rattle.model.proofs.LoopLaws.{Stored}
use Rattle.model.proofs.RoundLaws.{Left}
use Rattle.stand.proofs.rows_at.Given as goal

abbrev pub invariant-loop-r : goal.invariant-loop-r
invariant-loop-r l = Left l.fn.order l.ends l.r l.rest × Stored 0 (stands_at l.fn.order l.ends l.state) (length l.ends) l.fn.own l.r l.own
