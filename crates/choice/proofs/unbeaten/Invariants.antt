use Rattle.std.proofs.Common.{◌≡◌, true, not}
use Rattle.model.specs.Rows.{some, column}
use Rattle.model.specs.Decision.{beats_by}
use Rattle.model.proofs.ListLaws.{Hunt, Pack}
use Rattle.choice.proofs.unbeaten.Given as goal

-- the unbeaten rows so far are packed into the front, n of them
abbrev pub invariant-loop-q : goal.invariant-loop-q
invariant-loop-q l = Pack (λ q. not (some (λ p. beats_by (column l.asn) (column l.med) p q) l.rows)) l.rows l.fn.left l.q-index l.n l.left

-- no row so far beats q, and so it stays
abbrev pub invariant-scan : goal.invariant-scan
invariant-scan l = (l.stays ≡ true) × Hunt (λ p. beats_by (column l.asn) (column l.med) p (column l.rows l.q-index)) l.rows l.p-index
