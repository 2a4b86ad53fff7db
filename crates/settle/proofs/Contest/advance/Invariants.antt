-- The places of the routers before r are brought up to date, and where none moved the state is as it came.
use Rattle.std.proofs.Common.{length, not, ltb}
use Rattle.model.specs.Rows.{column}
use Rattle.model.specs.Listing.{own_places, first_place}
use Rattle.model.proofs.LoopLaws.{Moved}
use Rattle.model.proofs.RoundLaws.{Turn}
use Rattle.settle.proofs.Contest.advance.Given as goal

abbrev pub invariant-loop-r : goal.invariant-loop-r
invariant-loop-r l =
    let t = l.self in
    Turn (length t.group.now) t.ends.now l.r l.from
    × Moved (λ r. first_place (λ q. not (ltb (column l.low (column t.group.now q)) (column t.med.now q))) (own_places t.ends.now r)) (length t.ends.now) l.fn.state l.r l.state l.moved
