-- So many rounds are done.
use Rattle.std.proofs.Common.{◌≡◌, length}
use Rattle.model.specs.Rows.{column}
use Rattle.model.specs.Decision.{beats_by}
use Rattle.model.specs.Listing.{own_places, round_by}
use Rattle.model.proofs.RoundLaws.{Rounds}
use Rattle.settle.proofs.Contest.settle.Given as goal

abbrev pub invariant-loop : goal.invariant-loop
invariant-loop l =
    let t = l.self in
    (length l.state ≡ length t.ends.now)
    × Rounds (round_by (beats_by (column t.group.now) (column t.med.now)) (own_places t.ends.now) (length t.ends.now)) (length t.group.now) l.fn.state l.index l.state
