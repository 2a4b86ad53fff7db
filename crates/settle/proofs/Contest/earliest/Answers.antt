-- Rounds start where every router is at its first place.
use Rattle.std.proofs.Common.{ℕ, length, replicate, ap, ◌∙◌}
use Rattle.model.specs.Rows.{column}
use Rattle.model.specs.Decision.{beats_by}
use Rattle.model.specs.Contest.{times}
use Rattle.model.specs.Listing.{own_places, round_by}
use Rattle.model.proofs.RowLaws.{table_const}
use Rattle.settle.proofs.Contest.earliest.Goals as goal

pub returns : goal.returns
returns c =
    let t = c.args.self.now in
    let round = round_by (beats_by (column t.group.now) (column t.med.now)) (own_places t.ends.now) (length t.ends.now) in
    c.settle.ensures ∙ ap (times round (length t.group.now)) (c.fill.ensures.after (λ y e. e) ∙ ap (λ (n : ℕ). replicate n 0) c.requires ∙ table_const (length t.ends.now) 0)
