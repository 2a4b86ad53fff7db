-- Rounds start where every router is past its end.
use Rattle.std.proofs.Common.{refl, length, ap, ◌∙◌}
use Rattle.model.specs.Rows.{column}
use Rattle.model.specs.Decision.{beats_by}
use Rattle.model.specs.Contest.{times}
use Rattle.model.specs.Listing.{own_places, round_by}
use Rattle.model.proofs.ColumnLaws.{column_is}
use Rattle.settle.proofs.Contest.latest.Goals as goal

pub returns : goal.returns
returns c =
    let t = c.args.self.now in
    let round = round_by (beats_by (column t.group.now) (column t.med.now)) (own_places t.ends.now) (length t.ends.now) in
    c.settle.ensures ∙ ap (times round (length t.group.now)) (c.copy_from_slice.ensures.after ∙ column_is t.ends.now (column t.ends.now) (λ k l. refl))
