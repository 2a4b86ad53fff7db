-- Each turn puts the record of the next router. Assumes nothing.
use Rattle.std.proofs.Common.{◌≡◌, ◌<◌, length-take, ◌∙◌, ap, refl, ℕ, [], ◌∷◌, arith, take, get_or-take}
use Rattle.std.proofs.lemmas.List.Edits.{sets}
use Rattle.model.specs.Rows.{column}
use Rattle.snapshot.specs.Records.{router_form, written}
use Rattle.writer.specs.SectionsLaws.{section_room, section_next, ids_next}
use Rattle.writer.proofs.put_ids.Goals as goal

pub put_router-requires : goal.put_router-requires
put_router-requires c =
    let below : c.loop-k.k < c.args.n = omega (arith, length-take c.args.n c.args.ids.now) in
    (section_room c.loop-k.invariant (ids_next c.args.ids.now c.args.n c.loop-k.k below)).fits

pub loop-k-preserved : goal.loop-k-preserved
loop-k-preserved c =
    let ids = c.args.ids.now in
    let k = c.loop-k.k in
    let below : k < c.args.n = omega (arith, length-take c.args.n ids) in
    let id : column (take c.args.n ids) k ≡ column ids k = get_or-take c.args.n ids k 0 below in
    section_next c.loop-k.invariant (ids_next ids c.args.n k below)
    (c.put_router.ensures ∙ ap (λ (id : ℕ). sets c.loop-k.out c.loop-k.at (written router_form (k ∷ id ∷ []))) id) refl
