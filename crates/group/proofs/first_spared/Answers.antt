-- The rows are looked at one by one, so the answer is the first that is spared.
use Rattle.std.proofs.Common.{rules, tests, arith, ℕ, ◌≡◌, ◌<◌, Bool, not, ltb, length, ap, ◌∙◌}
use Rattle.std.specs.List.{zip}
use Rattle.std.proofs.lemmas.Iterator.{YieldsList-from_slice, YieldsList-from_zip}
use Rattle.std.proofs.lemmas.Iterator.Adapters.{serves_from_places}
use Rattle.std.proofs.lemmas.Iterator.Search.{position_from_yields_List}
use Rattle.std.proofs.lemmas.Slice.Zip.{length-zip, get_or-zip}
use Rattle.model.specs.Rows.{span, column}
use Rattle.model.specs.Listing.{first_place}
use Rattle.model.proofs.PlaceLaws.{place_found, place_span}
use Rattle.model.proofs.ColumnLaws.{get_or_inside}
use Rattle.group.proofs.first_spared.Goals as goal

pub position-requires-clause-callable : goal.position-requires-clause-callable
position-requires-clause-callable c =
    let group = c.args.group.now in
    let med = c.args.med.now in
    serves_from_places (YieldsList-from_zip {s = c.zip.result} (YieldsList-from_slice group cc) (YieldsList-from_slice med cc)) (λ x q r. search rules) (λ x i l e.
    let long : i < length group = omega (arith, length-zip group med) in
    let here = ap (λ (p : ℕ × ℕ). p.0) (e ∙ get_or-zip group med i (x.0.now, x.1.now) long (omega arith)) in
    let inside : x.0.now < length c.args.low.now = omega (arith, here, get_or_inside group i x.0.now 0 long, c.requires.2 i long) in
    search rules)

pub returns : goal.returns
returns c =
    let group = c.args.group.now in
    let med = c.args.med.now in
    let low = c.args.low.now in
    let test : ℕ × ℕ → Bool = λ p. not (ltb (column low p.0) p.1) in
    let spared : ℕ → Bool = λ q. not (ltb (column low (column group q)) (column med q)) in
    let long : length (zip group med) ≡ length group = omega (arith, length-zip group med) in
    let found = position_from_yields_List test c.position.new.self _ c.position.result c.position.ensures.ran (YieldsList-from_zip {s = c.zip.result} (YieldsList-from_slice group cc) (YieldsList-from_slice med cc)) (λ x b q k. search (rules, tests)) in
    c.unwrap_or-place.ensures
    ∙ place_found test (zip group med) found long
    ∙ place_span test spared (0, 0) 0 (zip group med)
    (λ i l. ap test (get_or-zip group med i (0, 0) (omega arith) (omega arith)) ∙ ap spared (omega arith))
    ∙ ap (λ n. first_place spared (span 0 n)) long
