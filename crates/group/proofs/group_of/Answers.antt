-- The rows before place k are looked at one by one, so the answer is the first place there that has what k has.
use Rattle.std.proofs.Common.{rules, tests, arith, eqb, length, take, ℕ, ◌≡◌, ◌<◌, Bool, get_or-take, length-take-le, ap, ◌∙◌}
use Rattle.std.proofs.lemmas.Iterator.{YieldsList-from_slice}
use Rattle.std.proofs.lemmas.Iterator.Adapters.{serves_from_places}
use Rattle.std.proofs.lemmas.Iterator.Search.{position_from_yields_List}
use Rattle.model.specs.Rows.{span, column}
use Rattle.model.specs.Listing.{first_place}
use Rattle.model.proofs.PlaceLaws.{place_found, place_span, place_group, inside_at}
use Rattle.model.proofs.ListLaws.{inside_take}
use Rattle.group.proofs.group_of.Goals as goal

pub position-requires-clause-callable : goal.position-requires-clause-callable
position-requires-clause-callable c =
    serves_from_places (YieldsList-from_slice (take c.args.k c.args.rows.now) cc) (λ x q r. search rules) (λ x i l e. let here : x.now < length c.args.key.now = inside_at (inside_take c.args.k c.requires.0) l e in search rules)

pub returns : goal.returns
returns c =
    let key = c.args.key.now in
    let rows = c.args.rows.now in
    let k = c.args.k in
    let test : ℕ → Bool = λ q. eqb (column key q) (column key (column rows k)) in
    let long : length (take k rows) ≡ k = length-take-le k rows (omega arith) in
    let found = position_from_yields_List test _ _ c.position.result c.position.ensures.ran (YieldsList-from_slice (take k rows) cc) (λ x b q k. search (rules, tests)) in
    c.unwrap_or.ensures
    ∙ place_found test (take k rows) found long
    ∙ place_span test (λ p. eqb (column key (column rows p)) (column key (column rows k))) 0 0 (take k rows)
    (λ i l. ap test (get_or-take k rows i 0 (omega arith) ∙ ap (column rows) (omega arith)))
    ∙ ap (λ n. first_place (λ p. eqb (column key (column rows p)) (column key (column rows k))) (span 0 n)) long
    ∙ place_group (λ p. column key (column rows p)) k
