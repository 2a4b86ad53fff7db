-- Reading a snapshot, section by section of the grammar. The sections stand from the last to the first, since each goes on to the next.
-- `at` is the place of the next record, `bs` are the bytes from there on.
use Rattle.std.specs.Prelude.{ℕ, zero, suc, ◌+◌, Bool, true, false, not, List, [], ◌∷◌, ◌++◌, length, get_or, drop, leb, ltb, eqb}
use Rattle.refusal.specs.declared.Refusal.{Refusal}
use Rattle.refusal.specs.declared.Refusal.TheVariants.{Cut, Kind, Place, Field, Full, Tail}
use Rattle.model.specs.Decision.{Route}
use Rattle.snapshot.specs.Limits.{most_prefixes, most_in_prefix, most_routes}
use Rattle.snapshot.specs.Records.{Form, Forms, count_form, router_form, distance_form, prefix_form, route_forms, end_form, forms, only, stands, size, known, kind, values, form_in, size_in, values_in}
use Rattle.snapshot.specs.Format.{Prefix, Snapshot, Pair, pairs, routes_in, records, Check, ◌else◌, judged, count_checks, router_checks, distance_checks, prefix_checks, route_checks, end_checks}

-- what reading answers: what was read, or a refusal and its place
pub data AnswerOf (A : Type 0) : Type 0 where
  accepted : A → AnswerOf A
  refused : Refusal → ℕ → AnswerOf A

-- reading a snapshot
abbrev pub Answer : Type 0
Answer = AnswerOf Snapshot

-- no bytes are left
abbrev pub is_nil : List ℕ → Bool
is_nil [] = true
is_nil (b ∷ bs) = false

-- the checks of every record of a file with this table of kinds, in their order: CUT for the kind byte, KIND, PLACE, FULL, CUT for
-- the body, FIELD where its values are to be in another form, then those of the values. `fs` are the forms that may stand here,
-- `extra` the checks of PLACE and FULL that only some kinds have, `checks` those of the values
unfoldable pub record_checks : List Form → Forms → List Check → (List ℕ → List Check) → List ℕ → List Check
record_checks table fs extra checks bs =
    (not (is_nil bs) else Cut)
    ∷ (known table (kind bs) else Kind)
    ∷ (stands fs (kind bs) else Place)
    ∷ extra
    ++ ((leb (size_in fs bs) (length bs) else Cut)
    ∷ (eqb (form_in fs bs).kind (fs.chosen (values_in fs bs)).kind else Field)
    ∷ checks (values_in fs bs))

-- go on, unless a check of the record at a place fails
abbrev pub unless : {A : Type 0} → List Check → ℕ → (Unit {0} → AnswerOf A) → AnswerOf A
unless checks at go = judged checks (λ r. refused r at) go

-- one of two ways
unfoldable pub either : {A : Type 0} → Bool → (Unit {0} → A) → (Unit {0} → A) → A
either true yea nay = yea tt
either false yea nay = nay tt

-- ---- prefixes and their routes, up to the end record; `s` is what was read so far

-- the routes of the latest prefix
abbrev pub open_routes : List Prefix → List Route
open_routes [] = []
open_routes (p ∷ []) = p.routes
open_routes (p ∷ q ∷ ps) = open_routes (q ∷ ps)

-- one more route for the latest prefix
abbrev pub add_route : List Prefix → Route → List Prefix
add_route [] r = []
add_route (p ∷ []) r = record { address = p.address; bits = p.bits; routes = p.routes ++ (r ∷ []) } ∷ []
add_route (p ∷ q ∷ ps) r = p ∷ add_route (q ∷ ps) r

-- a snapshot with other prefixes
abbrev pub with_prefixes : Snapshot → List Prefix → Snapshot
with_prefixes s ps = record { ids = s.ids; distances = s.distances; prefixes = ps }

-- the prefix of a record's values, as yet without routes
abbrev pub prefix_of : List ℕ → Prefix
prefix_of v = record { address = get_or v 0 0; bits = get_or v 1 0; routes = [] }

-- the route of a record's values
abbrev pub route_of : List ℕ → Route
route_of v = record {
  router = get_or v 0 0;
  asn = get_or v 1 0;
  preference = get_or v 2 0;
  path = get_or v 3 0;
  origin = get_or v 4 0;
  mark = get_or v 5 0;
  med = get_or v 6 0;
  nid = get_or v 7 0;
  peer = get_or v 8 0;
}

-- FULL: a 65th prefix, where so many stand before it
abbrev pub prefix_room : ℕ → List Check
prefix_room prefixes = (ltb prefixes most_prefixes else Full) ∷ []

-- the same behind what was read so far
abbrev pub prefix_extra : Snapshot → List Check
prefix_extra s = prefix_room (length s.prefixes)

-- the checks of a prefix record's values
abbrev pub prefix_values : Snapshot → List ℕ → List Check
prefix_values s v = prefix_checks s.prefixes (get_or v 0 0) (get_or v 1 0)

-- the checks of a prefix record
unfoldable pub prefix_record : Snapshot → List ℕ → List Check
prefix_record s = record_checks forms (only prefix_form) (prefix_extra s) (prefix_values s)

-- PLACE: a route stands behind a prefix. FULL: a prefix's 257th route, or a 1,025th route in all; where there are so many prefixes, routes
-- of the latest, and routes in all
abbrev pub route_room : ℕ → ℕ → ℕ → List Check
route_room prefixes inside routes =
    (not (eqb prefixes 0) else Place)
    ∷ (ltb inside most_in_prefix else Full)
    ∷ (ltb routes most_routes else Full)
    ∷ []

-- the same behind what was read so far
abbrev pub route_extra : Snapshot → List Check
route_extra s = route_room (length s.prefixes) (length (open_routes s.prefixes)) (routes_in s.prefixes)

-- the checks of a route record's values
abbrev pub route_values : Snapshot → List ℕ → List Check
route_values s v = route_checks (length s.ids) (open_routes s.prefixes) (route_of v)

-- the checks of a route record
unfoldable pub route_record : Snapshot → List ℕ → List Check
route_record s = record_checks forms route_forms (route_extra s) (route_values s)

-- the check of the end record's value, with so many records before it
abbrev pub end_values : ℕ → List ℕ → List Check
end_values before v = end_checks before (get_or v 0 0)

-- the checks of the end record
unfoldable pub end_record : List Form → ℕ → List ℕ → List Check
end_record table before = record_checks table (only end_form) [] (end_values before)

-- after the end record: nothing
abbrev pub tail : {A : Type 0} → A → ℕ → List ℕ → AnswerOf A
tail s at [] = accepted s
tail s at (b ∷ bs) = refused Tail at

-- one record of these: a prefix, a route, or else it must be the end; and what to do after a prefix, or after a route
unfoldable pub item : Snapshot → ℕ → List ℕ → (Unit {0} → Answer) → (Unit {0} → Answer) → Answer
item s at bs after_prefix after_route =
    either (eqb (kind bs) prefix_form.kind) (λ _. unless (prefix_record s bs) at after_prefix) λ _.
    either (stands route_forms (kind bs)) (λ _. unless (route_record s bs) at after_route) λ _.
    unless (end_record forms (records s) bs) at λ _. tail s (at + size end_form) (drop (size end_form) bs)

-- what was read so far, with the prefix of the record at the front
abbrev pub with_prefix : Snapshot → List ℕ → Snapshot
with_prefix s bs = with_prefixes s (s.prefixes ++ (prefix_of (values prefix_form bs) ∷ []))

-- what was read so far, with the route of the record at the front
abbrev pub with_route : Snapshot → List ℕ → Snapshot
with_route s bs = with_prefixes s (add_route s.prefixes (route_of (values_in route_forms bs)))

-- there are no more items than bytes: the count ends the recursion, and `items_step` of SectionsLaws.antt is the equation to go by
unfoldable pub items_within : ℕ → Snapshot → ℕ → List ℕ → Answer
items_within zero s at bs = refused Cut at
items_within (suc count) s at bs =
    item s at bs
    (λ _. items_within count (with_prefix s bs) (at + size prefix_form) (drop (size prefix_form) bs))
    (λ _. items_within count (with_route s bs) (at + size_in route_forms bs) (drop (size_in route_forms bs) bs))

-- the items from a place on
unfoldable pub items : Snapshot → ℕ → List ℕ → Answer
items s at bs = items_within (length bs) s at bs

-- ---- the distances: `due` are the pairs yet to come, `ds` the distances read so far

-- the checks of a distance record's values
abbrev pub distance_values : ℕ → Pair → List ℕ → List Check
distance_values n due v = distance_checks n due (get_or v 0 0) (get_or v 1 0) (get_or v 2 0)

-- the checks of a distance record
unfoldable pub distance_record : ℕ → Pair → List ℕ → List Check
distance_record n due = record_checks forms (only distance_form) [] (distance_values n due)

-- the distances from a place on, and then the items
unfoldable pub distances : List Pair → List ℕ → List ℕ → ℕ → List ℕ → Answer
distances [] ids ds at bs = items (record { ids = ids; distances = ds; prefixes = [] }) at bs
distances (p ∷ due) ids ds at bs =
    unless (distance_record (length ids) p bs) at λ _.
    distances due ids (ds ++ (get_or (values distance_form bs) 2 0 ∷ [])) (at + size distance_form) (drop (size distance_form) bs)

-- ---- the routers: `left` are yet to come, `ids` are the ids read so far

-- the checks of a router record's values
abbrev pub router_values : ℕ → List ℕ → List ℕ → List Check
router_values n ids v = router_checks n ids (get_or v 0 0) (get_or v 1 0)

-- the checks of a router record
unfoldable pub router_record : ℕ → List ℕ → List ℕ → List Check
router_record n ids = record_checks forms (only router_form) [] (router_values n ids)

-- the routers from a place on, and then the distances
unfoldable pub routers : ℕ → ℕ → List ℕ → ℕ → List ℕ → Answer
routers n zero ids at bs = distances (pairs (length ids)) ids [] at bs
routers n (suc left) ids at bs =
    unless (router_record n ids bs) at λ _.
    routers n left (ids ++ (get_or (values router_form bs) 1 0 ∷ [])) (at + size router_form) (drop (size router_form) bs)

-- ---- the whole

-- the check of the count record's value
abbrev pub count_values : List ℕ → List Check
count_values v = count_checks (get_or v 0 0)

-- the checks of the count record
unfoldable pub count_record : List ℕ → List Check
count_record = record_checks forms (only count_form) [] count_values

-- one kind 1; n of kind 2; n(n-1) of kind 3; any number of prefixes with their routes; one kind 6; then nothing
unfoldable pub reading : List ℕ → Answer
reading bs =
    unless (count_record bs) 0 λ _.
    let n = get_or (values count_form bs) 0 0 in routers n n [] (size count_form) (drop (size count_form) bs)
