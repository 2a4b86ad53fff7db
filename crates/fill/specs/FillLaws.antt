-- The second pass takes from the bytes of a valid snapshot that snapshot.
use Rattle.std.specs.Prelude.{ℕ, zero, suc, ◌+◌, ◌-◌, ◌*◌, ◌/◌, ◌%◌, ◌^◌, ◌≤◌, ◌<◌, ◌≡◌, refl, Bool, true, false, cond, ◌&&◌, List, [], ◌∷◌, ◌++◌, length, get_or, drop, leb, ltb, eqb}
use Rattle.std.proofs.Common.{not-suc-le-zero, arith, sym, ap, ap₂, ◌∙◌, append_assoc, length-append, length-drop, drop_at, drop-drop, drop-cons, ext_get_or, le-leb, eq-eqb, ltb-true, ltb-false}
use Rattle.std.proofs.Math.Decide.{ℕ_discrete}
use Rattle.wire.specs.Numbers.{number_at}
use Rattle.wire.specs.NumbersLaws.{number_drop}
use Rattle.model.specs.Rows.{table}
use Rattle.model.proofs.RowLaws.{table_length, table_at, table_same}
use Rattle.model.specs.Decision.{Route}
use Rattle.snapshot.specs.Limits.{most_routers, stride, most_routes, most_bits, farthest}
use Rattle.snapshot.specs.Ranges.{distance_tests, prefix_tests}
use Rattle.snapshot.proofs.RangesLaws.{none_at}
use Rattle.snapshot.specs.Records.{Form, count_form, router_form, distance_form, prefix_form, route_forms, end_form, four_byte, form_of, stands, form_at, sum, written, written_in, size, Fits, kind, values, values_at}
use Rattle.snapshot.proofs.RecordsLaws.{values_at_lem, values_written, length_spread, of_routes, routes_chosen}
use Rattle.snapshot.specs.Format.{Prefix, Snapshot, Pair, pairs, pairs_before, distance, Each, GoodId, GoodDistance, GoodRoute, GoodPrefix, Valid, records, routes_in, routes_bytes, routers_bytes, distances_bytes, prefixes_bytes, route_fields, encode}
use Rattle.snapshot.specs.Reading.{route_of}
use Rattle.snapshot.proofs.ChecksLaws.{count_range, routers_few}
use Rattle.snapshot.proofs.PairsLaws.{pairs_length, pair_two, pair_of}
use Rattle.snapshot.proofs.PlaceLaws.{kind_at}
use Rattle.snapshot.proofs.WrittenLaws.{routers_size, distances_size, encode_size}
use Rattle.snapshot.specs.Tables.{Tables, filled, used, put_distances}
use Rattle.cursor.specs.Steps.{id_at, router_place}
use Rattle.fill.specs.Fill.{ids_in, distance_in, entry_in, behind_distances, is_route, routes_from, behind_routes, prefix_with, prefixes_from, filled_from, Spans}
use Rattle.fill.specs.StoresLaws.{routes_turn, behind_turn}

-- each member of a list is good
each_at : {A : Type 0} (good : List A → A → Type 0) (before xs : List A) (d : A) → Each good before xs → (i : ℕ) → i < length xs → (front : List A) × good front (get_or xs i d)
each_at good before [] d h i l = absurd (not-suc-le-zero l)
each_at good before (x ∷ xs) d h zero l = (before, h.0)
each_at good before (x ∷ xs) d h (suc i) l = each_at good (before ++ (x ∷ [])) xs d h.1 i (omega arith)

-- ---- ids

drop_routers : (j : ℕ) (ids rest : List ℕ) (i : ℕ) → i ≤ length ids → drop (6 * i) (routers_bytes j ids ++ rest) ≡ routers_bytes (j + i) (drop i ids) ++ rest
drop_routers j ids rest zero h = ap (λ (k : ℕ). routers_bytes k ids ++ rest) (let e : j ≡ j + 0 = omega arith in e)
drop_routers j [] rest (suc i) h = absurd (not-suc-le-zero h)
drop_routers j (x ∷ ids) rest (suc i) h =
    ap (λ (k : ℕ). drop k (routers_bytes j (x ∷ ids) ++ rest)) (let e : 6 * suc i ≡ 6 + 6 * i = omega arith in e)
    ∙ sym (drop-drop (6 * i) 6 (routers_bytes j (x ∷ ids) ++ rest))
    ∙ drop_routers (suc j) ids rest i (omega arith)
    ∙ ap (λ (k : ℕ). routers_bytes k (drop i ids) ++ rest) (let e : suc j + i ≡ j + suc i = omega arith in e)

-- ---- distances

drop_distances : (ps : List Pair) (ds rest : List ℕ) (i : ℕ) → i ≤ length ds → length ds ≡ length ps
    → drop (7 * i) (distances_bytes ps ds ++ rest) ≡ distances_bytes (drop i ps) (drop i ds) ++ rest
drop_distances ps ds rest zero h e = refl
drop_distances ps [] rest (suc i) h e = absurd (not-suc-le-zero h)
drop_distances [] (d ∷ ds) rest (suc i) h e = absurd (let z : suc (length ds) ≡ 0 = e in omega arith)
drop_distances (p ∷ ps) (d ∷ ds) rest (suc i) h e =
    ap (λ (k : ℕ). drop k (distances_bytes (p ∷ ps) (d ∷ ds) ++ rest)) (let e : 7 * suc i ≡ 7 + 7 * i = omega arith in e)
    ∙ sym (drop-drop (7 * i) 7 (distances_bytes (p ∷ ps) (d ∷ ds) ++ rest))
    ∙ drop_distances ps ds rest i (omega arith) (let z : suc (length ds) ≡ suc (length ps) = e in omega arith)

module _ (s : Snapshot) (v : Valid s) where
  abbrev n : ℕ
  n = length s.ids

  few : n ≤ most_routers
  few = routers_few v

  abbrev end : List ℕ
  end = written end_form (records s ∷ [])

  -- the bytes of a snapshot, one section after the other
  abbrev third : List ℕ
  third = prefixes_bytes s.prefixes ++ end

  abbrev second : List ℕ
  second = distances_bytes (pairs n) s.distances ++ third

  sections : encode s ≡ written count_form (n ∷ []) ++ (routers_bytes 0 s.ids ++ second)
  sections = simp append_assoc

  behind_count : drop 2 (encode s) ≡ routers_bytes 0 s.ids ++ second
  behind_count = ap (drop 2) sections

  behind_routers : drop (6 * n + 2) (encode s) ≡ second
  behind_routers =
      ap (λ (k : ℕ). drop k (encode s)) (let e : 6 * n + 2 ≡ 2 + 6 * n = omega arith in e) ∙ sym (drop-drop (6 * n) 2 (encode s)) ∙ ap (drop (6 * n)) behind_count
      ∙ drop_at (routers_bytes 0 s.ids) second (6 * n) (routers_size 0 s.ids)

  square : length s.distances ≡ length (pairs n)
  square = v.square ∙ sym (pairs_length n)

  -- the prefixes stand behind the distances
  pub behind_distances_lem : drop (behind_distances n) (encode s) ≡ third
  behind_distances_lem =
      sym (drop-drop (7 * (n * (n - 1))) (6 * n + 2) (encode s)) ∙ ap (drop (7 * (n * (n - 1)))) behind_routers
      ∙ drop_at (distances_bytes (pairs n) s.distances) third (7 * (n * (n - 1)))
      (distances_size (pairs n) s.distances (let q = square in omega arith) ∙ ap (λ (k : ℕ). 7 * k) v.square)

  -- an id stands at its place
  id_at_lem : (i : ℕ) → i < n → id_at (encode s) (router_place (size count_form) i) ≡ get_or s.ids i 0
  id_at_lem i l =
      let x : ℕ = get_or s.ids i 0 in
      let rest : List ℕ = routers_bytes (suc i) (drop (suc i) s.ids) ++ second in
      let here : drop (2 + 6 * i) (encode s) ≡ written router_form (i ∷ x ∷ []) ++ rest =
      sym (drop-drop (6 * i) 2 (encode s)) ∙ ap (drop (6 * i)) behind_count ∙ drop_routers 0 s.ids second i (omega arith)
      ∙ ap₂ (λ (j : ℕ) (ids : List ℕ). routers_bytes j ids ++ second) (let e : 0 + i ≡ i = omega arith in e) (drop-cons s.ids i 0 l) in
      let small : x < 256 ^ 4 = (each_at GoodId [] s.ids 0 v.ids i l).1.fits in
      let f = few in
      let fit : Fits router_form.widths (i ∷ x ∷ []) = (omega arith, (small, tt)) in
      sym (number_drop 4 (2 + 6 * i) (encode s) 2) ∙ ap (λ (l : List ℕ). number_at 4 l 2) here
      ∙ ap (λ (l : List ℕ). get_or l 1 0) (values_written router_form (i ∷ x ∷ []) rest fit)

  -- a distance stands at its place
  distance_at_lem : (p : ℕ) → p < n * (n - 1) → number_at 4 (encode s) (7 * p + (6 * n + 5)) ≡ get_or s.distances p 0
  distance_at_lem p l =
      let d : Pair = record { from = 0; to = 0 } in
      let q : Pair = get_or (pairs n) p d in
      let x : ℕ = get_or s.distances p 0 in
      let rest : List ℕ = distances_bytes (drop (suc p) (pairs n)) (drop (suc p) s.distances) ++ third in
      let few : n ≤ most_routers = few in
      let long : length s.distances ≡ n * (n - 1) = v.square in
      let full : length (pairs n) ≡ n * (n - 1) = pairs_length n in
      let here : drop (6 * n + 2 + 7 * p) (encode s) ≡ written distance_form (q.from ∷ q.to ∷ x ∷ []) ++ rest =
      sym (drop-drop (7 * p) (6 * n + 2) (encode s)) ∙ ap (drop (7 * p)) behind_routers ∙ drop_distances (pairs n) s.distances third p (omega arith) square
      ∙ ap₂ (λ (ps : List Pair) (ds : List ℕ). distances_bytes ps ds ++ third) (drop-cons (pairs n) p d (omega arith)) (drop-cons s.distances p 0 (omega arith)) in
      let small : x ≤ farthest = ltb-false farthest x (none_at (distance_tests x) (each_at GoodDistance [] s.distances 0 v.distances p (omega arith)).1 0) in
      let two = pair_two n d p (omega arith) in
      let from : q.from < n = two.from in
      let to : q.to < n = two.to in
      let fit : Fits distance_form.widths (q.from ∷ q.to ∷ x ∷ []) = (omega arith, (omega arith, (omega arith, tt))) in
      ap (number_at 4 (encode s)) (let e : 7 * p + (6 * n + 5) ≡ 6 * n + 2 + 7 * p + 3 = omega arith in e) ∙ sym (number_drop 4 (6 * n + 2 + 7 * p) (encode s) 3)
      ∙ ap (λ (l : List ℕ). number_at 4 l 3) here
      ∙ ap (λ (l : List ℕ). get_or l 2 0) (values_written distance_form (q.from ∷ q.to ∷ x ∷ []) rest fit)

  ids_are : ids_in (encode s) n ≡ s.ids
  ids_are =
      let f : ℕ → ℕ = λ i. id_at (encode s) (router_place (size count_form) i) in
      let l = table_length n f in
      ext_get_or 0 (ids_in (encode s) n) s.ids l (λ i h. let m : i < n = omega arith in table_at f 0 n i m ∙ id_at_lem i m)

  distances_are : (from to : ℕ) → from < n → to < n → distance_in (encode s) n from to ≡ distance s from to
  distances_are from to hf ht = go (ℕ_discrete from to)
    where
      go : Dec (from ≡ to) → distance_in (encode s) n from to ≡ distance s from to
      go (yes e) =
          ap (λ (b : Bool). cond b 0 (number_at 4 (encode s) (7 * pairs_before n from to + (6 * n + 5)))) (eq-eqb from to e)
          ∙ sym (ap (λ (b : Bool). cond b 0 (get_or s.distances (pairs_before n from to) 0)) (eq-eqb from to e))
      go (no e) =
          ap (cond (eqb from to) 0) (distance_at_lem (pairs_before n from to) (pair_of n from to (record { from = 0; to = 0 }) hf ht e).0)

  entries_are : (ds : List ℕ) → table (length ds) (entry_in (encode s) n ds) ≡ put_distances s ds
  entries_are ds =
      table_same (entry_in (encode s) n ds) (λ k. cond (used n k) (distance s (k / stride) (k % stride)) (get_or ds k 0)) (length ds)
      (λ k l. one k (ltb (k / stride) n) (ltb (k % stride) n) refl refl)
    where
      one : (k : ℕ) (a b : Bool) → ltb (k / stride) n ≡ a → ltb (k % stride) n ≡ b
          → cond (a && b) (distance_in (encode s) n (k / stride) (k % stride)) (get_or ds k 0) ≡ cond (a && b) (distance s (k / stride) (k % stride)) (get_or ds k 0)
      one k true true e f = distances_are (k / stride) (k % stride) (ltb-true _ _ e) (ltb-true _ _ f)
      one k true false e f = refl
      one k false b e f = refl

-- ---- prefixes and routes

-- the bytes that stand at a place reach so far
reaches : (bs : List ℕ) (at : ℕ) (xs rest : List ℕ) (k : ℕ) → drop at bs ≡ xs ++ rest → length xs ≡ suc k → at + suc k ≤ length bs
reaches bs at xs rest k e l =
    let a : length (drop at bs) ≡ length bs - at = length-drop at bs in
    let b : length (drop at bs) ≡ length xs + length rest = ap length e ∙ length-append xs rest in
    omega arith

drop_more : (bs : List ℕ) (at : ℕ) (xs rest : List ℕ) (k : ℕ) → drop at bs ≡ xs ++ rest → length xs ≡ k → drop (at + k) bs ≡ rest
drop_more bs at xs rest k e l = sym (drop-drop k at bs) ∙ ap (drop k) e ∙ drop_at xs rest k l

-- the record of a route that stands at a place
module _ (bs : List ℕ) (at : ℕ) (r : Route) (more : List ℕ) (e : drop at bs ≡ written_in route_forms (route_fields r) ++ more)
    (fit : Fits (route_forms.chosen (route_fields r)).widths (route_fields r)) where
  abbrev its : Form
  its = route_forms.chosen (route_fields r)

  its_kind : get_or bs at 0 ≡ its.kind
  its_kind = sym (kind_at bs at) ∙ ap kind e

  its_form : form_at route_forms bs at ≡ its
  its_form = ap (form_of route_forms) its_kind ∙ routes_chosen.found (route_fields r)

  its_length : length (written its (route_fields r)) ≡ size its
  its_length = ap suc (length_spread its.widths (route_fields r) fit)

  route_here : is_route bs at ≡ true
  route_here =
      ap₂ ◌&&◌ (ap (stands route_forms) its_kind ∙ of_routes (λ f. stands route_forms f.kind ≡ true) refl refl (four_byte r.asn))
      (ap (λ (f : Form). leb (at + size f) (length bs)) its_form
      ∙ le-leb (at + size its) (length bs) (reaches bs at (written its (route_fields r)) more (sum its.widths) e its_length))

  route_is_lem : route_of (values_at (form_at route_forms bs at) bs at) ≡ r
  route_is_lem =
      ap (λ (f : Form). route_of (values_at f bs at)) its_form
      ∙ ap route_of (sym (values_at_lem its bs at) ∙ ap (values its) e ∙ values_written its (route_fields r) more fit)

  behind_route : drop (at + size (form_at route_forms bs at)) bs ≡ more
  behind_route = ap (λ (f : Form). drop (at + size f) bs) its_form ∙ drop_more bs at (written its (route_fields r)) more (size its) e its_length

-- the routes that stand at a place are those that were written there, and behind them stands what was written next
routes_from_lem : (n : ℕ) (bs rest : List ℕ) → stands route_forms (kind rest) ≡ false → (before rs : List Route) (at room : ℕ) → drop at bs ≡ routes_bytes rs ++ rest
    → Each (GoodRoute n) before rs → length rs ≤ room → (routes_from room bs at ≡ rs) × (drop (behind_routes room bs at) bs ≡ rest)
unfolding routes_from behind_routes
routes_from_lem n bs rest other before [] at zero e good l = (refl, e)
routes_from_lem n bs rest other before [] at (suc room) e good l =
    let no : is_route bs at ≡ false = ap (λ (b : Bool). b && leb (at + size (form_at route_forms bs at)) (length bs)) (ap (stands route_forms) (sym (kind_at bs at) ∙ ap kind e) ∙ other) in
    (routes_turn bs at no {left = room} refl, ap (λ (k : ℕ). drop k bs) (behind_turn bs at no {left = room} refl) ∙ e)
routes_from_lem n bs rest other before (r ∷ rs) at zero e good l = absurd (not-suc-le-zero l)
routes_from_lem n bs rest other before (r ∷ rs) at (suc room) e good l =
    let more : List ℕ = routes_bytes rs ++ rest in
    let e : drop at bs ≡ written_in route_forms (route_fields r) ++ more = e ∙ append_assoc (written_in route_forms (route_fields r)) (routes_bytes rs) rest in
    let fit = good.0.fits in
    let here = route_here bs at r more e fit in
    let (its, behind) = routes_from_lem n bs rest other (before ++ (r ∷ [])) rs (at + size (form_at route_forms bs at)) room (behind_route bs at r more e fit) good.1 (omega arith) in (
      routes_turn bs at here {left = room} refl ∙ ap₂ {C = List Route} ◌∷◌ (route_is_lem bs at r more e fit) its,
      ap (λ (k : ℕ). drop k bs) (behind_turn bs at here {left = room} refl) ∙ behind,
    )

-- what follows the routes of a prefix is no route
no_route : (ps : List Prefix) (k : ℕ) → stands route_forms (kind (prefixes_bytes ps ++ written end_form (k ∷ []))) ≡ false
no_route [] k = refl
no_route (p ∷ ps) k = refl

-- a prefix stands at a place, with its routes, and something behind them
pub record Stands (bs : List ℕ) (at : ℕ) (p : Prefix) (after : List ℕ) : Type 0 where
  pub whole : at + 6 ≤ length bs
  pub fields : values_at prefix_form bs at ≡ p.address ∷ p.bits ∷ []
  pub routes : (room : ℕ) → length p.routes ≤ room → (routes_from room bs (at + 6) ≡ p.routes) × (drop (behind_routes room bs (at + 6)) bs ≡ after)

pub prefix_stands : (n k : ℕ) (bs : List ℕ) (before : List Prefix) (p : Prefix) (ps : List Prefix) (at : ℕ)
    → drop at bs ≡ prefixes_bytes (p ∷ ps) ++ written end_form (k ∷ []) → GoodPrefix n before p → Stands bs at p (prefixes_bytes ps ++ written end_form (k ∷ []))
prefix_stands n k bs before p ps at e good =
    let vs : List ℕ = p.address ∷ p.bits ∷ [] in
    let end : List ℕ = written end_form (k ∷ []) in
    let after : List ℕ = prefixes_bytes ps ++ end in
    let rest : List ℕ = routes_bytes p.routes ++ after in
    let here : drop at bs ≡ written prefix_form vs ++ rest =
    e ∙ ap (λ (l : List ℕ). written prefix_form vs ++ l) (append_assoc (routes_bytes p.routes) (prefixes_bytes ps) end) in
    let short : p.bits ≤ most_bits = ltb-false most_bits p.bits (none_at (prefix_tests p.address p.bits) good.obeys.0 0) in
    let fit : Fits prefix_form.widths vs = (good.fits, (omega arith, tt)) in
    let next : drop (at + 6) bs ≡ rest = drop_more bs at (written prefix_form vs) rest 6 here refl in
    record {
      whole = reaches bs at (written prefix_form vs) rest 5 here refl;
      fields = sym (values_at_lem prefix_form bs at) ∙ ap (values prefix_form) here ∙ values_written prefix_form vs rest fit;
      routes = λ room l. routes_from_lem n bs after (no_route ps k) [] p.routes (at + 6) room next good.routes l;
    }

prefixes_from_lem : (n k : ℕ) (bs : List ℕ) (before ps : List Prefix) (at row : ℕ) → drop at bs ≡ prefixes_bytes ps ++ written end_form (k ∷ [])
    → Each (GoodPrefix n) before ps → row + routes_in ps ≤ most_routes → prefixes_from (length ps) bs at row ≡ ps
unfolding prefixes_from
prefixes_from_lem n k bs before [] at row e good l = refl
prefixes_from_lem n k bs before (p ∷ ps) at row e good l =
    let here = prefix_stands n k bs before p ps at e good.0 in
    let (its, next) = here.routes (most_routes - row) (omega arith) in
    let behind : ℕ = behind_routes (most_routes - row) bs (at + 6) in
    let found : List Route → List Prefix = λ rs. prefix_with bs at rs ∷ prefixes_from (length ps) bs behind (row + length rs) in
    ap (λ (b : Bool). cond b (found (routes_from (most_routes - row) bs (at + 6))) []) (le-leb (at + 6) (length bs) here.whole)
    ∙ ap found its
    ∙ ap₂ {C = List Prefix} ◌∷◌ (ap (λ (v : List ℕ). record { address = get_or v 0 0; bits = get_or v 1 0; routes = p.routes }) here.fields)
    (prefixes_from_lem n k bs (before ++ (p ∷ [])) ps behind (row + length p.routes) next good.1 (omega arith))

-- ---- the whole

module _ (s : Snapshot) (v : Valid s) where
  pub spans : Spans (encode s) (length s.ids)
  spans =
      let size = encode_size s v.square in
      let square : length s.distances ≡ length s.ids * (length s.ids - 1) = v.square in
      let range = count_range (length s.ids) v.count in
      record { some = range.0; few = range.1; long = omega arith }

  -- filling from the bytes of a snapshot fills it in
  pub fills : (t : Tables) → filled_from (encode s) (length s.ids) (length s.prefixes) t ≡ filled s t
  fills t =
      let routes : routes_in s.prefixes ≤ most_routes = v.few_routes in
      rw (ids_are s v, entries_are s v t.distances, prefixes_from_lem (length s.ids) (records s) (encode s) [] s.prefixes (behind_distances (length s.ids)) 0 (behind_distances_lem s v) v.prefixes (omega arith))
