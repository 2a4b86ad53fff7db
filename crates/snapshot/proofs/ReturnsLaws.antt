-- The writing of a valid snapshot is read back as that snapshot: section by section, from the last to the first.
use Prim.Native.Nat.{ℕ, suc, ◌+◌, ◌-◌, ◌*◌, ◌^◌, ◌≤◌, ◌<◌}
use Rattle.std.proofs.Common.{mul-le-mul, ◌∙◌, lt→ltb}
use native.Mathlib.Omega.{arith}
use Rattle.std.specs.Prelude.{◌≡◌, get_or, leb}
use Rattle.std.proofs.Math.Path.{refl, sym, ap, ap₂}
use mathlib.Core.List.{List, [], ◌∷◌, ◌++◌, append_assoc, append-nil}
use Rattle.std.proofs.Math.ListN.{length}
use Rattle.std.proofs.Math.Dec.{eqb_refl}
use borrow.Author.Tests.{ltb-false, lt-leb}
use Rattle.model.specs.Decision.{Route}
use Rattle.snapshot.specs.Limits.{most_routers, farthest, most_prefixes, most_bits, most_in_prefix, most_routes}
use Rattle.snapshot.specs.Ranges.{id_tests, distance_tests, prefix_tests}
use Rattle.snapshot.proofs.RangesLaws.{none_at, none_cons}
use Rattle.snapshot.specs.Records.{count_form, router_form, distance_form, prefix_form, route_forms, end_form, forms, only, written, written_in, Fits, size_in}
use Rattle.snapshot.proofs.RecordsLaws.{values_written, only_chosen, routes_chosen}
use Rattle.snapshot.specs.Format.{Prefix, Snapshot, Pair, pairs, Each, GoodId, GoodDistance, GoodRoute, GoodPrefix, Valid, records, routes_in, routes_bytes, routers_bytes, distances_bytes, prefixes_bytes, route_fields, encode}
use Rattle.snapshot.specs.Reading.{Answer, accepted, open_routes, add_route, prefix_of, route_of, prefix_extra, prefix_values, prefix_record, route_extra, route_values, route_record, end_values, end_record, items, distance_values, distance_record, distances, router_values, router_record, routers, count_values, count_record, reading}
use Rattle.snapshot.proofs.ChecksLaws.{judged_passed, stands_back, values_back, drop_back, record_passes, count_range, length_snoc, snoc_some, routes_in_append}
use Rattle.snapshot.proofs.SectionsLaws.{items_prefix, items_route, items_end}
use Rattle.snapshot.proofs.PairsLaws.{AllTwo, pairs_two, pairs_length}

-- ---- prefixes and their routes

pub open_last : (ps : List Prefix) (p : Prefix) → open_routes (ps ++ (p ∷ [])) ≡ p.routes
open_last [] p = refl
open_last (q ∷ []) p = refl
open_last (q ∷ r ∷ ps) p = open_last (r ∷ ps) p

add_last : (ps : List Prefix) (p : Prefix) (r : Route)
    → add_route (ps ++ (p ∷ [])) r ≡ ps ++ (record { address = p.address; bits = p.bits; routes = p.routes ++ (r ∷ []) } ∷ [])
add_last [] p r = refl
add_last (q ∷ []) p r = refl
add_last (q ∷ x ∷ ps) p r = ap {B = List Prefix} (λ l. q ∷ l) (add_last (x ∷ ps) p r)

module _ (ids ds : List ℕ) where
  abbrev S : List Prefix → Snapshot
  S ps = record { ids = ids; distances = ds; prefixes = ps }

  module _ (done : List Prefix) (address bits : ℕ) where
    abbrev opened : List Route → List Prefix
    opened rs = done ++ (record { address = address; bits = bits; routes = rs } ∷ [])

    routes_back : (a : Answer) (before rs : List Route) (at : ℕ) (rest : List ℕ)
        → length before + length rs ≤ most_in_prefix → routes_in done + (length before + length rs) ≤ most_routes
        → Each (GoodRoute (length ids)) before rs
        → ((at' : ℕ) → items (S (opened (before ++ rs))) at' rest ≡ a)
        → items (S (opened before)) at (routes_bytes rs ++ rest) ≡ a
    unfolding route_record
    routes_back a before [] at rest few all good next = rw (← append-nil before) (next at)
    routes_back a before (r ∷ rs) at rest few all good next =
        let vs : List ℕ = route_fields r in
        let more : List ℕ = routes_bytes rs ++ rest in
        let bs : List ℕ = written_in route_forms vs ++ more in
        let fit : Fits (route_forms.chosen vs).widths vs = good.0.fits in
        let s : Snapshot = S (opened before) in
        let n : ℕ = length ids in
        let here : open_routes (opened before) ≡ before = open_last done _ in
        let count : routes_in (opened before) ≡ routes_in done + length before = routes_in_append done _ ∙ (let q : routes_in done + (length before + 0) ≡ routes_in done + length before = omega arith in q) in
        let after : ℕ = at + size_in route_forms bs in
        ap (items s at) (append_assoc (written_in route_forms vs) (routes_bytes rs) rest)
        ∙ items_route s at bs (stands_back forms route_forms routes_chosen vs more fit)
        ∙ judged_passed (route_record s bs) _ _
        (record_passes forms route_forms routes_chosen vs more fit (route_extra s) (route_values s) (
          snoc_some done _,
          (rw here (lt→ltb (length before) most_in_prefix (omega arith)), (rw count (lt→ltb (routes_in done + length before) most_routes (omega arith)), tt)),
        )
        (rw here good.0.obeys))
        ∙ ap₂ (λ (v l : List ℕ). items (S (add_route (opened before) (route_of v))) after l)
        (values_back forms route_forms routes_chosen vs more fit) (drop_back forms route_forms routes_chosen vs more fit)
        ∙ ap (λ (ps : List Prefix). items (S ps) after more) (add_last done _ r)
        ∙ (let l = length_snoc before r in
        routes_back a (before ++ (r ∷ [])) rs after rest (omega arith) (omega arith) good.1 (λ at'. rw append_assoc (next at')))

  module _ (all : List Prefix) (small : records (S all) < 256 ^ 4) where
    prefixes_back : (done ps : List Prefix) (at : ℕ)
        → done ++ ps ≡ all → length done + length ps ≤ most_prefixes → routes_in done + routes_in ps ≤ most_routes
        → Each (GoodPrefix (length ids)) done ps
        → items (S done) at (prefixes_bytes ps ++ written end_form (records (S all) ∷ [])) ≡ accepted (S all)
    unfolding prefix_record end_record
    prefixes_back done [] at is few routes good =
        let s : Snapshot = S done in
        let same : done ≡ all = sym (append-nil done) ∙ is in
        let bs : List ℕ = written end_form (records (S all) ∷ []) in
        items_end s at bs (omega arith) tt
        ∙ judged_passed (end_record forms (records s) bs) _ _
        (record_passes forms (only end_form) (only_chosen forms end_form tt) (records (S all) ∷ []) [] (small, tt) [] (end_values (records s)) tt (rw same (eqb_refl (records (S all))), tt))
        ∙ ap (λ (ps : List Prefix). accepted (S ps)) same
    prefixes_back done (p ∷ ps) at is few routes good =
        let s : Snapshot = S done in
        let vs : List ℕ = p.address ∷ p.bits ∷ [] in
        let end : List ℕ = written end_form (records (S all) ∷ []) in
        let rest : List ℕ = routes_bytes p.routes ++ (prefixes_bytes ps ++ end) in
        let bs : List ℕ = written prefix_form vs ++ rest in
        let bits_fit : p.bits < 256 = let l : p.bits ≤ most_bits = ltb-false most_bits p.bits (none_at (prefix_tests p.address p.bits) good.0.obeys.0 0) in omega arith in
        let fit : Fits prefix_form.widths vs = (good.0.fits, (bits_fit, tt)) in
        let few_here : length p.routes ≤ most_in_prefix = good.0.most in
        ap (λ (l : List ℕ). items s at (written prefix_form vs ++ l)) (append_assoc (routes_bytes p.routes) (prefixes_bytes ps) end)
        ∙ items_prefix s at bs refl
        ∙ judged_passed (prefix_record s bs) _ _
        (record_passes forms (only prefix_form) (only_chosen forms prefix_form tt) vs rest fit (prefix_extra s) (prefix_values s) (lt→ltb (length done) most_prefixes (omega arith), tt) good.0.obeys)
        ∙ ap (λ (v : List ℕ). items (S (done ++ (prefix_of v ∷ []))) (at + 6) rest) (values_written prefix_form vs rest fit)
        ∙ routes_back done p.address p.bits (accepted (S all)) [] p.routes (at + 6) (prefixes_bytes ps ++ end)
        (omega arith) (omega arith) good.0.routes
        (λ at'. prefixes_back (done ++ (p ∷ [])) ps at'
        (append_assoc done (p ∷ []) ps ∙ is)
        (let l = length_snoc done p in omega arith)
        (rw routes_in_append (omega arith))
        good.1)

-- ---- the distances

module _ (ids : List ℕ) (few : length ids ≤ most_routers) where
  distances_back : (a : Answer) (due : List Pair) (ds more : List ℕ) (at : ℕ) (rest : List ℕ)
      → AllTwo (length ids) due → length more ≡ length due → Each GoodDistance ds more
      → ((at' : ℕ) → items (record { ids = ids; distances = ds ++ more; prefixes = [] }) at' rest ≡ a)
      → distances due ids ds at (distances_bytes due more ++ rest) ≡ a
  unfolding distances distance_record
  distances_back a [] ds [] at rest of l good next = rw (← append-nil ds) (next at)
  distances_back a [] ds (d ∷ more) at rest of l good next = absurd (let q : suc (length more) ≡ 0 = l in omega arith)
  distances_back a (p ∷ due) ds [] at rest of l good next = absurd (let q : 0 ≡ suc (length due) = l in omega arith)
  distances_back a (p ∷ due) ds (d ∷ more) at rest of l good next =
      let vs : List ℕ = p.from ∷ p.to ∷ d ∷ [] in
      let after : List ℕ = distances_bytes due more ++ rest in
      let small : d ≤ farthest = ltb-false farthest d (none_at (distance_tests d) good.0 0) in
      let from : p.from < length ids = of.0.from in
      let to : p.to < length ids = of.0.to in
      let fit : Fits distance_form.widths vs = (omega arith, (omega arith, (omega arith, tt))) in
      judged_passed (distance_record (length ids) p (written distance_form vs ++ after)) _ _
      (record_passes forms (only distance_form) (only_chosen forms distance_form tt) vs after fit [] (distance_values (length ids) p) tt
      (none_cons (leb (length ids) p.to ∷ distance_tests d) (lt-leb (length ids) p.from from) (none_cons (distance_tests d) (lt-leb (length ids) p.to to) good.0), (eqb_refl p.from, (eqb_refl p.to, tt))))
      ∙ ap (λ (v : List ℕ). distances due ids (ds ++ (get_or v 2 0 ∷ [])) (at + 7) after) (values_written distance_form vs after fit)
      ∙ distances_back a due (ds ++ (d ∷ [])) more (at + 7) rest of.1 (omega arith) good.1 (λ at'. rw append_assoc (next at'))

-- ---- the routers

module _ (n : ℕ) (few : n ≤ most_routers) where
  routers_back : (a : Answer) (ids more : List ℕ) (at : ℕ) (rest : List ℕ)
      → length ids + length more ≡ n → Each GoodId ids more
      → ((at' : ℕ) → distances (pairs (length (ids ++ more))) (ids ++ more) [] at' rest ≡ a)
      → routers n (length more) ids at (routers_bytes (length ids) more ++ rest) ≡ a
  unfolding routers router_record
  routers_back a ids [] at rest l good next = rw (← append-nil ids) (next at)
  routers_back a ids (x ∷ more) at rest l good next =
      let vs : List ℕ = length ids ∷ x ∷ [] in
      let after : List ℕ = routers_bytes (suc (length ids)) more ++ rest in
      let fit : Fits router_form.widths vs = (omega arith, (good.0.fits, tt)) in
      judged_passed (router_record n ids (written router_form vs ++ after)) _ _
      (record_passes forms (only router_form) (only_chosen forms router_form tt) vs after fit [] (router_values n ids) tt
      (none_cons (id_tests x) (lt-leb n (length ids) (omega arith)) good.0.ranges, (eqb_refl (length ids), (good.0.alone, tt))))
      ∙ ap (λ (v : List ℕ). routers n (length more) (ids ++ (get_or v 1 0 ∷ [])) (at + 6) after) (values_written router_form vs after fit)
      ∙ ap (λ (i : ℕ). routers n (length more) (ids ++ (x ∷ [])) (at + 6) (routers_bytes i more ++ rest)) (sym (length_snoc ids x))
      ∙ routers_back a (ids ++ (x ∷ [])) more (at + 6) rest (let q = length_snoc ids x in omega arith) good.1
      (λ at'. rw append_assoc (next at'))

-- ---- the whole

few_records : (s : Snapshot) → Valid s → records s ≤ 5185
few_records s v =
    let few : length s.ids ≤ most_routers = (count_range (length s.ids) v.count).1 in
    let square : length s.ids * (length s.ids - 1) ≤ 64 * 63 =
    mul-le-mul few (let l : length s.ids - 1 ≤ 63 = omega arith in l) in
    let distances : length s.distances ≡ length s.ids * (length s.ids - 1) = v.square in
    omega arith

pub reading_back : (s : Snapshot) → Valid s → reading (encode s) ≡ accepted s
unfolding reading count_record
reading_back s v =
    let ids : List ℕ = s.ids in
    let n : ℕ = length ids in
    let few : n ≤ most_routers = (count_range n v.count).1 in
    let end : List ℕ = written end_form (records s ∷ []) in
    let third : List ℕ = prefixes_bytes s.prefixes ++ end in
    let second : List ℕ = distances_bytes (pairs n) s.distances ++ third in
    let rest : List ℕ = routers_bytes 0 ids ++ second in
    let fit : Fits count_form.widths (n ∷ []) = (omega arith, tt) in
    let records_fit : records s < 256 ^ 4 = let l = few_records s v in omega arith in
    let regroup : encode s ≡ written count_form (n ∷ []) ++ rest = simp append_assoc in
    ap reading regroup
    ∙ judged_passed (count_record (written count_form (n ∷ []) ++ rest)) _ _
    (record_passes forms (only count_form) (only_chosen forms count_form tt) (n ∷ []) rest fit [] count_values tt (v.count, tt))
    ∙ ap (λ (vs : List ℕ). routers (get_or vs 0 0) (get_or vs 0 0) [] 2 rest) (values_written count_form (n ∷ []) rest fit)
    ∙ routers_back n few (accepted s) [] ids 2 second (omega arith) v.ids
    (λ at. distances_back ids few (accepted s) (pairs n) [] s.distances at third (pairs_two n)
    (v.square ∙ sym (pairs_length n)) v.distances
    (λ at. prefixes_back ids s.distances s.prefixes records_fit [] s.prefixes at refl
    (let l : length s.prefixes ≤ most_prefixes = v.few_prefixes in omega arith)
    (let l : routes_in s.prefixes ≤ most_routes = v.few_routes in omega arith)
    v.prefixes))
