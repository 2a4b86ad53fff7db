-- What is written: how long it is, that it is bytes, and that it tells the snapshot.
use Rattle.std.specs.Prelude.{ℕ, suc, ◌+◌, ◌*◌, ◌-◌, ◌≤◌, ◌≡◌, refl, List, [], ◌∷◌, ◌++◌, map, length, T, ltb}
use Rattle.std.proofs.Common.{mul-le-mul, arith, sym, ap, ◌∙◌, length-append, lit≤}
use Rattle.std.proofs.Math.Pow.{are_bytes}
use Rattle.model.specs.Decision.{Route}
use Rattle.wire.specs.NumbersLaws.{bytes_append}
use Rattle.snapshot.specs.Limits.{most_routers, most_prefixes, most_routes, longest}
use Rattle.snapshot.specs.Records.{count_form, router_form, distance_form, prefix_form, route_forms, end_form, four_byte, route_form_by, sum, size, written, written_in}
use Rattle.snapshot.proofs.RecordsLaws.{bytes_written, of_routes}
use Rattle.snapshot.specs.Format.{Prefix, Snapshot, Pair, pairs, Valid, records, routes_in, routes_bytes, routers_bytes, distances_bytes, prefixes_bytes, route_fields, encode_open, encode}
use Rattle.snapshot.specs.Tables.{all_routes}
use Rattle.snapshot.proofs.TablesLaws.{length_all}
use Rattle.snapshot.specs.Reading.{reading}
use Rattle.snapshot.proofs.ChecksLaws.{accepted_injective, count_range}
use Rattle.snapshot.proofs.PairsLaws.{pairs_length}
use Rattle.snapshot.proofs.ReturnsLaws.{reading_back}

-- ---- the length

pub routers_size : (i : ℕ) (ids : List ℕ) → length (routers_bytes i ids) ≡ 6 * length ids
routers_size i [] = refl
routers_size i (id ∷ ids) = let e = routers_size (suc i) ids in omega arith

pub distances_size : (ps : List Pair) (ds : List ℕ) → length ds ≤ length ps → length (distances_bytes ps ds) ≡ 7 * length ds
distances_size ps [] h = refl
distances_size [] (d ∷ ds) h = absurd (omega arith)
distances_size (p ∷ ps) (d ∷ ds) h = let e = distances_size ps ds (omega arith) in omega arith

-- the bytes of a route's record
abbrev pub route_size : Route → ℕ
route_size r = size (route_form_by (four_byte r.asn))

-- and of the records of these routes
abbrev pub routes_size : List Route → ℕ
routes_size rs = sum (map route_size rs)

pub route_size_lem : (r : Route) (rest : List ℕ) → length (written_in route_forms (route_fields r) ++ rest) ≡ route_size r + length rest
route_size_lem r rest = of_routes (λ f. length (written f (route_fields r) ++ rest) ≡ size f + length rest) (omega arith) (omega arith) (four_byte r.asn)

pub routes_size_lem : (rs : List Route) → length (routes_bytes rs) ≡ routes_size rs
routes_size_lem [] = refl
routes_size_lem (r ∷ rs) = let e = routes_size_lem rs in let here = route_size_lem r (routes_bytes rs) in omega arith

pub sizes_append : (rs qs : List Route) → routes_size (rs ++ qs) ≡ routes_size rs + routes_size qs
sizes_append [] qs = omega arith
sizes_append (r ∷ rs) qs = let e = sizes_append rs qs in omega arith

pub prefixes_size : (ps : List Prefix) → length (prefixes_bytes ps) ≡ 6 * length ps + routes_size (all_routes ps)
prefixes_size [] = refl
prefixes_size (p ∷ ps) =
    let e = prefixes_size ps in
    let r = routes_size_lem p.routes in
    let l = length-append (routes_bytes p.routes) (prefixes_bytes ps) in
    let both = sizes_append p.routes (all_routes ps) in
    omega arith

pub encode_size : (s : Snapshot) → length s.distances ≡ length s.ids * (length s.ids - 1)
    → length (encode s) ≡ 7 + 6 * length s.ids + 7 * length s.distances + 6 * length s.prefixes + routes_size (all_routes s.prefixes)
encode_size s h =
    let n : ℕ = length s.ids in
    let q = pairs_length n in
    let a = routers_size 0 s.ids in
    let b = distances_size (pairs n) s.distances (omega arith) in
    let c = prefixes_size s.prefixes in
    simp length-append (omega arith)

routes_short : (rs : List Route) → routes_size rs ≤ 26 * length rs
routes_short [] = omega arith
routes_short (r ∷ rs) =
    let here : route_size r ≤ 26 = of_routes (λ f. size f ≤ 26) (lit≤ tt) (lit≤ tt) (four_byte r.asn) in
    let ih = routes_short rs in
    omega arith

pub encode_short : (s : Snapshot) → Valid s → length (encode s) ≤ longest
encode_short s v =
    let e = encode_size s v.square in
    let most : length s.ids ≤ most_routers = (count_range (length s.ids) v.count).1 in
    let square : length s.ids * (length s.ids - 1) ≤ 64 * 63 = mul-le-mul most (let l : length s.ids - 1 ≤ 63 = omega arith in l) in
    let distances : length s.distances ≡ length s.ids * (length s.ids - 1) = v.square in
    let prefixes : length s.prefixes ≤ most_prefixes = v.few_prefixes in
    let routes : routes_in s.prefixes ≤ most_routes = v.few_routes in
    let all = length_all s.prefixes in
    let sizes = routes_short (all_routes s.prefixes) in
    omega arith

-- ---- bytes

bytes_routers : (i : ℕ) (ids : List ℕ) → T (are_bytes (routers_bytes i ids))
bytes_routers i [] = tt
bytes_routers i (id ∷ ids) = bytes_written router_form (i ∷ id ∷ []) (routers_bytes (suc i) ids) tt (bytes_routers (suc i) ids)

bytes_distances : (ps : List Pair) (ds : List ℕ) → T (are_bytes (distances_bytes ps ds))
bytes_distances ps [] = tt
bytes_distances [] (d ∷ ds) = tt
bytes_distances (p ∷ ps) (d ∷ ds) = bytes_written distance_form (p.from ∷ p.to ∷ d ∷ []) (distances_bytes ps ds) tt (bytes_distances ps ds)

bytes_routes : (rs : List Route) → T (are_bytes (routes_bytes rs))
bytes_routes [] = tt
bytes_routes (r ∷ rs) =
    bytes_written (route_forms.chosen (route_fields r)) (route_fields r) (routes_bytes rs)
    (of_routes (λ f. T (ltb f.kind 256)) tt tt (four_byte r.asn)) (bytes_routes rs)

bytes_prefixes : (ps : List Prefix) → T (are_bytes (prefixes_bytes ps))
bytes_prefixes [] = tt
bytes_prefixes (p ∷ ps) =
    bytes_written prefix_form (p.address ∷ p.bits ∷ []) (routes_bytes p.routes ++ prefixes_bytes ps) tt
    (bytes_append (routes_bytes p.routes) (prefixes_bytes ps) (bytes_routes p.routes) (bytes_prefixes ps))

pub encode_bytes : (s : Snapshot) → T (are_bytes (encode s))
encode_bytes s =
    let n : ℕ = length s.ids in
    let ds : List ℕ = distances_bytes (pairs n) s.distances in
    let ps : List ℕ = prefixes_bytes s.prefixes in
    bytes_append (encode_open s) (written end_form (records s ∷ []))
    (bytes_written count_form (n ∷ []) (routers_bytes 0 s.ids ++ (ds ++ ps)) tt
    (bytes_append (routers_bytes 0 s.ids) (ds ++ ps) (bytes_routers 0 s.ids)
    (bytes_append ds ps (bytes_distances (pairs n) s.distances) (bytes_prefixes s.prefixes))))
    (bytes_written end_form (records s ∷ []) [] tt tt)

-- ---- no two valid snapshots have the same bytes

pub encode_injective : (s t : Snapshot) → Valid s → Valid t → encode s ≡ encode t → s ≡ t
encode_injective s t v w e = accepted_injective (sym (reading_back s v) ∙ ap reading e ∙ reading_back t w)
