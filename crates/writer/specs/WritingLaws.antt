-- The parts of a snapshot's bytes, their number by the counts and the ASes, and each case of writing.
use Rattle.std.specs.Prelude.{ℕ, ◌+◌, ◌-◌, ◌*◌, ◌≤◌, ◌<◌, ◌≡◌, refl, List, [], ◌∷◌, ◌++◌, map, length, take, T, Result, Err}
use Rattle.std.proofs.Common.{zero-le, mul-le-mul, arith, sym, ap, ◌∙◌, subst, ⊎_elim, append_assoc, length-take, get_or-take, lit≤}
use Rattle.std.proofs.lemmas.List.{length-map}
use Rattle.std.proofs.lemmas.List.Edits.{sets}
use Rattle.refusal.specs.declared.Refusal.{Refusal}
use Rattle.refusal.specs.declared.Refusal.TheVariants as refusal
use Rattle.refusal.specs.declared.Refused.{Refused}
use Rattle.refusal.specs.Numbers.{refuses}
use Rattle.model.specs.Rows.{span, table, column, start}
use Rattle.model.specs.Decision.{Route}
use Rattle.std.specs.List as list
use Rattle.std.proofs.lemmas.Simd.{map-map}
use Rattle.std.proofs.lemmas.List.Sums.{sum_by-cons}
use Rattle.model.proofs.RowLaws.{length_span, table_same}
use Rattle.snapshot.specs.declared.Counts.{Counts}
use Rattle.snapshot.specs.Limits.{most_routers, most_routes}
use Rattle.snapshot.specs.Ranges.{none}
use Rattle.snapshot.specs.Records.{count_form, end_form, four_byte_route_form, four_byte, sum, size, written}
use Rattle.snapshot.proofs.RecordsLaws.{of_routes}
use Rattle.snapshot.specs.Format.{Snapshot, pairs, routers_bytes, distances_bytes, prefixes_bytes, routes_in, records, encode}
use Rattle.snapshot.specs.Tables.{Tables, short, Room, counts_of, all_routes}
use Rattle.snapshot.proofs.ChecksLaws.{count_range}
use Rattle.snapshot.proofs.PairsLaws.{pairs_length}
use Rattle.snapshot.proofs.WrittenLaws.{route_size, routes_size, encode_size}
use Rattle.tables.specs.Judging.{route_at, prefix_at, snapshot_of, cell, InRange, Parts, Holding, numbered, Verdicts}
use Rattle.tables.specs.Theorems.{Placed, placed_err, verdict_refused}
use Rattle.tables.specs.ListsLaws.{as_table}
use Rattle.tables.specs.PartsLaws.{all_table, parts_valid, parts_held, holding_parts}
use Rattle.snapshot.proofs.TablesLaws.{has_room}
use Rattle.records.specs.Putting.{Space, Puts}
use Rattle.records.specs.PuttingLaws.{puts_append, space_first, space_then}
use Rattle.writer.specs.Writing.{network_bytes, pair_count, size_by, routes_of, size_of, records_of, wrote, Writes, room, unheld, full, done}

-- the pairs of at most 64 routers
pub pairs_most : (n : ℕ) → n ≤ most_routers → pair_count n ≤ pair_count most_routers
pairs_most n h = mul-le-mul h (let l : n - 1 ≤ most_routers - 1 = omega arith in l)

pub routers_range : {counts : Counts} → InRange counts → (1 ≤ counts.routers) × (counts.routers ≤ most_routers)
routers_range {counts} range = count_range counts.routers range.routers

-- ---- the sizes of routes

-- those of the first n routes, however many ASes there are
pub routes_take : (asn : List ℕ) (n : ℕ) → n ≤ length asn → routes_of (take n asn) (length (take n asn)) ≡ routes_of asn n
routes_take asn n l =
    let long : length (take n asn) ≡ n = simp length-take (omega arith) in
    ap (routes_of (take n asn)) long
    ∙ ap sum (table_same (λ k. size_by (four_byte (column (take n asn) k))) (λ k. size_by (four_byte (column asn k))) n (λ k m. ap (λ (a : ℕ). size_by (four_byte a)) (get_or-take n asn k 0 m)))

-- they are those of the ASes, one by one
pub sizes_of : (asn : List ℕ) → list.sum (map (λ a. size_by (four_byte a)) asn) ≡ routes_of asn (length asn)
sizes_of asn =
    let one : ℕ → ℕ = λ a. size_by (four_byte a) in
    same_sum (map one asn) ∙ ap (λ (xs : List ℕ). sum (map one xs)) (as_table 0 asn) ∙ ap sum (map-map one (column asn) (span 0 (length asn)))
  where
    same_sum : (xs : List ℕ) → list.sum xs ≡ sum xs
    same_sum [] = refl
    same_sum (x ∷ xs) = sum_by-cons (λ x. x) x xs ∙ ap (λ (n : ℕ). x + n) (same_sum xs)

-- each is that of kind 7 at most
pub sizes_most : (asn : List ℕ) → length asn ≤ most_routes → routes_of asn (length asn) ≤ size four_byte_route_form * most_routes
sizes_most asn few = let all = most (span 0 (length asn)) in let long = length_span 0 (length asn) in omega arith
  where
    most : (ks : List ℕ) → sum (map (λ k. size_by (four_byte (column asn k))) ks) ≤ size four_byte_route_form * length ks
    most [] = zero-le
    most (k ∷ ks) =
        let here : size_by (four_byte (column asn k)) ≤ size four_byte_route_form = of_routes (λ f. size f ≤ size four_byte_route_form) (lit≤ tt) (lit≤ tt) (four_byte (column asn k)) in
        let rest = most ks in
        omega arith

-- they are those of the routes that the columns hold
sizes_are : (f : ℕ → Route) (ks : List ℕ) → routes_size (map f ks) ≡ sum (map (λ k. route_size (f k)) ks)
sizes_are f [] = refl
sizes_are f (k ∷ ks) = ap (λ (n : ℕ). route_size (f k) + n) (sizes_are f ks)

regroup : (a b c d e : List ℕ) → (a ++ (b ++ (c ++ d))) ++ e ≡ (a ++ (b ++ c)) ++ (d ++ e)
regroup a b c d e = simp append_assoc

module _ {counts : Counts} {t : Tables} (has : Room t) (parts : Parts counts t) where
  abbrev s : Snapshot
  s = snapshot_of counts t

  counted : counts ≡ counts_of s
  counted = (parts_held has parts).0

  n_is : length s.ids ≡ counts.routers
  n_is = sym (ap (λ (c : Counts). c.routers) counted)

  distances_many : length s.distances ≡ pair_count counts.routers
  distances_many = length-map (pairs counts.routers) (λ p. cell t.distances p.from p.to) ∙ pairs_length counts.routers

  prefixes_many : length s.prefixes ≡ counts.prefixes
  prefixes_many = sym (ap (λ (c : Counts). c.prefixes) counted)

  routes_many : routes_in s.prefixes ≡ counts.routes
  routes_many = sym (ap (λ (c : Counts). c.routes) counted)

  sizes_many : routes_size (all_routes s.prefixes) ≡ routes_of t.rows.asn counts.routes
  sizes_many =
      ap routes_size (all_table t counts.prefixes)
      ∙ sizes_are (route_at t.rows) (span 0 (start t.routes counts.prefixes))
      ∙ ap (routes_of t.rows.asn) parts.prefixes.1

  records_are : records s ≡ records_of counts
  records_are =
      let a = n_is in
      let b = distances_many in
      let c = prefixes_many in
      let d = routes_many in
      omega arith

  -- the bytes of the snapshot, as they are put
  encode_parts : encode s ≡ network_bytes t.ids t.distances counts.routers ++ (prefixes_bytes s.prefixes ++ written end_form (records_of counts ∷ []))
  encode_parts =
      let n : ℕ = length s.ids in
      let ids : List ℕ = routers_bytes 0 s.ids in
      let ps : List ℕ = prefixes_bytes s.prefixes in
      regroup (written count_form (n ∷ [])) ids (distances_bytes (pairs n) s.distances) ps (written end_form (records s ∷ []))
      ∙ ap (λ (k : ℕ). (written count_form (k ∷ []) ++ (ids ++ distances_bytes (pairs k) s.distances)) ++ (ps ++ written end_form (records s ∷ []))) n_is
      ∙ ap (λ (k : ℕ). network_bytes t.ids t.distances counts.routers ++ (ps ++ written end_form (k ∷ []))) records_are

  -- they are put by these parts
  puts_snapshot : {before a b c : List ℕ} {m k r : ℕ} → Puts (network_bytes t.ids t.distances counts.routers) before 0 a m → Puts (prefixes_bytes s.prefixes) a m b k
      → c ≡ sets b k (written end_form (r ∷ [])) → r ≡ records_of counts → Puts (encode s) before 0 c (k + 5)
  puts_snapshot {before} {b} {c} {k} p q e f =
      subst (λ (bs : List ℕ). Puts bs before 0 c (k + 5)) (sym encode_parts)
      (puts_append p (puts_append q (record { same = e ∙ ap (λ (n : ℕ). sets b k (written end_form (n ∷ []))) f; place = refl })))

  -- their number
  encode_long : length (encode s) ≡ size_of counts t.rows.asn
  encode_long =
      let a = n_is in
      let b = distances_many in
      let c = prefixes_many in
      let d = sizes_many in
      let e = encode_size s (parts_valid has parts).square in
      omega arith

-- ---- the cases of writing

module _ (counts : Counts) (t : Tables) (before : List ℕ) where
  -- refused before the output is looked at
  pub writes_no : {v : Result Unit Refusal} {w : Result Unit Refused} {r : Refused} → Placed v w → w ≡ Err r → Verdicts counts t (numbered v) → Writes counts t before (refuses r.refusal r.place) before
  writes_no placed e given =
      let (q, same, at) = placed_err placed e in
      subst (λ (r : Refused). Writes counts t before (refuses r.refusal r.place) before) (sym at) (⊎_elim
      (λ k. subst (λ (q : Refusal). Writes counts t before (refuses q 0) before) (sym k.0) (room k.1))
      (λ k. subst (λ (q : Refusal). Writes counts t before (refuses q 0) before) (sym k.0) (unheld k.1 k.2))
      (verdict_refused given q (ap numbered same)))

  module _ (enough : T (none (short t))) (holding : Holding counts t) where
    has : Room t
    has = has_room t enough

    parts : Parts counts t
    parts = holding_parts has holding

    pub writes_full : length before < size_of counts t.rows.asn → Writes counts t before (refuses refusal.Room 0) before
    writes_full l =
        let size = encode_long has parts in
        full enough (snapshot_of counts t) (parts_valid has parts) (parts_held has parts) (omega arith)

    -- where there is room for all bytes, there is room for each part behind those before it
    module _ (l : size_of counts t.rows.asn ≤ length before) where
      abbrev network : List ℕ
      network = network_bytes t.ids t.distances counts.routers

      abbrev prefixes : List ℕ
      prefixes = prefixes_bytes (table counts.prefixes (prefix_at t))

      abbrev ending : List ℕ
      ending = written end_form (records_of counts ∷ [])

      writes_space : Space (network ++ (prefixes ++ ending)) before 0
      writes_space =
          let size = encode_long has parts in
          let whole : Space (encode (snapshot_of counts t)) before 0 = record { fits = omega arith } in
          subst (λ (bs : List ℕ). Space bs before 0) (encode_parts has parts) whole

      pub network_space : Space network before 0
      network_space = space_first network (prefixes ++ ending) writes_space

      module _ {a : List ℕ} {m : ℕ} (p : Puts network before 0 a m) where
        pub prefixes_space : Space prefixes a m
        prefixes_space = space_first prefixes ending (space_then network (prefixes ++ ending) writes_space p)

        pub end_room : {b : List ℕ} {k : ℕ} → Puts prefixes a m b k → k + size end_form ≤ length b
        end_room q = (space_then prefixes ending (space_then network (prefixes ++ ending) writes_space p) q).fits

    pub writes_done : {a b c : List ℕ} {m k r : ℕ} → size_of counts t.rows.asn ≤ length before → Puts (network_bytes t.ids t.distances counts.routers) before 0 a m
        → Puts (prefixes_bytes (table counts.prefixes (prefix_at t))) a m b k → c ≡ sets b k (written end_form (r ∷ [])) → r ≡ records_of counts
        → (k + 5 ≡ size_of counts t.rows.asn) × Writes counts t before (wrote (k + 5)) c
    writes_done {c} {k} l p q e f =
        let size = encode_long has parts in
        let puts = puts_snapshot has parts p q e f in
        let place = puts.place in (
          omega arith,
          subst (λ (out : List ℕ). Writes counts t before (wrote (k + 5)) out) (sym puts.same)
              (subst (λ (m : ℕ). Writes counts t before (wrote m) (sets before 0 (encode (snapshot_of counts t)))) (omega arith)
              (done enough (snapshot_of counts t) (parts_valid has parts) (parts_held has parts) (omega arith))),
        )
