-- What counts and tables hold: at most one snapshot, which is `snapshot_of`, and where its parts stand.
use Rattle.std.specs.Prelude.{ℕ, zero, suc, ◌+◌, ◌-◌, ◌*◌, ◌/◌, ◌%◌, ◌≤◌, ◌<◌, ◌≡◌, refl, ◌≢◌, Bool, true, cond, List, [], ◌∷◌, map, length, get_or, take}
use Rattle.std.proofs.Common.{not-suc-le-zero, arith, sym, ap, ◌∙◌, ext_get_or, take-suc, get_or-append-add, lt-ltb, eq-eqb, ne_eqb}
use Rattle.std.proofs.lemmas.List.{length-map}
use Rattle.std.proofs.Math.ListN.{get_or-append}
use Rattle.std.proofs.lemmas.List.Edits.{sets}
use Rattle.std.proofs.Math.Arith.{digits_lt, digits_div, digits_mod}
use Rattle.model.specs.Rows.{table, column, start}
use Rattle.model.specs.Decision.{Route}
use Rattle.model.proofs.RowLaws.{table_at, table_same}
use Rattle.snapshot.specs.declared.Counts.{Counts}
use Rattle.snapshot.specs.Limits.{most_routers, stride, most_prefixes, most_routes}
use Rattle.snapshot.specs.Format.{Prefix, Snapshot, Pair, pairs, pairs_before, distance, routes_in, Valid}
use Rattle.snapshot.specs.Tables.{Columns, Tables, used, put_distances, all_routes, filled, Held, Room}
use Rattle.snapshot.proofs.ChecksLaws.{routers_few, routes_in_append}
use Rattle.snapshot.proofs.PairsLaws.{pairs_length, pair_two, pair_at, pair_of}
use Rattle.tables.specs.Judging.{route_at, routes_at, prefix_at, cell, snapshot_of, Below}
use Rattle.tables.specs.ListsLaws.{as_table, map_at, stands}
use Rattle.snapshot.proofs.TablesLaws.{length_all}

-- ---- distances

pub no_pair : Pair
no_pair = record { from = 0; to = 0 }

-- the distances of the pairs, read from a table
abbrev pub cells : List ℕ → ℕ → List ℕ
cells ds n = map (λ p. cell ds p.from p.to) (pairs n)

pub cells_at : (ds : List ℕ) (n from to : ℕ) → from < n → to < n → from ≢ to → get_or (cells ds n) (pairs_before n from to) 0 ≡ cell ds from to
cells_at ds n from to h k ne =
    let (inside, is) = pair_of n from to no_pair h k ne in
    map_at (λ p. cell ds p.from p.to) (pairs n) no_pair 0 (pairs_before n from to) (rw pairs_length inside)
    ∙ ap (λ (p : Pair). cell ds p.from p.to) is

used_there : (n from to : ℕ) → from < n → to < n → n ≤ most_routers → (used n (from * stride + to) ≡ true) × ((from * stride + to) / stride ≡ from) × ((from * stride + to) % stride ≡ to)
used_there n from to h k m =
    let l : to < stride = omega arith in
    let d = digits_div from l in
    let r = digits_mod from l in
    (rw (d, r, lt-ltb from n h, lt-ltb to n k), d, r)

-- what filling leaves at a used entry
filled_there : (s : Snapshot) (ds : List ℕ) (from to : ℕ) → from < length s.ids → to < length s.ids → length s.ids ≤ most_routers → 4096 ≤ length ds
    → cell (put_distances s ds) from to ≡ distance s from to
filled_there s ds from to h k m room =
    let n : ℕ = length s.ids in
    let at : ℕ = from * stride + to in
    let g : ℕ → ℕ = λ k. cond (used n k) (distance s (k / stride) (k % stride)) (get_or ds k 0) in
    let (u, d, r) = used_there n from to h k m in
    let below = digits_lt {q = from} {m = most_routers} {r = to} {c = stride} (omega arith) (omega arith) in
    table_at g 0 (length ds) at (omega arith)
    ∙ ap (λ (b : Bool). cond b (distance s (at / stride) (at % stride)) (get_or ds at 0)) u
    ∙ ap (λ (f : ℕ). distance s f (at % stride)) d
    ∙ ap (λ (t : ℕ). distance s from t) r

-- the distance between two routers, of the distances of the pairs
pub distance_apart : (s : Snapshot) (from to : ℕ) → from ≢ to → distance s from to ≡ get_or s.distances (pairs_before (length s.ids) from to) 0
distance_apart s from to ne = ap (λ (b : Bool). cond b 0 (get_or s.distances (pairs_before (length s.ids) from to) 0)) (ne_eqb from to ne)

pub distance_equal : (s : Snapshot) (from to : ℕ) → from ≡ to → distance s from to ≡ 0
distance_equal s from to e = ap (λ (b : Bool). cond b 0 (get_or s.distances (pairs_before (length s.ids) from to) 0)) (eq-eqb from to e)

-- ---- routes

pub no_route : Route
no_route = record { router = 0; asn = 0; preference = 0; path = 0; origin = 0; mark = 0; med = 0; nid = 0; peer = 0 }

pub no_prefix_lem : Prefix
no_prefix_lem = record { address = 0; bits = 0; routes = [] }

-- the routes of a prefix stand behind those of the prefixes below it
all_at : (ps : List Prefix) (p k : ℕ) → p < length ps → k < length (get_or ps p no_prefix_lem).routes
    → (routes_in (take p ps) + k < routes_in ps) × (get_or (all_routes ps) (routes_in (take p ps) + k) no_route ≡ get_or (get_or ps p no_prefix_lem).routes k no_route)
all_at [] p k l m = absurd (not-suc-le-zero l)
all_at (q ∷ ps) zero k l m = (omega arith, ap (λ (i : ℕ). get_or (all_routes (q ∷ ps)) i no_route) (let e : 0 + k ≡ k = omega arith in e) ∙ get_or-append q.routes (all_routes ps) no_route k m)
all_at (q ∷ ps) (suc p) k l m =
    let (less, is) = all_at ps p k (omega arith) m in (
      omega arith,
      ap (λ (i : ℕ). get_or (all_routes (q ∷ ps)) i no_route) (let e : length q.routes + routes_in (take p ps) + k ≡ length q.routes + (routes_in (take p ps) + k) = omega arith in e)
          ∙ get_or-append-add q.routes (all_routes ps) (routes_in (take p ps) + k) no_route ∙ is,
    )

-- where the routes of a prefix start
sum_below : (routes : List ℕ) (ps : List Prefix) → Below (length ps) (λ p. column routes p ≡ length (get_or ps p no_prefix_lem).routes) → (p : ℕ) → p ≤ length ps
    → start routes p ≡ routes_in (take p ps)
unfolding start
sum_below routes ps h zero l = refl
sum_below routes ps h (suc p) l =
    let ih = sum_below routes ps h p (omega arith) in
    let here = h p (omega arith) in
    let more : routes_in (take (suc p) ps) ≡ routes_in (take p ps) + routes_in (get_or ps p no_prefix_lem ∷ []) =
    ap routes_in (take-suc ps p no_prefix_lem (omega arith)) ∙ routes_in_append (take p ps) (get_or ps p no_prefix_lem ∷ []) in
    omega arith

-- where to store a field of each member would change nothing, it is there
field_is : {A : Type 0} (f : A → ℕ) (d : A) (ys : List A) (xs : List ℕ) → length ys ≤ length xs → sets xs 0 (map f ys) ≡ xs
    → Below (length ys) (λ k. column xs k ≡ f (get_or ys k d))
field_is f d ys xs h e k l =
    let n = length-map ys f in
    sym (stands xs (map f ys) (omega arith) e k (omega arith)) ∙ map_at f ys d 0 k l

route_is_lem : (c : Columns) (q : ℕ) (r : Route) → column c.router q ≡ r.router → column c.asn q ≡ r.asn → column c.preference q ≡ r.preference
    → column c.path q ≡ r.path → column c.origin q ≡ r.origin → column c.mark q ≡ r.mark → column c.med q ≡ r.med
    → column c.nid q ≡ r.nid → column c.peer q ≡ r.peer → route_at c q ≡ r
route_is_lem c q r e1 e2 e3 e4 e5 e6 e7 e8 e9 = rw (e1, e2, e3, e4, e5, e6, e7, e8, e9)

prefix_is : (a b : ℕ) (rs : List Route) (p : Prefix) → a ≡ p.address → b ≡ p.bits → rs ≡ p.routes → p ≡ record { address = a; bits = b; routes = rs }
prefix_is a b rs p e1 e2 e3 = rw (e1, e2, e3)

snapshot_is : (s : Snapshot) {ids ds : List ℕ} {ps : List Prefix} → s.ids ≡ ids → s.distances ≡ ds → s.prefixes ≡ ps → s ≡ record { ids = ids; distances = ds; prefixes = ps }
snapshot_is s e1 e2 e3 = rw (← e1, ← e2, ← e3)

-- ---- the only snapshot

module _ {counts : Counts} {t : Tables} {s : Snapshot} (room : Room t) (valid : Valid s) (held : Held counts t s) where
  pub n_is : counts.routers ≡ length s.ids
  n_is = ap (λ (c : Counts). c.routers) held.0

  ids_are : s.ids ≡ table (length s.ids) (column t.ids)
  ids_are =
      as_table 0 s.ids
      ∙ table_same (λ k. get_or s.ids k 0) (column t.ids) (length s.ids)
      (stands t.ids s.ids (omega (arith, routers_few valid)) (ap (λ (u : Tables). u.ids) held.1))

  pub cell_is : (from to : ℕ) → from < length s.ids → to < length s.ids → cell t.distances from to ≡ distance s from to
  cell_is from to h k =
      ap (λ (u : Tables). cell u.distances from to) (sym held.1) ∙ filled_there s t.distances from to h k (routers_few valid) room.distances

  distances_are : s.distances ≡ cells t.distances (length s.ids)
  distances_are =
      let n : ℕ = length s.ids in
      let f : Pair → ℕ = λ p. cell t.distances p.from p.to in
      let square : length s.distances ≡ n * (n - 1) = valid.square in
      let all = length-map (pairs n) f in
      let many = pairs_length n in
      ext_get_or 0 s.distances (cells t.distances n) (omega arith)
      (λ k l.
      let p : Pair = get_or (pairs n) k no_pair in
      let two = pair_two n no_pair k (omega arith) in
      ap (λ (i : ℕ). get_or s.distances i 0) (sym (pair_at n k no_pair (omega arith)))
      ∙ sym (distance_apart s p.from p.to two.apart)
      ∙ sym (cell_is p.from p.to two.from two.to)
      ∙ sym (map_at f (pairs n) no_pair 0 k (omega arith)))

  routes_fit : length (all_routes s.prefixes) ≤ most_routes
  routes_fit = let e = length_all s.prefixes in let l = valid.few_routes in omega arith

  row_is : (q : ℕ) → q < routes_in s.prefixes → route_at t.rows q ≡ get_or (all_routes s.prefixes) q no_route
  row_is q h =
      let rs : List Route = all_routes s.prefixes in
      let e = length_all s.prefixes in
      let l : q < length rs = omega arith in
      let short : length rs ≤ most_routes = routes_fit in
      let same : filled s t ≡ t = held.1 in
      route_is_lem t.rows q (get_or rs q no_route)
      (field_is (λ r. r.router) no_route rs t.rows.router (omega arith) (ap (λ (u : Tables). u.rows.router) same) q l)
      (field_is (λ r. r.asn) no_route rs t.rows.asn (omega arith) (ap (λ (u : Tables). u.rows.asn) same) q l)
      (field_is (λ r. r.preference) no_route rs t.rows.preference (omega arith) (ap (λ (u : Tables). u.rows.preference) same) q l)
      (field_is (λ r. r.path) no_route rs t.rows.path (omega arith) (ap (λ (u : Tables). u.rows.path) same) q l)
      (field_is (λ r. r.origin) no_route rs t.rows.origin (omega arith) (ap (λ (u : Tables). u.rows.origin) same) q l)
      (field_is (λ r. r.mark) no_route rs t.rows.mark (omega arith) (ap (λ (u : Tables). u.rows.mark) same) q l)
      (field_is (λ r. r.med) no_route rs t.rows.med (omega arith) (ap (λ (u : Tables). u.rows.med) same) q l)
      (field_is (λ r. r.nid) no_route rs t.rows.nid (omega arith) (ap (λ (u : Tables). u.rows.nid) same) q l)
      (field_is (λ r. r.peer) no_route rs t.rows.peer (omega arith) (ap (λ (u : Tables). u.rows.peer) same) q l)

  prefixes_are : s.prefixes ≡ table (length s.prefixes) (prefix_at t)
  prefixes_are =
      let ps : List Prefix = s.prefixes in
      let most : length ps ≤ most_prefixes = valid.few_prefixes in
      let count = field_is (λ p. length p.routes) no_prefix_lem ps t.routes (omega arith) (ap (λ (u : Tables). u.routes) held.1) in
      as_table no_prefix_lem ps
      ∙ table_same (λ p. get_or ps p no_prefix_lem) (prefix_at t) (length ps)
      (λ p l.
      let q : Prefix = get_or ps p no_prefix_lem in
      let at = sum_below t.routes ps count p (omega arith) in
      prefix_is _ _ _ q
      (field_is (λ p. p.address) no_prefix_lem ps t.address (omega arith) (ap (λ (u : Tables). u.address) held.1) p l)
      (field_is (λ p. p.bits) no_prefix_lem ps t.bits (omega arith) (ap (λ (u : Tables). u.bits) held.1) p l)
      (ap (λ (n : ℕ). routes_at t.rows (start t.routes p) n) (count p l)
      ∙ table_same (λ k. route_at t.rows (start t.routes p + k)) (λ k. get_or q.routes k no_route) (length q.routes)
      (λ k m. let (less, is) = all_at ps p k l m in
      ap (λ (a : ℕ). route_at t.rows (a + k)) at ∙ row_is (routes_in (take p ps) + k) less ∙ is)
      ∙ sym (as_table no_route q.routes)))

  -- a snapshot that is held is the one of the tables
  pub held_is : s ≡ snapshot_of counts t
  held_is = snapshot_is s
      (ids_are ∙ ap (λ (n : ℕ). table n (column t.ids)) (sym n_is))
      (distances_are ∙ ap (cells t.distances) (sym n_is))
      (prefixes_are ∙ ap (λ (n : ℕ). table n (prefix_at t)) (sym (ap (λ (c : Counts). c.prefixes) held.0)))
