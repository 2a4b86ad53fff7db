-- Counts and tables hold a snapshot exactly when each part obeys.
use Rattle.std.specs.Prelude.{ℕ, zero, suc, ◌+◌, ◌/◌, ◌%◌, ◌≤◌, ◌<◌, ◌≡◌, refl, Bool, true, false, cond, not, ◌&&◌, List, [], ◌∷◌, ◌++◌, map, length, get_or, T, eqb, ltb}
use Rattle.std.proofs.Common.{div-add-mod', arith, sym, ap, ◌∙◌, subst, append-nil, ext_get_or, ltb-true, eqb-true, eq-eqb}
use Rattle.std.proofs.lemmas.Bool.{false≢true, eqb-false, not-false}
use Rattle.std.proofs.lemmas.Simd.{map-map}
use Rattle.std.proofs.lemmas.List.{length-map}
use Rattle.std.proofs.lemmas.List.Edits.{sets}
use Rattle.model.specs.Rows.{span, table, column, start}
use Rattle.model.specs.Decision.{Route}
use Rattle.model.proofs.RowLaws.{table_length, table_at, table_same, by, both, table_append, table_snoc}
use Rattle.snapshot.specs.declared.Counts.{Counts}
use Rattle.snapshot.specs.Limits.{stride, most_routes}
use Rattle.snapshot.specs.Ranges.{none, distance_tests}
use Rattle.snapshot.proofs.RangesLaws.{none_cons, none_split}
use Rattle.snapshot.specs.Format.{Snapshot, Pair, pairs, pairs_before, distance, routes_in, Each, GoodId, GoodDistance, GoodPrefix, Valid}
use Rattle.snapshot.specs.Tables.{Columns, Tables, columns, tables, used, put_distances, put_routes, all_routes, Held, Room, Wide}
use Rattle.snapshot.proofs.ChecksLaws.{count_range}
use Rattle.snapshot.proofs.PairsLaws.{pairs_length, pair_two, pair_of}
use Rattle.tables.specs.Judging.{route_at, prefix_at, cell, snapshot_of, Below, cell_tests, CellGood, IdGood, InRange, Totalled, Parts, Decides, Holding, Judged}
use Rattle.tables.specs.ListsLaws.{as_table, map_at, each_below, below_each, stays}
use Rattle.snapshot.proofs.TablesLaws.{length_all, all_append}
use Rattle.tables.specs.HeldLaws.{no_pair, cells, cells_at, distance_apart, distance_equal, held_is, cell_is, n_is}

-- ---- a cell of the distances

pub and_zero : (b : Bool) (d : ℕ) → (b && not (eqb d 0)) ≡ false → b ≡ true → d ≡ 0
and_zero b d off e = eqb-true d 0 (not-false (eqb d 0) (rw e at off))

pub cell_zero : (from to d : ℕ) → T (none (cell_tests from to d)) → from ≡ to → d ≡ 0
cell_zero from to d t e = and_zero (eqb from to) d (none_split (eqb from to && not (eqb d 0)) (distance_tests d) t).0 (eq-eqb from to e)

pub cell_range : (from to d : ℕ) → T (none (cell_tests from to d)) → T (none (distance_tests d))
cell_range from to d t = (none_split (eqb from to && not (eqb d 0)) (distance_tests d) t).1

pub cell_good : (from to d : ℕ) → (from ≡ to → d ≡ 0) → T (none (distance_tests d)) → T (none (cell_tests from to d))
cell_good from to d h t = none_cons (distance_tests d) (off (eqb from to) refl) t
  where
    off : (b : Bool) → eqb from to ≡ b → (eqb from to && not (eqb d 0)) ≡ false
    off true e = rw (e, eq-eqb d 0 (h (eqb-true from to e)))
    off false e = rw e

-- ---- the routes of all prefixes stand one after the other

pub all_table : (t : Tables) (m : ℕ) → all_routes (table m (prefix_at t)) ≡ table (start t.routes m) (route_at t.rows)
unfolding start
all_table t zero = refl
all_table t (suc m) =
    ap all_routes (table_snoc (prefix_at t) m) ∙ all_append (table m (prefix_at t)) (prefix_at t m ∷ [])
    ∙ ap (λ (l : List Route). l ++ all_routes (prefix_at t m ∷ [])) (all_table t m)
    ∙ ap (λ (l : List Route). table (start t.routes m) (route_at t.rows) ++ l) (append-nil (prefix_at t m).routes)
    ∙ sym (table_append (route_at t.rows) (start t.routes m) (column t.routes m))

routes_table : (t : Tables) (m : ℕ) → routes_in (table m (prefix_at t)) ≡ start t.routes m
routes_table t m = sym (length_all (table m (prefix_at t))) ∙ ap length (all_table t m) ∙ table_length (start t.routes m) (route_at t.rows)

-- ---- from the parts to the snapshot

-- a column that has a field of each member is stored with no change
field_stays : {A : Type 0} (f : A → ℕ) (g : ℕ → A) (xs : List ℕ) (n : ℕ) → n ≤ length xs → Below n (λ k. f (g k) ≡ column xs k) → sets xs 0 (map f (table n g)) ≡ xs
field_stays f g xs n h e = ap (sets xs 0) (map-map f g (span 0 n) ∙ table_same (λ k. f (g k)) (column xs) n e) ∙ stays xs n h

counts_are : (c : Counts) {n p r : ℕ} → n ≡ c.routers → p ≡ c.prefixes → r ≡ c.routes → c ≡ record { routers = n; prefixes = p; routes = r }
counts_are c e1 e2 e3 = rw (e1, e2, e3)

pub tables_are : (t : Tables) {ids ds address bits routes : List ℕ} {rows : Columns} → ids ≡ t.ids → ds ≡ t.distances → address ≡ t.address → bits ≡ t.bits
    → routes ≡ t.routes → rows ≡ t.rows → tables ids ds address bits routes rows ≡ t
tables_are t e1 e2 e3 e4 e5 e6 = rw (e1, e2, e3, e4, e5, e6)

pub columns_are : (c : Columns) {a b d e f g h i j : List ℕ} → a ≡ c.router → b ≡ c.asn → d ≡ c.preference → e ≡ c.path → f ≡ c.origin → g ≡ c.mark
    → h ≡ c.med → i ≡ c.nid → j ≡ c.peer → columns a b d e f g h i j ≡ c
columns_are c e1 e2 e3 e4 e5 e6 e7 e8 e9 = rw (e1, e2, e3, e4, e5, e6, e7, e8, e9)

rows_stay : (c : Columns) (n : ℕ) → Wide most_routes c → n ≤ most_routes → put_routes c 0 (table n (route_at c)) ≡ c
rows_stay c n room h =
    columns_are c
    (field_stays (λ r. r.router) (route_at c) c.router n (omega arith) (λ k l. refl))
    (field_stays (λ r. r.asn) (route_at c) c.asn n (omega arith) (λ k l. refl))
    (field_stays (λ r. r.preference) (route_at c) c.preference n (omega arith) (λ k l. refl))
    (field_stays (λ r. r.path) (route_at c) c.path n (omega arith) (λ k l. refl))
    (field_stays (λ r. r.origin) (route_at c) c.origin n (omega arith) (λ k l. refl))
    (field_stays (λ r. r.mark) (route_at c) c.mark n (omega arith) (λ k l. refl))
    (field_stays (λ r. r.med) (route_at c) c.med n (omega arith) (λ k l. refl))
    (field_stays (λ r. r.nid) (route_at c) c.nid n (omega arith) (λ k l. refl))
    (field_stays (λ r. r.peer) (route_at c) c.peer n (omega arith) (λ k l. refl))

module _ {counts : Counts} {t : Tables} (room : Room t) (parts : Parts counts t) where
  abbrev s : Snapshot
  s = snapshot_of counts t

  n_long : length s.ids ≡ counts.routers
  n_long = table_length counts.routers (column t.ids)

  total_is : routes_in s.prefixes ≡ counts.routes
  total_is = routes_table t counts.prefixes ∙ parts.prefixes.1

  distance_is : (from to : ℕ) → from < counts.routers → to < counts.routers → distance s from to ≡ cell t.distances from to
  distance_is from to h k =
      by (eqb from to)
      (λ e. let q = eqb-true from to e in distance_equal s from to q ∙ sym (cell_zero from to (cell t.distances from to) (parts.distances from h to k).ranges q))
      (λ e. let q = eqb-false from to e in
      distance_apart s from to q
      ∙ ap (λ (n : ℕ). get_or s.distances (pairs_before n from to) 0) n_long
      ∙ cells_at t.distances counts.routers from to h k q)

  distances_stay : put_distances s t.distances ≡ t.distances
  distances_stay =
      let ds : List ℕ = t.distances in
      let g : ℕ → ℕ = λ k. cond (used (length s.ids) k) (distance s (k / stride) (k % stride)) (get_or ds k 0) in
      let long = table_length (length ds) g in
      ext_get_or 0 (table (length ds) g) ds long
      (λ k l.
      table_at g 0 (length ds) k (omega arith)
      ∙ by (used (length s.ids) k)
      (λ u. let m = both (ltb (k / stride) (length s.ids)) (ltb (k % stride) (length s.ids)) u in
      let h = ltb-true (k / stride) (length s.ids) m.0 in
      let w = ltb-true (k % stride) (length s.ids) m.1 in
      let n = n_long in
      ap (λ (b : Bool). cond b (distance s (k / stride) (k % stride)) (get_or ds k 0)) u
      ∙ distance_is (k / stride) (k % stride) (omega arith) (omega arith)
      ∙ ap (column ds) (div-add-mod' k stride))
      (λ u. ap (λ (b : Bool). cond b (distance s (k / stride) (k % stride)) (get_or ds k 0)) u))

  pub parts_held : Held counts t s
  parts_held =
      let n = count_range counts.routers parts.range.routers in
      let most = parts.range.prefixes in
      let fits = parts.range.routes in (
        counts_are counts n_long (table_length counts.prefixes (prefix_at t)) total_is,
        tables_are t
            (stays t.ids counts.routers (omega arith))
            distances_stay
            (field_stays (λ p. p.address) (prefix_at t) t.address counts.prefixes (omega arith) (λ k l. refl))
            (field_stays (λ p. p.bits) (prefix_at t) t.bits counts.prefixes (omega arith) (λ k l. refl))
            (field_stays (λ p. length p.routes) (prefix_at t) t.routes counts.prefixes (omega arith)
            (λ k l. table_length (column t.routes k) (λ q. route_at t.rows (start t.routes k + q))))
            (ap (put_routes t.rows 0) (all_table t counts.prefixes ∙ ap (λ (n : ℕ). table n (route_at t.rows)) parts.prefixes.1)
            ∙ rows_stay t.rows counts.routes room.prefixes.rows fits),
      )

  distances_good : Each GoodDistance [] s.distances
  distances_good =
      let n : ℕ = counts.routers in
      let f : Pair → ℕ = λ p. cell t.distances p.from p.to in
      let ds : List ℕ = cells t.distances n in
      let long = length-map (pairs n) f in
      subst (Each GoodDistance []) (sym (as_table 0 ds))
      (below_each GoodDistance (λ k. get_or ds k 0) (length ds)
      (λ k l.
      let p : Pair = get_or (pairs n) k no_pair in
      let two = pair_two n no_pair k (omega arith) in
      subst (λ (d : ℕ). T (none (distance_tests d))) (sym (map_at f (pairs n) no_pair 0 k (omega arith)))
      (cell_range p.from p.to (f p) (parts.distances p.from two.from p.to two.to).ranges)))

  pub parts_valid : Valid s
  parts_valid = record {
    count = rw n_long parts.range.routers;
    ids = below_each GoodId (column t.ids) counts.routers parts.ids;
    square = rw n_long (length-map (pairs counts.routers) _ ∙ pairs_length counts.routers);
    distances = distances_good;
    few_prefixes = rw (table_length counts.prefixes (prefix_at t)) parts.range.prefixes;
    few_routes = rw total_is parts.range.routes;
    prefixes = rw n_long (below_each (GoodPrefix counts.routers) (prefix_at t) counts.prefixes parts.prefixes.0);
  }

-- ---- from a snapshot to the parts

module _ {counts : Counts} {t : Tables} (room : Room t) (valid : Valid (snapshot_of counts t)) (held : Held counts t (snapshot_of counts t)) where
  long : length (table counts.routers (column t.ids)) ≡ counts.routers
  long = table_length counts.routers (column t.ids)

  cells_good : Below counts.routers (λ from. Below counts.routers (CellGood t.distances from))
  cells_good from h to k =
      let n : ℕ = counts.routers in
      let ds : List ℕ = cells t.distances n in
      let d : ℕ = cell t.distances from to in
      let e = n_is room valid held in
      let is = cell_is room valid held from to (omega arith) (omega arith) in
      by (eqb from to)
      (λ e. let z : d ≡ 0 = is ∙ distance_equal (snapshot_of counts t) from to (eqb-true from to e) in record { ranges = cell_good from to d (λ _. z) (rw z tt) })
      (λ e. let ne = eqb-false from to e in
      let all = length-map (pairs n) (λ (p : Pair). cell t.distances p.from p.to) in
      let many = pairs_length n in
      let inside = (pair_of n from to no_pair h k ne).0 in
      let good = each_below GoodDistance (λ k. get_or ds k 0) (length ds) (subst (Each GoodDistance []) (as_table 0 ds) valid.distances) (pairs_before n from to) (omega arith) in
      record { ranges = cell_good from to d (λ q. absurd (ne q)) (subst (λ (d : ℕ). T (none (distance_tests d))) (cells_at t.distances n from to h k ne) good) })

  obeyed : Parts counts t
  obeyed =
      let sum : counts.routes ≡ routes_in (table counts.prefixes (prefix_at t)) = ap (λ (c : Counts). c.routes) held.0 in
      record {
        range = record {
          routers = rw long at valid.count;
          prefixes = rw (table_length counts.prefixes (prefix_at t)) at valid.few_prefixes;
          routes = rw (sym sum) at valid.few_routes;
        };
        ids = each_below GoodId (column t.ids) counts.routers valid.ids;
        distances = cells_good;
        prefixes = (
          each_below (GoodPrefix counts.routers) (prefix_at t) counts.prefixes (rw long at valid.prefixes),
          sym (routes_table t counts.prefixes) ∙ sym sum,
        );
      }

-- where counts and tables hold a snapshot, each part obeys
pub holding_parts : {counts : Counts} {t : Tables} → Room t → Holding counts t → Parts counts t
holding_parts {counts} {t} room h =
    let e = held_is room h.valid h.held in
    obeyed room (subst Valid e h.valid) (subst (Held counts t) e h.held)

pub parts_holding : {counts : Counts} {t : Tables} → Room t → Parts counts t → Holding counts t
parts_holding {counts} {t} room parts = record { snapshot = snapshot_of counts t; valid = parts_valid room parts; held = parts_held room parts }

-- ---- judgements

module _ {counts : Counts} {t : Tables} (room : Room t) where
  -- one part that does not obey
  pub judged_no : (Parts counts t → ⊥) → Judged counts t false
  judged_no f = record { yes = λ e. absurd (false≢true e); no = λ _ h. f (holding_parts room h) }

  -- the last part decides, where the others obey
  pub judged_last : {answer : Bool} → InRange counts → Below counts.routers (IdGood t.ids)
      → Below counts.routers (λ from. Below counts.routers (CellGood t.distances from)) → Decides (Totalled counts t) answer → Judged counts t answer
  judged_last c i d last = record {
    yes = λ e. parts_holding room (record { range = c; ids = i; distances = d; prefixes = last.yes e });
    no = λ e h. last.no e (holding_parts room h).prefixes;
  }
