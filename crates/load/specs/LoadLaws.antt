-- What is loaded for a prefix is what reading would leave in tables for it, so its forecast is the snapshot's.
use Rattle.std.specs.Prelude.{ℕ, zero, suc, ◌+◌, ◌≤◌, ◌<◌, ◌≡◌, refl, Bool, cond, List, [], ◌∷◌, ◌++◌, map, get_or, take, drop, replicate}
use Rattle.std.proofs.Common.{not-suc-le-zero, sym, ap, ap₂, ◌∙◌, subst, subst₂, take_at, le-leb}
use native.Mathlib.Omega.{arith}
use Rattle.std.proofs.Math.ListN.{length, length-replicate}
use Rattle.std.proofs.lemmas.List.{length-map}
use Rattle.std.proofs.lemmas.List.Edits.{sets}
use Rattle.model.specs.Rows.{table}
use Rattle.model.specs.Decision.{Mesh, Route}
use Rattle.model.proofs.ColumnLaws.{sets_front}
use Rattle.model.specs.Columns as decided
use Rattle.model.specs.Columns.{lent_mesh, Placed}
use Rattle.model.specs.Stability.{Between}
use Rattle.snapshot.specs.Limits.{most_in_prefix, most_routes}
use Rattle.snapshot.specs.Records.{end_form, written}
use Rattle.snapshot.specs.Format.{Prefix, Snapshot, Each, GoodPrefix, Valid, records, prefixes_bytes, encode}
use Rattle.snapshot.specs.Tables.{Columns, Tables, columns, tables, filled, put_routes, routes_of, counts_of, Held, mesh, Room, Wide}
use Rattle.fill.specs.Fill.{ids_in, entry_in, behind_distances, routes_from, behind_routes, Spans}
use Rattle.fill.specs.FillLaws.{Stands, prefix_stands, behind_distances_lem, spans, fills}
use Rattle.fill.specs.StoresLaws.{Alike, alike_put}
use Rattle.tables.specs.ListsLaws.{map_at}
use Rattle.tables.specs.HeldLaws.{no_prefix_lem}
use Rattle.tables.specs.FilledLaws.{filled_held, filled_room}
use Rattle.tables.specs.Theorems.{routes_few}
use Rattle.decide.specs.declared.Differing.{Differing}
use Rattle.decide.specs.Decide.{differing_of, Decided}
use Rattle.outlook.specs.OutlookLaws.{columns_of, lent, lent_between, lent_placed}
use Rattle.load.specs.Load.{place_from, routes_place, asked_routes, WideRows, Asked, Lends, Loaded, front, Forecast}

-- ---- the place of a prefix

-- the prefix of a number stands so many behind the first
stands_at_lem : (n k : ℕ) (bs : List ℕ) (before ps : List Prefix) (at p : ℕ) → drop at bs ≡ prefixes_bytes ps ++ written end_form (k ∷ [])
    → Each (GoodPrefix n) before ps → p < length ps → (after : List ℕ) × Stands bs (place_from p bs at) (get_or ps p no_prefix_lem) after
unfolding place_from
stands_at_lem n k bs before [] at p e good l = absurd (not-suc-le-zero l)
stands_at_lem n k bs before (q ∷ qs) at zero e good l = (prefixes_bytes qs ++ written end_form (k ∷ []), prefix_stands n k bs before q qs at e good.0)
stands_at_lem n k bs before (q ∷ qs) at (suc p) e good l =
    let here = prefix_stands n k bs before q qs at e good.0 in
    let behind : ℕ = behind_routes most_in_prefix bs (at + 6) in
    let next : place_from (suc p) bs at ≡ place_from p bs behind = ap (λ (b : Bool). cond b (place_from p bs behind) at) (le-leb (at + 6) (length bs) here.whole) in
    let (after, there) = stands_at_lem n k bs (before ++ (q ∷ [])) qs behind p (here.routes most_in_prefix good.0.most).1 good.1 (omega arith) in
    (after, subst (λ (m : ℕ). Stands bs m (get_or qs p no_prefix_lem) after) (sym next) there)

-- ---- columns

front_field : (f : Route → ℕ) (rs : List Route) (xs : List ℕ) → length rs ≤ length xs → take (length rs) (sets xs 0 (map f rs)) ≡ map f rs
front_field f rs xs h =
    let long : length (map f rs) ≡ length rs = length-map rs f in
    ap (take (length rs)) (sets_front xs (map f rs) (omega arith)) ∙ take_at (map f rs) (drop (length (map f rs)) xs) (length rs) long

-- routes that are put at the front stand there
front_put : (c : Columns) (rs : List Route) → WideRows (length rs) c → front (length rs) (put_routes c 0 rs) ≡ columns_of rs
front_put c rs w =
    rw (
      front_field (λ r. r.router) rs c.router w.router,
      front_field (λ r. r.asn) rs c.asn w.asn,
      front_field (λ r. r.preference) rs c.preference w.preference,
      front_field (λ r. r.path) rs c.path w.path,
      front_field (λ r. r.origin) rs c.origin w.origin,
      front_field (λ r. r.med) rs c.med w.med,
      front_field (λ r. r.nid) rs c.nid w.nid,
      front_field (λ r. r.peer) rs c.peer w.peer,
    )

alike : (c : Columns) → Alike c c
alike c = alike_put c 0 []

rows_less : {m n : ℕ} {c d : Columns} → m ≤ n → WideRows n c → Alike d c → WideRows m d
rows_less h w a = omega arith

-- ---- columns without marks

sets_none : (i : ℕ) (xs : List ℕ) → sets [] i xs ≡ []
sets_none i [] = refl
sets_none i (x ∷ xs) = sets_none (suc i) xs

-- routes that are put into columns are put into those without marks
abbrev drop_marks : Columns → Columns
drop_marks c = columns c.router c.asn c.preference c.path c.origin [] c.med c.nid c.peer

put_unmarked : (c : Columns) (i : ℕ) (rs : List Route) → drop_marks (put_routes c i rs) ≡ put_routes (drop_marks c) i rs
put_unmarked c i rs = rw (sets_none i (map (λ r. r.mark) rs))

-- and these have room where those have
pub wide_marked : {n : ℕ} (c : Columns) → WideRows n (drop_marks c) → n ≤ length c.mark → Wide n c
wide_marked c w m = omega arith

-- ---- the routes of a prefix

module _ {s : Snapshot} (valid : Valid s) {p : ℕ} (below : p < length s.prefixes) where
  abbrev n : ℕ
  n = length s.ids

  abbrev bs : List ℕ
  bs = encode s

  stands : (after : List ℕ) × Stands bs (place_from p bs (behind_distances n)) (get_or s.prefixes p no_prefix_lem) after
  stands = stands_at_lem n (records s) bs [] s.prefixes (behind_distances n) p (behind_distances_lem s valid) valid.prefixes below

  inside : routes_place bs n p ≤ length bs
  inside = stands.1.whole

  routes_are : asked_routes bs n p ≡ routes_of s p
  routes_are =
      let its : routes_of s p ≡ (get_or s.prefixes p no_prefix_lem).routes = map_at (λ (q : Prefix). q.routes) s.prefixes no_prefix_lem [] p below in
      (stands.1.routes most_in_prefix (subst (λ (rs : List Route). length rs ≤ most_in_prefix) its (routes_few valid p below))).0 ∙ sym its

  -- ---- what is decided on it

  module _ {ids₀ distances₀ : List ℕ} {c₀ : Columns} (room : Lends ids₀ distances₀ c₀) {rows : ℕ} {ids distances : List ℕ} {c : Columns}
      (loaded : Loaded bs n p ids₀ distances₀ c₀ rows ids distances c) where
    zeros : List ℕ
    zeros = replicate most_routes 0

    long : most_routes ≤ length zeros
    unfolding zeros
    long = let n : length (replicate {A = ℕ} most_routes 0) ≡ most_routes = length-replicate {A = ℕ} most_routes 0 in omega arith

    -- tables into which the whole snapshot could be read
    abbrev before : Tables
    before = tables ids₀ distances₀ zeros zeros zeros (columns zeros zeros zeros zeros zeros zeros zeros zeros zeros)

    enough : Room before
    enough = let l = long in record {
      ids = room.ids_long;
      distances = room.distances_long;
      prefixes = record {
        address = omega arith;
        bits = omega arith;
        routes = omega arith;
        rows = record { router = l; asn = l; preference = l; path = l; origin = l; mark = l; med = l; nid = l; peer = l };
      };
    }

    abbrev after : Tables
    after = filled s before

    enough_after : Room after
    enough_after = filled_room s enough

    held : Held (counts_of s) after s
    held = filled_held valid enough

    -- the ids and distances are then the same
    ids_is : ids ≡ after.ids
    ids_is = loaded.ids_are ∙ ap (λ (t : Tables). t.ids) (fills s valid before)

    distances_is : distances ≡ after.distances
    distances_is = loaded.distances_are ∙ ap (λ (t : Tables). t.distances) (fills s valid before)

    few : rows ≤ most_in_prefix
    few =
        let count = loaded.count in
        let most = subst (λ (l : List Route). length l ≤ most_in_prefix) (sym routes_are) (routes_few valid p below) in
        omega arith

    front_is : front rows c ≡ columns_of (routes_of s p)
    front_is =
        let most = few in
        let count = loaded.count in
        ap₂ front count loaded.columns_are ∙ front_put c₀ (asked_routes bs n p) (rows_less (omega arith) room.rows (alike c₀)) ∙ ap columns_of routes_are

    -- so what is said of the one is said of the other
    module _ (of : ℕ → List ℕ → List ℕ → decided.Columns → Type 0) where
      to_after : of n ids distances (front rows c) → of n after.ids after.distances (columns_of (routes_of s p))
      to_after h =
          subst (of n after.ids after.distances) front_is
          (subst (λ (x : List ℕ). of n after.ids x (front rows c)) distances_is (subst (λ (x : List ℕ). of n x distances (front rows c)) ids_is h))

      from_after : of n after.ids after.distances (columns_of (routes_of s p)) → of n ids distances (front rows c)
      from_after h =
          subst (λ (x : List ℕ). of n x distances (front rows c)) (sym ids_is)
          (subst (λ (x : List ℕ). of n after.ids x (front rows c)) (sym distances_is) (subst (of n after.ids after.distances) (sym front_is) h))

    placed : Placed n ids distances (front rows c)
    placed = from_after Placed (lent_placed enough_after valid held p below)

    decides : {d : Differing} {early late : List ℕ} → Decided (lent_mesh n ids distances (front rows c)) d early late
        → Between (mesh s p) early late × (d ≡ differing_of (mesh s p) early late)
    decides {d} {early} {late} h =
        let k : Decided (lent enough_after valid held p below) d early late = to_after (λ m x y t. Decided (lent_mesh m x y t) d early late) h in (
          subst₂ (λ (x y : List ℕ). Between (mesh s p) x y) (sym k.early_rows) (sym k.late_rows) (lent_between enough_after valid held p below),
          k.differs ∙ ap₂ (differing_of (mesh s p)) (sym k.early_rows) (sym k.late_rows),
        )

-- ---- for the code

-- the parts are loaded one after the other
pub loaded : (bs : List ℕ) (n p : ℕ) {first at rows : ℕ} {ids₀ distances₀ ids distances : List ℕ} (c₀ c : Columns) → first ≡ behind_distances n → at ≡ place_from p bs first
    → ids ≡ sets ids₀ 0 (ids_in bs n) → distances ≡ table (length distances₀) (entry_in bs n distances₀)
    → rows ≡ 0 + length (routes_from most_in_prefix bs (at + 6)) → c ≡ put_routes c₀ 0 (routes_from most_in_prefix bs (at + 6))
    → Loaded bs n p ids₀ distances₀ (drop_marks c₀) rows ids distances (drop_marks c)
loaded bs n p {first} {at} {rows} c₀ c e f i d r k =
    let place : at ≡ place_from p bs (behind_distances n) = f ∙ ap (place_from p bs) e in
    let routes : routes_from most_in_prefix bs (at + 6) ≡ asked_routes bs n p = ap (λ (a : ℕ). routes_from most_in_prefix bs (a + 6)) place in
    record {
      count = (let z : rows ≡ length (routes_from most_in_prefix bs (at + 6)) = omega arith in z) ∙ ap length routes;
      ids_are = i;
      distances_are = d;
      columns_are = ap drop_marks k ∙ put_unmarked c₀ 0 (routes_from most_in_prefix bs (at + 6)) ∙ ap (put_routes (drop_marks c₀) 0) routes;
    }

-- columns that are the same are loaded
pub loaded_as : {bs : List ℕ} {n p rows : ℕ} {ids₀ distances₀ ids distances : List ℕ} {c₀ c : Columns} (d : Columns)
    → Loaded bs n p ids₀ distances₀ c₀ rows ids distances d → c ≡ d → Loaded bs n p ids₀ distances₀ c₀ rows ids distances c
loaded_as {bs} {n} {p} {rows} {ids₀} {distances₀} {ids} {distances} {c₀} d l e = subst (λ (x : Columns). Loaded bs n p ids₀ distances₀ c₀ rows ids distances x) (sym e) l

pub asked_again : {bs : List ℕ} {n m p : ℕ} → n ≡ m → Asked bs n p → Asked bs m p
asked_again {bs} {p = p} e a = subst (λ (k : ℕ). Asked bs k p) e a

module _ {bs : List ℕ} {n p : ℕ} (asked : Asked bs n p) where
  pub asked_spans : Spans bs n
  asked_spans = subst₂ Spans (sym asked.written) (sym asked.routers) (spans asked.snapshot asked.valid)

  pub asked_inside : {first at : ℕ} → first ≡ behind_distances n → at ≡ place_from p bs first → at + 6 ≤ length bs
  asked_inside {first} {at} e f =
      subst (λ (a : ℕ). a + 6 ≤ length bs) (sym (f ∙ ap (place_from p bs) e))
      (subst₂ (λ (l : List ℕ) (m : ℕ). routes_place l m p ≤ length l) (sym asked.written) (sym asked.routers) (inside asked.valid asked.below))

  module _ {ids₀ distances₀ : List ℕ} {c₀ : Columns} (room : Lends ids₀ distances₀ c₀) {rows : ℕ} {ids distances : List ℕ} {c : Columns}
      (loaded : Loaded bs n p ids₀ distances₀ c₀ rows ids distances c) where
    there : Loaded (encode asked.snapshot) (length asked.snapshot.ids) p ids₀ distances₀ c₀ rows ids distances c
    there = subst₂ (λ (l : List ℕ) (m : ℕ). Loaded l m p ids₀ distances₀ c₀ rows ids distances c) asked.written asked.routers loaded

    -- so many rows as are loaded fit
    pub loaded_long : WideRows rows c
    loaded_long =
        rows_less (few asked.valid asked.below room there) room.rows
        (subst (λ (d : Columns). Alike d c₀) (sym loaded.columns_are) (alike_put c₀ 0 (asked_routes bs n p)))

    -- of a mesh with what is loaded
    module _ {mids mdistances : List ℕ} {t : decided.Columns} (ids_shown : mids ≡ ids) (distances_shown : mdistances ≡ distances) (routes_shown : t ≡ front rows c) where
      pub loaded_placed : Placed n mids mdistances t
      loaded_placed = rw (ids_shown, distances_shown, routes_shown) (subst (λ (m : ℕ). Placed m ids distances (front rows c)) (sym asked.routers) (placed asked.valid asked.below room there))

      pub loaded_forecast : {d : Differing} {early late : List ℕ} → Decided (lent_mesh n mids mdistances t) d early late → Forecast bs p d early late
      loaded_forecast {d} {early} {late} h =
          let same : lent_mesh n mids mdistances t ≡ lent_mesh (length asked.snapshot.ids) ids distances (front rows c) = rw (ids_shown, distances_shown, routes_shown, asked.routers) in
          let (between, differs) = decides asked.valid asked.below room there (subst (λ (m : Mesh). Decided m d early late) same h) in
          record { snapshot = asked.snapshot; read = asked.read; below = asked.below; between = between; differs = differs }
