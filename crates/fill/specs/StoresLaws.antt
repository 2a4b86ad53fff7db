-- How the loops of the second pass go on: one law for each turn and each way out.
use Prim.Native.Nat.{ℕ, zero, suc, ◌+◌, ◌-◌, ◌*◌, ◌/◌, ◌%◌, ◌≤◌, ◌<◌, zero-le}
use Rattle.std.proofs.Common.{rules, inl, inr, ◌∙◌, length-append, length-take, length-drop, ext_get_or, lt-ltb, le-ltb, le-leb, leb-true}
use Rattle.std.proofs.Math.Decide.{dec_le}
use native.Mathlib.Omega.{arith}
use Rattle.std.specs.Prelude.{◌≡◌, refl, Bool, true, false, get_or, set, take, drop, leb, ltb, ◌⊎◌}
use Rattle.std.proofs.Math.Path.{sym, ap, ap₂, subst}
use Rattle.std.proofs.Math.Bool.{cond, and-false}
use mathlib.Core.List.{List, [], ◌∷◌, ◌++◌, map, append_assoc, append-nil}
use Rattle.std.proofs.Math.ListN.{length}
use Rattle.std.proofs.lemmas.List.{length-map, map-append, places}
use Rattle.std.proofs.lemmas.List.Edits.{sets}
use Rattle.std.proofs.Math.Seq.{length-sets}
use Rattle.std.proofs.lemmas.Bool.{lt-leb}
use Rattle.model.specs.Rows.{table}
use Rattle.model.proofs.RowLaws.{both, table_length, table_at}
use Rattle.model.proofs.LoopLaws.{Stored, stored_end}
use Rattle.model.specs.Decision.{Route}
use Rattle.snapshot.specs.Limits.{most_routers, stride, room_distances, most_routes}
use Rattle.snapshot.specs.Records.{Form, count_form, prefix_form, route_forms, stands, size, form_at, values_at}
use Rattle.snapshot.specs.Format.{Prefix, routes_in}
use Rattle.snapshot.proofs.ChecksLaws.{length_snoc, routes_in_append}
use Rattle.snapshot.specs.Reading.{route_of}
use Rattle.snapshot.specs.Tables.{Columns, put_routes, all_routes, Wide}
use Rattle.cursor.specs.Steps.{id_at, router_place}
use Rattle.fill.specs.Fill.{ids_in, distance_in, entry_in, is_route, routes_from, behind_routes, prefix_with, prefixes_from, Lists, lists, put_prefixes, WideLists}
use Rattle.model.proofs.ColumnLaws.{sets_append, sets_front}
use borrow.Rule.Slice.PartMut.{put_mid}
use Rattle.snapshot.proofs.TablesLaws.{length_all, all_append}

-- ---- ids

-- all ids are put into the front, and the others are as before
pub ids_end : (bs ids₀ : List ℕ) {front : List ℕ} {n i : ℕ} → Stored 0 (λ i. id_at bs (router_place (size count_form) i)) n (take n ids₀) i front → n ≤ i → n ≤ length ids₀
    → front ++ drop n ids₀ ≡ sets ids₀ 0 (ids_in bs n)
ids_end bs ids₀ {front} {n} s l room =
    let long : length (ids_in bs n) ≡ n = table_length n (λ i. id_at bs (router_place (size count_form) i)) in
    ap (λ (xs : List ℕ). xs ++ drop n ids₀) (stored_end s l)
    ∙ sym (sets_front ids₀ (ids_in bs n) (omega arith) ∙ ap (λ (k : ℕ). ids_in bs n ++ drop k ids₀) long)

-- ---- distances

-- the rows before `from` are put, and the others are as before
pub record Entries (bs : List ℕ) (n : ℕ) (ds₀ : List ℕ) (from : ℕ) (ds : List ℕ) : Type 0 where
  pub at : Stored 0 (entry_in bs n ds₀) (length ds₀) ds₀ (from * stride) ds

-- an entry is used, or as before
entry_used : (bs : List ℕ) (n : ℕ) (ds₀ : List ℕ) (k : ℕ) {from to : ℕ} → k / stride ≡ from → k % stride ≡ to → from < n → to < n → entry_in bs n ds₀ k ≡ distance_in bs n from to
entry_used bs n ds₀ k {from} {to} e f h i = rw (e, f, lt-ltb from n h, lt-ltb to n i)

entry_unused : (bs : List ℕ) (n : ℕ) (ds₀ : List ℕ) (k : ℕ) → (n ≤ k / stride) ⊎ (n ≤ k % stride) → entry_in bs n ds₀ k ≡ get_or ds₀ k 0
entry_unused bs n ds₀ k (inl h) = rw (le-ltb (k / stride) n h)
entry_unused bs n ds₀ k (inr h) = rw (le-ltb (k % stride) n h, and-false (ltb (k / stride) n))

-- what stands in a list of which a part was put anew: in that part, and outside
part_in : (a k : ℕ) (xs ys : List ℕ) (j : ℕ) → length ys ≡ k → a + k ≤ length xs → a ≤ j → j < a + k → get_or (put_mid a k xs ys) j 0 ≡ get_or ys (j - a) 0
part_in a k xs ys j long fits above below = search (rules, places)

part_before : (a k : ℕ) (xs ys : List ℕ) (j : ℕ) → a ≤ length xs → j < a → get_or (put_mid a k xs ys) j 0 ≡ get_or xs j 0
part_before a k xs ys j fits below = search (rules, places)

part_behind : (a k : ℕ) (xs ys : List ℕ) (j : ℕ) → length ys ≡ k → a + k ≤ length xs → a + k ≤ j → get_or (put_mid a k xs ys) j 0 ≡ get_or xs j 0
part_behind a k xs ys j long fits above = search (rules, places)

module _ {bs : List ℕ} {n : ℕ} {ds₀ : List ℕ} {from : ℕ} {ds : List ℕ} (s : Entries bs n ds₀ from ds) where
  pub entries_next : {row : List ℕ} {m : ℕ} → from < n → n ≤ most_routers → room_distances ≤ length ds₀ → m ≡ n → row ≡ table m (distance_in bs m from)
      → Entries bs n ds₀ (from + 1) (put_mid (from * stride) (from * stride + n - from * stride) ds row)
  entries_next {row} {m} l few room e is =
      record {
        at = record {
          within = omega arith;
          long = omega (arith, wide, old, fits, length-append {A = ℕ}, length-take {A = ℕ}, length-drop {A = ℕ});
          done = λ j h. go j h (dec_le (suc j) a) (dec_le (a + k) j);
          ahead = λ j h. part_behind a k ds row j wide fits (omega arith) ∙ s.at.ahead j (omega arith);
        };
      }
    where
      a : ℕ
      a = from * stride

      k : ℕ
      k = a + n - a

      old : length ds ≡ length ds₀
      old = s.at.long

      fits : a + k ≤ length ds
      fits = omega (arith, old)

      wide : length row ≡ k
      wide = ap length is ∙ table_length m (distance_in bs m from) ∙ (let z : m ≡ k = omega arith in z)

      put : (j : ℕ) → a ≤ j → j < a + k → get_or row (j - a) 0 ≡ entry_in bs n ds₀ j
      put j above below =
          let inside : j - a < m = omega arith in
          ap (λ (xs : List ℕ). get_or xs (j - a) 0) is ∙ table_at (distance_in bs m from) 0 m (j - a) inside ∙ ap (λ (m : ℕ). distance_in bs m from (j - a)) e
          ∙ sym (entry_used bs n ds₀ j (let z : j / stride ≡ from = omega arith in z) (let z : j % stride ≡ j - a = omega arith in z) l (omega arith))

      go : (j : ℕ) → j < (from + 1) * stride → Dec (j < a) → Dec (a + k ≤ j) → get_or (put_mid a k ds row) j 0 ≡ entry_in bs n ds₀ j
      go j h (yes b) c = part_before a k ds row j (omega arith) b ∙ s.at.done j b
      go j h (no b) (yes c) =
          part_behind a k ds row j wide fits c ∙ s.at.ahead j (omega arith)
          ∙ sym (entry_unused bs n ds₀ j (inr (let z : n ≤ j % stride = omega arith in z)))
      go j h (no b) (no c) = part_in a k ds row j wide fits (omega arith) (omega arith) ∙ put j (omega arith) (omega arith)

  pub entries_end : n ≤ from → ds ≡ table (length ds₀) (entry_in bs n ds₀)
  entries_end l =
      let e = table_length (length ds₀) (entry_in bs n ds₀) in
      let long = s.at.long in
      ext_get_or 0 ds (table (length ds₀) (entry_in bs n ds₀)) (long ∙ sym e)
      (λ j h. each j (omega arith) ∙ sym (table_at (entry_in bs n ds₀) 0 (length ds₀) j (omega arith)))
    where
      each : (j : ℕ) → j < length ds₀ → get_or ds j 0 ≡ entry_in bs n ds₀ j
      each j h = go (dec_le (suc j) (from * stride))
        where
          go : Dec (j < from * stride) → get_or ds j 0 ≡ entry_in bs n ds₀ j
          go (yes b) = s.at.done j b
          go (no b) = s.at.ahead j (omega arith) ∙ sym (entry_unused bs n ds₀ j (inl (let far : n ≤ j / stride = omega arith in far)))

-- ---- routes

column_append : {A : Type 0} (f : A → ℕ) (l : List ℕ) (i : ℕ) (xs ys : List A) → sets (sets l i (map f xs)) (i + length xs) (map f ys) ≡ sets l i (map f (xs ++ ys))
column_append f l i xs ys =
    ap (λ (k : ℕ). sets (sets l i (map f xs)) (i + k) (map f ys)) (sym (length-map xs f)) ∙ sets_append l i (map f xs) (map f ys) ∙ ap (sets l i) (sym (map-append f xs ys))

pub put_append : (c : Columns) (i : ℕ) (xs ys : List Route) → put_routes (put_routes c i xs) (i + length xs) ys ≡ put_routes c i (xs ++ ys)
put_append c i xs ys =
    rw (
      column_append (λ r. r.router) c.router i xs ys,
      column_append (λ r. r.asn) c.asn i xs ys,
      column_append (λ r. r.preference) c.preference i xs ys,
      column_append (λ r. r.path) c.path i xs ys,
      column_append (λ r. r.origin) c.origin i xs ys,
      column_append (λ r. r.mark) c.mark i xs ys,
      column_append (λ r. r.med) c.med i xs ys,
      column_append (λ r. r.nid) c.nid i xs ys,
      column_append (λ r. r.peer) c.peer i xs ys,
    )

-- each column is as long as the other's
pub record Alike (c d : Columns) : Type 0 where
  pub router : length c.router ≡ length d.router
  pub asn : length c.asn ≡ length d.asn
  pub preference : length c.preference ≡ length d.preference
  pub path : length c.path ≡ length d.path
  pub origin : length c.origin ≡ length d.origin
  pub mark : length c.mark ≡ length d.mark
  pub med : length c.med ≡ length d.med
  pub nid : length c.nid ≡ length d.nid
  pub peer : length c.peer ≡ length d.peer

pub alike_put : (c : Columns) (i : ℕ) (rs : List Route) → Alike (put_routes c i rs) c
alike_put c i rs = record {
  router = length-sets c.router i (map (λ r. r.router) rs);
  asn = length-sets c.asn i (map (λ r. r.asn) rs);
  preference = length-sets c.preference i (map (λ r. r.preference) rs);
  path = length-sets c.path i (map (λ r. r.path) rs);
  origin = length-sets c.origin i (map (λ r. r.origin) rs);
  mark = length-sets c.mark i (map (λ r. r.mark) rs);
  med = length-sets c.med i (map (λ r. r.med) rs);
  nid = length-sets c.nid i (map (λ r. r.nid) rs);
  peer = length-sets c.peer i (map (λ r. r.peer) rs);
}

pub wide_alike : {n : ℕ} {c d : Columns} → Wide n c → Alike d c → Wide n d
wide_alike w a = omega arith

-- a route stands whole
pub route_whole : (bs : List ℕ) (at : ℕ) → is_route bs at ≡ true → at + size (form_at route_forms bs at) ≤ length bs
route_whole bs at e = leb-true _ _ (both (stands route_forms (get_or bs at 0)) (leb (at + size (form_at route_forms bs at)) (length bs)) e).1

-- one more of the routes from a place on
module _ (bs : List ℕ) (at : ℕ) {b : Bool} (e : is_route bs at ≡ b) {room left : ℕ} (more : room ≡ suc left) where
  abbrev f : Form
  f = form_at route_forms bs at

  pub routes_turn : routes_from room bs at ≡ cond b (route_of (values_at f bs at) ∷ routes_from left bs (at + size f)) []
  unfolding routes_from
  routes_turn =
      ap (λ (k : ℕ). routes_from k bs at) more ∙ ap (λ (b : Bool). cond b (route_of (values_at f bs at) ∷ routes_from left bs (at + size f)) []) e

  pub behind_turn : behind_routes room bs at ≡ cond b (behind_routes left bs (at + size f)) at
  unfolding behind_routes
  behind_turn = ap (λ (k : ℕ). behind_routes k bs at) more ∙ ap (λ (b : Bool). cond b (behind_routes left bs (at + size f)) at) e

-- and none where there is no room
module _ (bs : List ℕ) (at : ℕ) {room : ℕ} (none : room ≡ 0) where
  routes_none : routes_from room bs at ≡ []
  unfolding routes_from
  routes_none = ap (λ (k : ℕ). routes_from k bs at) none

  pub behind_none : behind_routes room bs at ≡ at
  unfolding behind_routes
  behind_none = ap (λ (k : ℕ). behind_routes k bs at) none

-- the routes before `at` stand in the rows before `row`, and so many more are to come
pub record Taken (bs : List ℕ) (room at₀ row₀ : ℕ) (c₀ : Columns) (at row : ℕ) (c : Columns) : Type 0 where
  pub so : List Route
  pub put : c ≡ put_routes c₀ row₀ so
  pub rows : row ≡ row₀ + length so
  pub left : routes_from (room - row₀) bs at₀ ≡ so ++ routes_from (room - row) bs at
  pub same : behind_routes (room - row₀) bs at₀ ≡ behind_routes (room - row) bs at
  pub within : row ≤ room
  pub inside : at ≤ length bs

module _ {bs : List ℕ} {room at₀ row₀ : ℕ} {c₀ : Columns} where
  pub taken_start : at₀ ≤ length bs → row₀ ≤ room → Taken bs room at₀ row₀ c₀ at₀ row₀ c₀
  taken_start h l = record { so = []; put = refl; rows = (let z : row₀ ≡ row₀ + 0 = omega arith in z); left = refl; same = refl; within = l; inside = h }

  module _ {at row : ℕ} {c : Columns} (s : Taken bs room at₀ row₀ c₀ at row c) where
    pub taken_alike : Alike c c₀
    taken_alike = subst (λ (d : Columns). Alike d c₀) (sym s.put) (alike_put c₀ row₀ s.so)

    -- all is taken: the row and the place behind the routes, and their columns
    abbrev All : ℕ → Type 0
    All end =
        (end ≡ row₀ + length (routes_from (room - row₀) bs at₀)) × (at ≡ behind_routes (room - row₀) bs at₀)
        × (c ≡ put_routes c₀ row₀ (routes_from (room - row₀) bs at₀))

    none_left : routes_from (room - row) bs at ≡ [] → behind_routes (room - row) bs at ≡ at → All row
    none_left e place =
        let is : routes_from (room - row₀) bs at₀ ≡ s.so = s.left ∙ ap (λ (l : List Route). s.so ++ l) e ∙ append-nil s.so in
        (s.rows ∙ ap (λ (l : List Route). row₀ + length l) (sym is), sym (s.same ∙ place), s.put ∙ ap (put_routes c₀ row₀) (sym is))

    pub taken_stop : row < room → is_route bs at ≡ false → All row
    taken_stop l e =
        let more : room - row ≡ suc (room - suc row) = omega arith in
        none_left (routes_turn bs at e more) (behind_turn bs at e more)

    pub taken_end : room ≤ row → All room
    taken_end l =
        let none : room - row ≡ 0 = omega arith in
        let within : row ≤ room = s.within in
        let end : row ≡ room = omega arith in
        subst All end (none_left (routes_none bs at none) (behind_none bs at none))

    pub taken_next : {d : Columns} {r : Route} {next : ℕ} → row < room → is_route bs at ≡ true → r ≡ route_of (values_at (form_at route_forms bs at) bs at)
        → next ≡ at + size (form_at route_forms bs at) → d ≡ put_routes c row (r ∷ []) → Taken bs room at₀ row₀ c₀ next (row + 1) d
    taken_next {d} {r} {next} l e is place p =
        let more : room - row ≡ suc (room - (row + 1)) = omega arith in
        let left : routes_from (room - row) bs at ≡ r ∷ routes_from (room - (row + 1)) bs next =
        routes_turn bs at e more ∙ ap₂ (λ (x : Route) (k : ℕ). x ∷ routes_from (room - (row + 1)) bs k) (sym is) (sym place) in
        let rows : row ≡ row₀ + length s.so = s.rows in
        let long : length (s.so ++ (r ∷ [])) ≡ length s.so + 1 = length-append s.so (r ∷ []) in
        record {
          so = s.so ++ (r ∷ []);
          put = p ∙ ap₂ (λ (x : Columns) (k : ℕ). put_routes x k (r ∷ [])) s.put rows ∙ put_append c₀ row₀ s.so (r ∷ []);
          rows = omega arith;
          left = s.left ∙ ap (λ (l : List Route). s.so ++ l) left ∙ sym (append_assoc s.so (r ∷ []) (routes_from (room - (row + 1)) bs next));
          same = s.same ∙ behind_turn bs at e more ∙ ap (behind_routes (room - (row + 1)) bs) (sym place);
          within = omega arith;
          inside = subst (λ (k : ℕ). k ≤ length bs) (sym place) (route_whole bs at e);
        }

-- the routes that stand from a place on end within the input
pub routes_inside : (room : ℕ) (bs : List ℕ) (at : ℕ) → at ≤ length bs → (behind_routes room bs at ≤ length bs) × (length (routes_from room bs at) ≤ room)
unfolding routes_from behind_routes
routes_inside zero bs at h = (h, omega arith)
routes_inside (suc room) bs at h = go (is_route bs at) refl (routes_inside room bs (at + size f))
  where
    f : Form
    f = form_at route_forms bs at

    go : (b : Bool) → is_route bs at ≡ b
        → (at + size f ≤ length bs → (behind_routes room bs (at + size f) ≤ length bs) × (length (routes_from room bs (at + size f)) ≤ room))
        → (cond b (behind_routes room bs (at + size f)) at ≤ length bs) × (length (cond b (route_of (values_at f bs at) ∷ routes_from room bs (at + size f)) []) ≤ suc room)
    go true e ih = let (i, j) = ih (route_whole bs at e) in (i, omega arith)
    go false e ih = (h, omega arith)

-- ---- prefixes

-- one more prefix, behind those that stand
put_more : (t : Lists) (ps : List Prefix) (q : Prefix)
    → lists (set (sets t.address 0 (map (λ p. p.address) ps)) (length ps) q.address)
    (set (sets t.bits 0 (map (λ p. p.bits) ps)) (length ps) q.bits)
    (set (sets t.routes 0 (map (λ p. length p.routes) ps)) (length ps) (length q.routes))
    (put_routes (put_routes t.rows 0 (all_routes ps)) (routes_in ps) q.routes)
    ≡ put_prefixes t (ps ++ (q ∷ []))
put_more t ps q =
    let at : length ps ≡ 0 + length ps = omega arith in
    let row : routes_in ps ≡ 0 + length (all_routes ps) = (let z : routes_in ps ≡ 0 + routes_in ps = omega arith in z) ∙ ap (λ (k : ℕ). 0 + k) (sym (length_all ps)) in
    let one : (f : Prefix → ℕ) (l : List ℕ) → set (sets l 0 (map f ps)) (length ps) (f q) ≡ sets l 0 (map f (ps ++ (q ∷ []))) =
    λ f l. ap (λ (k : ℕ). set (sets l 0 (map f ps)) k (f q)) at ∙ column_append f l 0 ps (q ∷ []) in
    let rows : put_routes (put_routes t.rows 0 (all_routes ps)) (routes_in ps) q.routes ≡ put_routes t.rows 0 (all_routes (ps ++ (q ∷ []))) =
    ap (λ (k : ℕ). put_routes (put_routes t.rows 0 (all_routes ps)) k q.routes) row ∙ put_append t.rows 0 (all_routes ps) q.routes
    ∙ ap (put_routes t.rows 0) (ap (λ (l : List Route). all_routes ps ++ l) (sym (append-nil q.routes)) ∙ sym (all_append ps (q ∷ []))) in
    ap₂ (λ (a b : List ℕ). lists a b (set (sets t.routes 0 (map (λ p. length p.routes) ps)) (length ps) (length q.routes)) (put_routes (put_routes t.rows 0 (all_routes ps)) (routes_in ps) q.routes))
    (one (λ p. p.address) t.address) (one (λ p. p.bits) t.bits)
    ∙ ap₂ (λ (a : List ℕ) (b : Columns). lists (sets t.address 0 (map (λ p. p.address) (ps ++ (q ∷ [])))) (sets t.bits 0 (map (λ p. p.bits) (ps ++ (q ∷ [])))) a b)
    (one (λ p. length p.routes) t.routes) rows

put_next : {t : Lists} (t₀ : Lists) (ps : List Prefix) (q : Prefix) {p row k : ℕ} → t ≡ put_prefixes t₀ ps → p ≡ length ps → row ≡ routes_in ps → k ≡ length q.routes
    → lists (set t.address p q.address) (set t.bits p q.bits) (set t.routes p k) (put_routes t.rows row q.routes) ≡ put_prefixes t₀ (ps ++ (q ∷ []))
put_next t₀ ps q e f g h = rw (e, f, g, h) (put_more t₀ ps q)

-- each list is as long as the other's
pub record AlikeLists (t u : Lists) : Type 0 where
  pub address : length t.address ≡ length u.address
  pub bits : length t.bits ≡ length u.bits
  pub routes : length t.routes ≡ length u.routes
  pub rows : Alike t.rows u.rows

pub wide_lists : {n : ℕ} {t u : Lists} → WideLists n t → AlikeLists u t → WideLists n u
wide_lists w a = let r = wide_alike w.rows a.rows in omega (arith, r)

-- the prefixes before `at` stand in the rows before p, and so many more are to come
pub record Listed (bs : List ℕ) (m at₀ : ℕ) (t₀ : Lists) (p at row : ℕ) (t : Lists) : Type 0 where
  pub so : List Prefix
  pub put : t ≡ put_prefixes t₀ so
  pub count : p ≡ length so
  pub rows : row ≡ routes_in so
  pub left : prefixes_from m bs at₀ 0 ≡ so ++ prefixes_from (m - p) bs at row
  pub within : p ≤ m
  pub inside : at ≤ length bs
  pub few : row ≤ most_routes

module _ {bs : List ℕ} {m at₀ : ℕ} {t₀ : Lists} where
  pub listed_start : at₀ ≤ length bs → Listed bs m at₀ t₀ 0 at₀ 0 t₀
  listed_start h = record {
    so = [];
    put = refl;
    count = refl;
    rows = refl;
    left = ap (λ (k : ℕ). prefixes_from k bs at₀ 0) (let z : m ≡ m - 0 = omega arith in z);
    within = zero-le;
    inside = h;
    few = zero-le;
  }

  module _ {p at row : ℕ} {t : Lists} (s : Listed bs m at₀ t₀ p at row t) where
    pub listed_alike : AlikeLists t t₀
    listed_alike =
        subst (λ (u : Lists). AlikeLists u t₀) (sym s.put)
        (record {
          address = length-sets t₀.address 0 (map (λ p. p.address) s.so);
          bits = length-sets t₀.bits 0 (map (λ p. p.bits) s.so);
          routes = length-sets t₀.routes 0 (map (λ p. length p.routes) s.so);
          rows = alike_put t₀.rows 0 (all_routes s.so);
        })

    no_more : prefixes_from (m - p) bs at row ≡ [] → t ≡ put_prefixes t₀ (prefixes_from m bs at₀ 0)
    no_more e = s.put ∙ ap (put_prefixes t₀) (sym (s.left ∙ ap (λ (l : List Prefix). s.so ++ l) e ∙ append-nil s.so))

    pub listed_stop : p < m → length bs < at + 6 → t ≡ put_prefixes t₀ (prefixes_from m bs at₀ 0)
    unfolding prefixes_from
    listed_stop l h =
        no_more (ap (λ (k : ℕ). prefixes_from k bs at row) (let z : m - p ≡ suc (m - suc p) = omega arith in z)
        ∙ ap (λ (b : Bool). cond b (prefix_with bs at taken ∷ prefixes_from (m - suc p) bs (behind_routes (most_routes - row) bs (at + 6)) (row + length taken)) []) (lt-leb (at + 6) (length bs) h))
      where
        taken : List Route
        taken = routes_from (most_routes - row) bs (at + 6)

    pub listed_end : m ≤ p → t ≡ put_prefixes t₀ (prefixes_from m bs at₀ 0)
    unfolding prefixes_from
    listed_end l = no_more (ap (λ (k : ℕ). prefixes_from k bs at row) (let z : m - p ≡ 0 = omega arith in z))

    -- the routes of the prefix at the place end within the input and the columns
    pub listed_room : at + 6 ≤ length bs → (behind_routes (most_routes - row) bs (at + 6) ≤ length bs) × (row + length (routes_from (most_routes - row) bs (at + 6)) ≤ most_routes)
    listed_room h =
        let r = routes_inside (most_routes - row) bs (at + 6) h in
        let f : row ≤ most_routes = s.few in
        (r.0, omega (arith, r.1))

    pub listed_next : {a b c : List ℕ} {rows : Columns} {next end : ℕ} → p < m → at + 6 ≤ length bs
        → end ≡ row + length (routes_from (most_routes - row) bs (at + 6))
        → next ≡ behind_routes (most_routes - row) bs (at + 6)
        → a ≡ set t.address p (get_or (values_at prefix_form bs at) 0 0)
        → b ≡ set t.bits p (get_or (values_at prefix_form bs at) 1 0)
        → c ≡ set t.routes p (end - row)
        → rows ≡ put_routes t.rows row (routes_from (most_routes - row) bs (at + 6))
        → Listed bs m at₀ t₀ (p + 1) next end (lists a b c rows)
    unfolding prefixes_from
    listed_next {a} {b} {c} {rows} {next} {end} l h e place ea eb ec er =
        let taken : List Route = routes_from (most_routes - row) bs (at + 6) in
        let behind : ℕ = behind_routes (most_routes - row) bs (at + 6) in
        let q : Prefix = prefix_with bs at taken in
        let inside : end - row ≡ length taken = omega arith in
        let count : p ≡ length s.so = s.count in
        let routes : row ≡ routes_in s.so = s.rows in
        let room = listed_room h in
        let one = length_snoc s.so q in
        let sum = routes_in_append s.so (q ∷ []) in
        let step : prefixes_from (m - p) bs at row ≡ q ∷ prefixes_from (m - (p + 1)) bs behind (row + length taken) =
        ap (λ (k : ℕ). prefixes_from k bs at row) (let z : m - p ≡ suc (m - (p + 1)) = omega arith in z)
        ∙ ap (λ (b : Bool). cond b (q ∷ prefixes_from (m - (p + 1)) bs behind (row + length taken)) []) (le-leb (at + 6) (length bs) h) in
        record {
          so = s.so ++ (q ∷ []);
          put = rw (ea, eb, ec, er) (put_next t₀ s.so q s.put count routes inside);
          count = omega arith;
          rows = omega arith;
          left = s.left ∙ ap (λ (l : List Prefix). s.so ++ l) (step ∙ ap₂ (λ (x y : ℕ). q ∷ prefixes_from (m - (p + 1)) bs x y) (sym place) (sym e))
              ∙ sym (append_assoc s.so (q ∷ []) (prefixes_from (m - (p + 1)) bs next end));
          within = omega arith;
          inside = subst (λ (k : ℕ). k ≤ length bs) (sym place) room.0;
          few = omega (arith, room.1);
        }
