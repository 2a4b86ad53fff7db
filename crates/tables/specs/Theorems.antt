-- What is proved of counts and tables that hold a snapshot: they hold one, its parts stand in their rows, and its prefixes are sound;
-- and that a verdict is determined.
use Rattle.std.specs.Prelude.{ℕ, suc, ◌+◌, ◌≤◌, ◌<◌, ◌≡◌, refl, ◌⊎◌, ◌&&◌, List, [], map, length, get_or, take, drop, T, eqb, ltb, Result, Ok, Err}
use Rattle.std.proofs.Common.{arith, sym, ap, ◌∙◌, subst, inl, inr, ⊎_elim, leb-false, eq-eqb}
use Rattle.std.proofs.Math.Path.{fun_ext}
use Rattle.std.proofs.lemmas.Simd.{map-map}
use Rattle.std.proofs.lemmas.Bool.{eqb-false}
use Rattle.std.proofs.Math.Facts.{or_yes, and_yes, ltb_yes, eqb_yes, T_not}
use Rattle.std.specs.Result.{MatchResult, IsErrAnd}
use Rattle.refusal.specs.declared.Refused.{Refused}
use Rattle.refusal.specs.declared.Refusal.{Refusal}
use Rattle.refusal.specs.declared.Refusal.TheVariants as refusal
use Rattle.refusal.specs.Numbers.{number_of}
use Rattle.refusal.proofs.NumbersLaws.{number_tells, number_range}
use Rattle.model.specs.Rows.{span, table, column, some, start}
use Rattle.model.specs.Decision.{Route}
use Rattle.model.specs.Stability.{Sound}
use Rattle.model.proofs.SoundLaws.{Rising, rising_sound}
use Rattle.model.proofs.RowLaws.{table_length, table_at, start_within}
use Rattle.snapshot.specs.declared.Counts.{Counts}
use Rattle.snapshot.specs.Limits.{most_in_prefix, most_routes}
use Rattle.snapshot.specs.Ranges.{any_of, none, route_tests, rises_route}
use Rattle.snapshot.proofs.RangesLaws.{none_at}
use Rattle.snapshot.specs.Format.{Prefix, Snapshot, Each, GoodId, GoodRoute, GoodPrefix, distance, Valid}
use Rattle.snapshot.specs.Tables.{Tables, short, Held, routes_of, mesh, Room}
use Rattle.snapshot.proofs.ChecksLaws.{routers_few}
use Rattle.tables.specs.Judging as judging
use Rattle.tables.specs.Judging.{route_at, routes_at, prefix_at, cell, Holding, numbered, Verdicts}
use Rattle.tables.specs.ListsLaws.{map_at, as_table, each_below, latest_table, table_none, table_part, table_take}
use Rattle.tables.specs.HeldLaws.{no_prefix_lem, no_route, n_is, cell_is, held_is}
use Rattle.tables.specs.PartsLaws.{and_zero, holding_parts}
use Rattle.tables.specs.JudgeLaws.{off}

-- two valid snapshots that are held by the same counts and tables are one
pub held_one : {counts : Counts} {t : Tables} {s u : Snapshot} → Room t → Valid s → Held counts t s → Valid u → Held counts t u → s ≡ u
held_one room v h w k = held_is room v h ∙ sym (held_is room w k)

-- ---- verdicts

-- a number tells its verdict
numbered_tells : (v w : Result Unit Refusal) → numbered v ≡ numbered w → v ≡ w
numbered_tells (Ok _) (Ok _) e = refl
numbered_tells (Ok _) (Err r) e = absurd (omega (arith, e, (number_range r).0))
numbered_tells (Err r) (Ok _) e = absurd (omega (arith, e, (number_range r).0))
numbered_tells (Err r) (Err q) e = ap Err (number_tells r q e)

module _ {counts : Counts} {t : Tables} where
  one_number : {n m : ℕ} → Verdicts counts t n → Verdicts counts t m → n ≡ m
  one_number (judging.room h) (judging.room k) = refl
  one_number (judging.room h) (judging.unheld k f) = absurd (T_not (any_of (short t)) h k)
  one_number (judging.room h) (judging.held k g) = absurd (T_not (any_of (short t)) h k)
  one_number (judging.unheld h f) (judging.room k) = absurd (T_not (any_of (short t)) k h)
  one_number (judging.unheld h f) (judging.unheld k g) = refl
  one_number (judging.unheld h f) (judging.held k g) = absurd (f g)
  one_number (judging.held h g) (judging.room k) = absurd (T_not (any_of (short t)) k h)
  one_number (judging.held h g) (judging.unheld k f) = absurd (f g)
  one_number (judging.held h g) (judging.held k i) = refl

  -- any two verdicts on the same counts and tables are one
  pub verdicts_one : (v w : Result Unit Refusal) → Verdicts counts t (numbered v) → Verdicts counts t (numbered w) → v ≡ w
  verdicts_one v w h k = numbered_tells v w (one_number h k)

  -- a good one: there is room, and a snapshot
  pub verdict_good : {n : ℕ} → Verdicts counts t n → n ≡ 0 → T (none (short t)) × Holding counts t
  verdict_good (judging.room h) e = absurd (omega arith)
  verdict_good (judging.unheld h f) e = absurd (omega arith)
  verdict_good (judging.held h g) e = (h, g)

  -- one that refuses: ROOM, or TABLE
  pub verdict_refused : {n : ℕ} → Verdicts counts t n → (r : Refusal) → n ≡ number_of r
      → ((r ≡ refusal.Room) × T (any_of (short t))) ⊎ ((r ≡ refusal.Table) × T (none (short t)) × (Holding counts t → ⊥))
  verdict_refused (judging.room h) r e = inl (number_tells r refusal.Room (sym e), h)
  verdict_refused (judging.unheld h f) r e = inr (number_tells r refusal.Table (sym e), h, f)
  verdict_refused (judging.held h g) r e = absurd (omega (arith, e, (number_range r).0))

-- a verdict whose refusal is given place 0
pub record Placed (v : Result Unit Refusal) (w : Result Unit Refused) : Type 0 where
  pub same : MatchResult v (λ x. w ≡ Ok x) (λ e. IsErrAnd w (λ r. r ≡ record { refusal = e; place = 0 }))

module _ {w : Result Unit Refused} where
  pub placed_err : {v : Result Unit Refusal} {r : Refused} → Placed v w → w ≡ Err r → (e : Refusal) × (v ≡ Err e) × (r ≡ record { refusal = e; place = 0 })
  placed_err {v} {r} p e = go v p.same
    where
      go : (v : Result Unit Refusal) → MatchResult v (λ x. w ≡ Ok x) (λ e. IsErrAnd w (λ r. r ≡ record { refusal = e; place = 0 })) → (e : Refusal) × (v ≡ Err e) × (r ≡ record { refusal = e; place = 0 })
      go (Ok x) h = cc
      go (Err x) h = (x, refl, rw e at h)

  pub placed_ok : {v : Result Unit Refusal} → Placed v w → w ≡ Ok tt → v ≡ Ok tt
  placed_ok {v} p e = go v p.same
    where
      go : (v : Result Unit Refusal) → MatchResult v (λ x. w ≡ Ok x) (λ e. IsErrAnd w (λ r. r ≡ record { refusal = e; place = 0 })) → v ≡ Ok tt
      go (Ok x) h = refl
      go (Err x) h = absurd (rw e at h)

-- ---- where the parts of a snapshot that is held stand

module _ {counts : Counts} {t : Tables} {s : Snapshot} (room : Room t) (valid : Valid s) (held : Held counts t s) where
  -- the ids
  pub held_ids : take counts.routers t.ids ≡ s.ids
  held_ids =
      let e = n_is room valid held in
      let l = routers_few valid in
      sym (table_take t.ids counts.routers (omega arith)) ∙ ap (λ (u : Snapshot). u.ids) (sym (held_is room valid held))

  -- the distances
  pub held_distance : (from to : ℕ) → from < counts.routers → to < counts.routers → cell t.distances from to ≡ distance s from to
  held_distance from to h k = let e = n_is room valid held in cell_is room valid held from to (omega arith) (omega arith)

  module _ (p : ℕ) (below : p < counts.prefixes) where
    -- the routes of a prefix: from its start on, as many as its column of numbers of routes says
    pub held_routes : routes_of s p ≡ routes_at t.rows (start t.routes p) (column t.routes p)
    held_routes =
        let n : ℕ = counts.prefixes in
        let long = table_length n (prefix_at t) in
        ap (λ (u : Snapshot). routes_of u p) (held_is room valid held)
        ∙ map_at (λ (q : Prefix). q.routes) (table n (prefix_at t)) no_prefix_lem [] p (omega arith)
        ∙ ap (λ (q : Prefix). q.routes) (table_at (prefix_at t) no_prefix_lem n p below)

    pub held_count : column t.routes p ≡ length (routes_of s p)
    held_count = sym (ap length held_routes ∙ table_length (column t.routes p) (λ k. route_at t.rows (start t.routes p + k)))

    -- within the limit
    pub held_fits : start t.routes p + length (routes_of s p) ≤ most_routes
    held_fits =
        let parts = holding_parts room (record { snapshot = s; valid = valid; held = held }) in
        let count = held_count in
        let within = start_within t.routes p counts.prefixes below in
        let sum = parts.prefixes.1 in
        let most = parts.range.routes in
        omega arith

    -- a field of these routes, in its column
    pub held_column : (f : Route → ℕ) (xs : List ℕ) → ((q : ℕ) → f (route_at t.rows q) ≡ column xs q) → most_routes ≤ length xs
        → take (length (routes_of s p)) (drop (start t.routes p) xs) ≡ map f (routes_of s p)
    held_column f xs is long =
        let at : ℕ = start t.routes p in
        let n : ℕ = column t.routes p in
        let fits = held_fits in
        let count = held_count in
        ap (λ (m : ℕ). take m (drop at xs)) (sym count)
        ∙ sym (table_part xs at n (omega arith))
        ∙ sym (map-map f (λ k. route_at t.rows (at + k)) (span 0 n) ∙ ap (λ (g : ℕ → ℕ). table n g) (fun_ext (λ k. is (at + k))))
        ∙ ap (map f) (sym held_routes)

-- ---- a prefix of a valid snapshot

module _ {s : Snapshot} (valid : Valid s) where
  id_alone : (a b : ℕ) → a < b → b < length s.ids → column s.ids a ≡ column s.ids b → ⊥
  id_alone a b h l e =
      let id : ℕ → ℕ = column s.ids in
      let good = each_below GoodId id (length s.ids) (subst (Each GoodId []) (as_table 0 s.ids) valid.ids) b l in
      eqb-false (id b) (id a) (table_none (eqb (id b)) id b (off (some (eqb (id b)) (table b id)) good.alone) a h) (sym e)

  module _ (p : ℕ) (below : p < length s.prefixes) where
    abbrev rs : List Route
    rs = routes_of s p

    abbrev at : ℕ → Route
    at q = get_or rs q no_route

    prefix_good : GoodPrefix (length s.ids) (table p (λ k. get_or s.prefixes k no_prefix_lem)) (get_or s.prefixes p no_prefix_lem)
    prefix_good =
        each_below (GoodPrefix (length s.ids)) (λ k. get_or s.prefixes k no_prefix_lem) (length s.prefixes)
        (subst (Each (GoodPrefix (length s.ids)) []) (as_table no_prefix_lem s.prefixes) valid.prefixes) p below

    its_routes : rs ≡ (get_or s.prefixes p no_prefix_lem).routes
    its_routes = map_at (λ (q : Prefix). q.routes) s.prefixes no_prefix_lem [] p below

    -- at most 256 routes
    pub routes_few : length rs ≤ most_in_prefix
    routes_few = subst (λ (l : List Route). length l ≤ most_in_prefix) (sym its_routes) prefix_good.most

    route_good : (q : ℕ) → q < length rs → GoodRoute (length s.ids) (table q at) (at q)
    route_good =
        each_below (GoodRoute (length s.ids)) at (length rs)
        (subst (Each (GoodRoute (length s.ids)) []) (sym its_routes ∙ as_table no_route rs) prefix_good.routes)

    field : (f : Route → ℕ) (q : ℕ) → q < length rs → column (map f rs) q ≡ f (at q)
    field f q l = map_at f rs no_route 0 q l

    -- an absent MED is 0
    pub absent_zero : (q : ℕ) → q < length rs → column (map (λ r. r.mark) rs) q ≡ 0 → column (map (λ r. r.med) rs) q ≡ 0
    absent_zero q l e =
        field (λ r. r.med) q l
        ∙ and_zero (eqb (at q).mark 0) (at q).med (none_at (route_tests (length s.ids) (at q)) (route_good q l).obeys.0 6)
        (eq-eqb (at q).mark 0 (sym (field (λ r. r.mark) q l) ∙ e))

    rising : Rising (mesh s p)
    rising = record {
      owned = λ q l. rw (field (λ r. r.router) q l) (leb-false (length s.ids) (at q).router (none_at (route_tests (length s.ids) (at q)) (route_good q l).obeys.0 0));
      rises = λ q l.
          rw (field (λ r. r.router) q (omega arith), field (λ r. r.router) (suc q) l, field (λ r. r.peer) q (omega arith), field (λ r. r.peer) (suc q) l)
          (above (at q) (at (suc q)) (subst T (latest_table at (λ r. rises_route r (at (suc q))) q) (route_good (suc q) l).obeys.1.0));
      ids = λ a b h l e.
          let not_below : ¬ (a < b) = λ k. id_alone a b k l e in
          let not_above : ¬ (b < a) = λ k. id_alone b a k h (sym e) in
          omega arith;
      few = let m = routes_few in omega arith;
    }
      where
        above : (q r : Route) → T (rises_route q r) → (q.router < r.router) ⊎ ((q.router ≡ r.router) × (q.peer < r.peer))
        above q r t = ⊎_elim (λ l. inl (ltb_yes l))
            (λ b. let m = and_yes (eqb q.router r.router) (ltb q.peer r.peer) b in inr (eqb_yes m.0, ltb_yes m.1))
            (or_yes (ltb q.router r.router) (eqb q.router r.router && ltb q.peer r.peer) t)

    -- what the prefix is decided on is sound
    pub sound : Sound (mesh s p)
    sound = rising_sound (mesh s p) rising
