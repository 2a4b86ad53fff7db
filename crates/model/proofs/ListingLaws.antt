-- What ties the code's arrangement of a contest to the definitions of Contest.antt and Stability.antt.
use Prim.Native.Nat.{ℕ, zero, suc, ◌+◌, ◌<◌, ◌≤◌, min}
use native.Mathlib.Omega.{arith}
use Rattle.std.specs.Prelude.{◌≡◌, ◌⊎◌, Bool, true, false, cond, ◌&&◌, ◌||◌, not, T, eqb, ltb, leb, length, get_or, take, drop}
use Rattle.std.proofs.Math.Path.{refl, sym, ap₂, fun_ext}
use Rattle.std.proofs.Common.{ap, subst, ◌∙◌, inl, inr, ⊎_elim, eqb→eq, ltb→lt, lt→ltb, take_at, drop_at, eqb-true, eq-eqb, ne_eqb, lt-ltb, le-ltb, ltb-true, ltb-false}
use Rattle.std.proofs.Math.Logic.{⊎_swap}
use Rattle.std.proofs.lemmas.Bool.{false≢true, eqb-false}
use mathlib.Core.List.{List, [], ◌∷◌, ◌++◌}
use Rattle.std.proofs.Math.ListN.{length-append}
use Rattle.model.proofs.NumberLaws.{le_or_lt}
use Rattle.model.specs.Rows.{keep, some, count, span, table, column, start}
use Rattle.model.specs.Decision.{Mesh, none, all, own_of, metric, beats, beats_by, unbeaten_by, preferred}
use Rattle.model.proofs.DecisionLaws.{not_past, owned}
use Rattle.model.specs.Stability.{Sound, before, contenders, standing}
use Rattle.model.proofs.StabilityLaws.{before_irrefl, before_chains, row_alike}
use Rattle.model.specs.Order.{insert}
use Rattle.model.proofs.OrderLaws.{count_insert, insert_in, Ordered, Comparable, insert_ordered, kept_comparable}
use Rattle.model.specs.Contest.{least_or, times, end, repeat, bottom, top, earliest, latest, beats_own_by, ahead_by, contending, place_of, contest, at_place}
use Rattle.model.proofs.EarlyLateLaws.{contenders_items, place_standing}
use Rattle.model.specs.Lent.{Inside}
use Rattle.model.specs.Columns.{Columns, lent_mesh, routes_mesh, Fits, most_rows}
use Rattle.model.specs.Listing.{group_by, order_by, arranged_on, arranged_by, own_rows, unbeaten_runs, preferred_in, counts_in, contenders_in, gathered, groups_in, rest_in, round_by, start_by, settled_by, stands_at, Ready}
use Rattle.model.proofs.RowLaws.{by, or_cases, or_left, or_right, and_left, and_right, and_both, eq→eqb, In, here, there, nowhere, keep_in, keep_keep, keep_append, some_kept, count_kept, count_length, count_le, count_all}
use Rattle.model.proofs.RowLaws.{Agree, keep_agree, Filtered, filtered, filtered_keep, filtered_self, within, length_span, table_at, table_length, table_same}
use Rattle.model.proofs.ListLaws.{inside_part, inside_span, span_at}
use Rattle.model.proofs.RunLaws.{Same, some_same, in_same, length_same, least_or_same, Places, at_places, ordered_places, runs_below, run_next, runs_split, runs_whole, Listed, round_listed, round_places}

-- ---- groups

-- z is the first from `from` on that passes a test, or d
record FirstOf (t : ℕ → Bool) (from d z : ℕ) : Type 0 where
  high : z ≤ d
  hit : z < d → t z ≡ true
  miss : (y : ℕ) → from ≤ y → y < z → t y ≡ false

first_of : (t : ℕ → Bool) (from n d : ℕ) → d ≡ from + n → FirstOf t from d (get_or (keep t (span from n)) 0 d)
first_of t from zero d e = record { high = omega arith; hit = λ l. absurd (omega arith); miss = λ y l m. absurd (omega arith) }
first_of t from (suc n) d e =
    let ih = first_of t (suc from) n d (omega arith) in
    by (t from)
    (λ h. rw h (record { high = omega arith; hit = λ _. h; miss = λ y l m. absurd (omega arith) }))
    (λ h. rw h (record {
      high = ih.high;
      hit = ih.hit;
      miss = λ y l m. by (eqb y from)
          (λ same. rw (eqb-true y from same) h)
          (λ other. let o = eqb-false y from other in ih.miss y (omega (arith, o)) m);
    }))

module _ (key : ℕ → ℕ) where
  group_first : (q : ℕ) → FirstOf (λ p. eqb (key p) (key q)) 0 q (group_by key q)
  group_first q = first_of (λ p. eqb (key p) (key q)) 0 q q (omega arith)

  pub group_le : (q : ℕ) → group_by key q ≤ q
  group_le q = (group_first q).high

  -- a group is one of its own rows
  group_in : (q : ℕ) → key (group_by key q) ≡ key q
  group_in q =
      by (eqb (group_by key q) q)
      (λ same. ap key (eqb-true (group_by key q) q same))
      (λ other. let f = group_first q in
      let o = eqb-false (group_by key q) q other in
      eqb-true (key (group_by key q)) (key q) (f.hit (let h = f.high in omega (arith, o))))

  group_below : (p q : ℕ) → key p ≡ key q → group_by key q ≤ group_by key p
  group_below p q e =
      let z = group_by key p in
      let in_q : eqb (key z) (key q) ≡ true = eq-eqb (key z) (key q) (group_in p ∙ e) in
      by (ltb z (group_by key q))
      (λ l. absurd (false≢true (sym ((group_first q).miss z (omega arith) (ltb-true z (group_by key q) l)) ∙ in_q)))
      (λ l. ltb-false z (group_by key q) l)

  -- two rows are of one group exactly when they have the same in the column
  group_same : (p q : ℕ) → eqb (group_by key p) (group_by key q) ≡ eqb (key p) (key q)
  group_same p q =
      by (eqb (key p) (key q))
      (λ h. let s = eqb-true (key p) (key q) h in
      let l = group_below p q s in
      let m = group_below q p (sym s) in
      eq-eqb (group_by key p) (group_by key q) (omega arith) ∙ sym h)
      (λ h. ne_eqb (group_by key p) (group_by key q) (λ e.
      eqb-false (key p) (key q) h (sym (group_in p) ∙ ap key e ∙ group_in q)) ∙ sym h)

-- ---- step 4 by the lowest MED of each group

-- a row is beaten exactly when the lowest MED of its group is below its own
module _ (asn med : ℕ → ℕ) (past q : ℕ) (high : med q ≤ past) where
  pub beaten_low : (rows : List ℕ) → some (λ p. beats_by asn med p q) rows ≡ ltb (least_or past med (keep (λ p. eqb (asn p) (asn q)) rows)) (med q)
  beaten_low [] = sym (le-ltb past (med q) high)
  beaten_low (p ∷ rows) =
      let ih = beaten_low rows in
      let low = least_or past med (keep (λ p. eqb (asn p) (asn q)) rows) in
      by (eqb (asn p) (asn q))
      (λ e. rw (e, ih) (min_ltb (med p) low (med q)))
      (λ e. rw (e, ih))
    where
      min_ltb : (x y z : ℕ) → (ltb x z || ltb y z) ≡ ltb (min x y) z
      min_ltb x y z =
          by (ltb x z)
          (λ h. let l = ltb-true x z h in rw h (sym (lt-ltb (min x y) z (omega arith))))
          (λ h. let l = ltb-false x z h in
          by (ltb y z)
          (λ g. let m = ltb-true y z g in rw (h, g) (sym (lt-ltb (min x y) z (omega arith))))
          (λ g. let m = ltb-false y z g in rw (h, g) (sym (le-ltb (min x y) z (omega arith)))))

-- beating by stored groups: beating by the column
pub beats_grouped : (asn med : ℕ → ℕ) (n p q : ℕ) → p < n → q < n → beats_by (column (table n (group_by asn))) med p q ≡ beats_by asn med p q
beats_grouped asn med n p q l m = rw (table_at (group_by asn) 0 n p l, table_at (group_by asn) 0 n q m, group_same asn p q)

-- a stored group is a row
pub group_within : (key : ℕ → ℕ) (n most : ℕ) {group : List ℕ} → group ≡ table n (group_by key) → n ≤ most → (q : ℕ) → q < n → column group q < most
group_within key n most g m q l =
    let e = ap (λ (xs : List ℕ). column xs q) g ∙ table_at (group_by key) 0 n q l in
    let h = group_le key q in
    omega arith

-- ---- rows put in order one after the other

module _ (less : ℕ → ℕ → Bool) where
  count_arranged : (test : ℕ → Bool) (front rows : List ℕ) → count test (arranged_on less front rows) ≡ count test front + count test rows
  count_arranged test front [] = omega arith
  count_arranged test front (q ∷ rows) =
      let h = count_arranged test (insert less q front) rows ∙ ap (λ (n : ℕ). n + count test rows) (count_insert less test q front) in
      by (test q) (λ e. rw e (omega (arith, rw e at h))) (λ e. rw e (rw e at h))

  module _ (chains : (a b c : ℕ) → T (less a b) → T (less b c) → T (less a c)) where
    arranged_ordered : (front rows : List ℕ) → Ordered less front → Comparable less rows → ((p q : ℕ) → In p front → In q rows → T (less p q) ⊎ T (less q p))
        → Ordered less (arranged_on less front rows)
    arranged_ordered front [] o c f = o
    arranged_ordered front (q ∷ rows) o c f =
        arranged_ordered (insert less q front) rows (insert_ordered less chains q front (λ z m. ⊎_swap (f z q m (here refl))) o) c.1
        (λ p z m n. elim (insert_in less q front m) [
          | inl e ↦ subst (λ (k : ℕ). T (less k z) ⊎ T (less z k)) (sym e) (c.0 z n)
          | inr k ↦ f p z k (there n)
        ])

-- what filters leave of a list in order is in order, by any order that the first gives there
ordered_keep : (less less' : ℕ → ℕ → Bool) (test : ℕ → Bool) (rows : List ℕ) → ((p q : ℕ) → T (test p) → T (test q) → T (less p q) → T (less' p q))
    → Ordered less rows → Ordered less' (keep test rows)
ordered_keep less less' test [] f o = tt
ordered_keep less less' test (p ∷ rows) f o = go (test p) refl (ordered_keep less less' test rows f o.1)
  where
    go : (b : Bool) → test p ≡ b → Ordered less' (keep test rows) → Ordered less' (cond b (p ∷ keep test rows) (keep test rows))
    go true e below = ((λ z m. let k = keep_in test rows m in f p z (subst T (sym e) tt) k.1 (o.0 z k.0)), below)
    go false e below = below

-- ---- the order by router, then own order

module _ (M : Mesh) where
  -- p comes before q in the list of all routers' contenders
  abbrev in_order : ℕ → ℕ → Bool
  in_order = order_by M.router M.nid M.peer

  -- of a lower router, or of the same and ahead in its own order
  abbrev Cases : ℕ → ℕ → Type 0
  Cases p q = (M.router p < M.router q) ⊎ ((M.router p ≡ M.router q) × T (before M p q))

  order_cases : (p q : ℕ) → T (in_order p q) → Cases p q
  order_cases p q t = elim (or_cases (ltb (M.router p) (M.router q)) (eqb (M.router p) (M.router q) && before M p q) t) [
    | inl l ↦ inl (ltb→lt (M.router p) (M.router q) l)
    | inr e ↦ inr (eqb→eq (M.router p) (M.router q) (and_left (eqb (M.router p) (M.router q)) (before M p q) e), and_right (eqb (M.router p) (M.router q)) (before M p q) e)
  ]

  order_router : (p q : ℕ) → M.router p < M.router q → T (in_order p q)
  order_router p q l = or_left (ltb (M.router p) (M.router q)) (eqb (M.router p) (M.router q) && before M p q) (lt→ltb (M.router p) (M.router q) l)

  order_own : (p q : ℕ) → M.router p ≡ M.router q → T (before M p q) → T (in_order p q)
  order_own p q e t = or_right (ltb (M.router p) (M.router q)) (eqb (M.router p) (M.router q) && before M p q)
      (and_both (eqb (M.router p) (M.router q)) (before M p q) (eq→eqb e) t)

  order_rises : (p q : ℕ) → T (in_order p q) → M.router p ≤ M.router q
  order_rises p q t = elim (order_cases p q t) [ inl l ↦ omega arith | inr h ↦ omega (arith, h.0) ]

  order_before : (p q : ℕ) → M.router p ≡ M.router q → T (in_order p q) → T (before M p q)
  order_before p q e t = elim (order_cases p q t) [ inl l ↦ absurd (omega arith) | inr h ↦ h.1 ]

  order_chains : (a b c : ℕ) → T (in_order a b) → T (in_order b c) → T (in_order a c)
  order_chains a b c s t = go (order_cases a b s) (order_cases b c t)
    where
      go : Cases a b → Cases b c → T (in_order a c)
      go (inl h) k = order_router a c (omega (arith, order_rises b c t))
      go (inr h) (inl k) = order_router a c (omega (arith, h.0))
      go (inr h) (inr k) = order_own a c (h.0 ∙ k.0) (before_chains M a b c h.1 k.1)

  preferred_part : Filtered (preferred M (all M)) (all M)
  preferred_part = filtered_keep _ (filtered_keep _ (filtered _ (all M)))

  contending_part : Filtered (contending M) (all M)
  contending_part = filtered_keep _ preferred_part

-- ---- rows of a prefix in that order

module _ (M : Mesh) (sound : Sound M) where
  comparable : (rows : List ℕ) → Filtered rows (all M) → Comparable (in_order M) rows
  comparable rows part =
      subst (Comparable (in_order M)) (sym (filtered_self part))
      (kept_comparable (in_order M) (λ q. some (eqb q) rows) 0 M.rows
      (λ p q l t u. by (eqb (M.router p) (M.router q))
      (λ e. let same = eqb-true (M.router p) (M.router q) e in
      ⊎_elim (λ h. inl (order_own M p q same h)) (λ h. inr (order_own M q p (sym same) h))
      (row_alike M sound (within {q = p} part (record { found = t })) (within {q = q} part (record { found = u })) same (λ z. omega arith)))
      (λ e. let other = eqb-false (M.router p) (M.router q) e in
      ⊎_elim (λ h. inr (order_router M q p (omega (arith, other)))) (λ h. inl (order_router M p q h)) (le_or_lt (M.router q) (M.router p)))))

  arranged_same : (rows : List ℕ) → Same (arranged_by (in_order M) rows) rows
  arranged_same rows test = count_arranged (in_order M) test [] rows ∙ omega arith

  arranged_in_order : (rows : List ℕ) → Filtered rows (all M) → Ordered (in_order M) (arranged_by (in_order M) rows)
  arranged_in_order rows part = arranged_ordered (in_order M) (order_chains M) [] rows tt (comparable rows part) (λ p q m. absurd (nowhere m))

  -- `order` has rows in order, and `ends` how many there are of each router
  module _ (rows order ends : List ℕ) (part : Filtered rows (all M)) (same : Same order rows) (ordered : Ordered (in_order M) order)
      (d : ends ≡ table M.routers (λ r. count (own_of M r) order)) where
    order_all : (q : ℕ) → In q order → In q (all M)
    order_all q m = within part (in_same order rows same q m)

    order_whole : order ≡ runs_below M.router order M.routers
    order_whole = runs_whole M.router (in_order M) (order_rises M) M.routers order ordered (λ q m. owned M sound (order_all q m))

    ends_length : length ends ≡ M.routers
    ends_length = ap length d ∙ table_length M.routers (λ r. count (own_of M r) order)

    ends_at : (r : ℕ) → r < M.routers → column ends r ≡ count (own_of M r) order
    ends_at r l = ap (λ (xs : List ℕ). column xs r) d ∙ table_at (λ r. count (own_of M r) order) 0 M.routers r l

    start_at : (r : ℕ) → r ≤ M.routers → start ends r ≡ length (runs_below M.router order r)
    unfolding start
    start_at zero l = refl
    start_at (suc r) l = omega (
      arith,
      start_at r (omega arith),
      ends_at r l,
      count_length (own_of M r) order,
      length-append (runs_below M.router order r) (keep (own_of M r) order),
    )

    from_start : (r : ℕ) → r ≤ M.routers → drop (start ends r) order ≡ keep (λ q. leb r (M.router q)) order
    from_start r l =
        ap (drop (start ends r)) (runs_split M.router (in_order M) (order_rises M) r order ordered)
        ∙ drop_at (runs_below M.router order r) (keep (λ q. leb r (M.router q)) order) (start ends r) (sym (start_at r l))

    -- the rows of a router are one run of the list
    own_run : (r : ℕ) → r < M.routers → own_rows order ends r ≡ keep (own_of M r) order
    own_run r l =
        ap (take (column ends r)) (from_start r (omega arith) ∙ run_next M.router (in_order M) (order_rises M) r order ordered)
        ∙ take_at (keep (own_of M r) order) (keep (λ q. leb (suc r) (M.router q)) order) (column ends r) (sym (ends_at r l ∙ count_length (own_of M r) order))

    -- all of them are counted
    order_counted : start ends (length ends) ≡ length order
    order_counted = ap (start ends) ends_length ∙ start_at M.routers (omega arith) ∙ ap length (sym order_whole)

  -- of the preferred rows in order, those of each router that no other of that router beats: the contenders in order
  module _ (rows order counts : List ℕ) (e : rows ≡ arranged_by (in_order M) (preferred M (all M))) (d : counts ≡ table M.routers (λ r. count (own_of M r) rows))
      (o : order ≡ unbeaten_runs (beats M) (own_rows rows counts) M.routers) where
    rows_same : Same rows (preferred M (all M))
    rows_same test = ap (count test) e ∙ arranged_same (preferred M (all M)) test

    rows_ordered : Ordered (in_order M) rows
    rows_ordered = subst (Ordered (in_order M)) (sym e) (arranged_in_order (preferred M (all M)) (preferred_part M))

    -- nothing of the same router beats it
    abbrev alone : ℕ → Bool
    alone q = not (some (λ p. beats_own_by M.router M.asn (metric M) p q) (preferred M (all M)))

    run_alone : (r : ℕ) → r < M.routers → unbeaten_by (beats M) (own_rows rows counts r) (own_rows rows counts r) ≡ keep alone (keep (own_of M r) rows)
    run_alone r l =
        ap (λ (own : List ℕ). unbeaten_by (beats M) own own) (own_run (preferred M (all M)) rows counts (preferred_part M) rows_same rows_ordered d r l)
        ∙ keep_agree (λ q. not (some (λ p. beats M p q) (keep (own_of M r) rows))) alone (keep (own_of M r) rows) (λ q m. ap not (
        some_kept (own_of M r) (λ p. beats M p q) rows
        ∙ ap (λ (k : ℕ). some (λ p. eqb (M.router p) k && beats M p q) rows) (sym (eqb→eq (M.router q) r (keep_in (own_of M r) rows m).1))
        ∙ some_same rows (preferred M (all M)) rows_same (λ p. beats_own_by M.router M.asn (metric M) p q)))

    runs_alone : (n : ℕ) → n ≤ M.routers → unbeaten_runs (beats M) (own_rows rows counts) n ≡ keep alone (runs_below M.router rows n)
    unfolding unbeaten_runs
    runs_alone zero l = refl
    runs_alone (suc n) l =
        ap₂ (λ (a b : List ℕ). a ++ b) (runs_alone n (omega arith)) (run_alone n l)
        ∙ sym (keep_append alone (runs_below M.router rows n) (keep (own_of M n) rows))

    order_is : order ≡ keep alone rows
    order_is = o ∙ runs_alone M.routers (omega arith) ∙ ap (keep alone) (sym (order_whole (preferred M (all M)) rows counts (preferred_part M) rows_same rows_ordered d))

    contenders_same : Same order (contending M)
    contenders_same test =
        ap (count test) order_is
        ∙ count_kept alone test rows
        ∙ rows_same (λ q. alone q && test q)
        ∙ sym (count_kept alone test (preferred M (all M)))

    contenders_ordered : Ordered (in_order M) order
    contenders_ordered = subst (Ordered (in_order M)) (sym order_is) (ordered_keep (in_order M) (in_order M) alone rows (λ p q t u h. h) rows_ordered)

  -- `order` has the contenders in order
  module _ (order ends : List ℕ) (same : Same order (contending M)) (ordered : Ordered (in_order M) order) (d : ends ≡ table M.routers (λ r. count (own_of M r) order)) where
    own_run_here : (r : ℕ) → r < M.routers → own_rows order ends r ≡ keep (own_of M r) order
    own_run_here = own_run (contending M) order ends (contending_part M) same ordered d

    ends_length_here : length ends ≡ M.routers
    ends_length_here = ends_length (contending M) order ends (contending_part M) same ordered d

    -- in it each stands at its place
    own_places_lem : (r : ℕ) → r < M.routers → Places (place_of M) 0 (own_rows order ends r)
    own_places_lem r l =
        subst (Places (place_of M) 0) (sym (own_run_here r l))
        (ordered_places (place_of M) (before M) (before_chains M) (before_irrefl M) 0 (keep (own_of M r) order)
        (ordered_keep (in_order M) (before M) (own_of M r) order (λ p q t u. order_before M p q (eqb→eq (M.router p) r t ∙ sym (eqb→eq (M.router q) r u))) ordered) place)
      where
        place : (q : ℕ) → In q (keep (own_of M r) order) → place_of M q ≡ 0 + count (λ p. before M p q) (keep (own_of M r) order)
        place q m =
            sym (same (ahead_by M.router M.nid M.peer q))
            ∙ ap (λ (o : ℕ). count (λ p. eqb (M.router p) o && before M p q) order) (eqb→eq (M.router q) r (keep_in (own_of M r) order m).1)
            ∙ sym (count_kept (own_of M r) (λ p. before M p q) order)
            ∙ omega arith

    order_listed : Listed (contest M) (own_rows order ends) order
    order_listed = record { same = same; whole = order_whole (contending M) order ends (contending_part M) same ordered d; runs = own_run_here; places = own_places_lem }

    -- the row at a place of a router is the contender that stands there
    stands_at_lem : (x : List ℕ) (r : ℕ) → r < M.routers → stands_at order ends x r ≡ at_place M x r
    stands_at_lem x r l =
        at_places (place_of M) none k 0 (own_rows order ends r) (own_places_lem r l)
        (λ q m. not_past M sound (order_all (contending M) order ends (contending_part M) same ordered d q (keep_in (own_of M r) order (subst (In q) (own_run_here r l) m)).0))
        ∙ ap₂ (λ (n : ℕ) (rows : List ℕ). low (keep (λ q. eqb (place_of M q) n) rows)) (omega arith) (own_run_here r l)
        ∙ ap low (keep_keep there (own_of M r) order)
        ∙ least_or_same none (λ q. q) (λ q. own_of M r q && there q) order (contending M) same
        ∙ ap low (sym (keep_keep there (own_of M r) (contending M)) ∙ ap (keep there) (contenders_items M r))
        ∙ ap low (keep_agree there (λ q. eqb (standing M r q) k) (contenders M r) (λ q m. ap (λ (n : ℕ). eqb n k) (place_standing M r m)))
      where
        k : ℕ
        k = column x r

        low : List ℕ → ℕ
        low = least_or none (λ q. q)

        there : ℕ → Bool
        there q = eqb (place_of M q) k

    -- rounds lead where they lead in the contest, with any test that agrees on what beats what
    module _ (beat : ℕ → ℕ → Bool) (agree : (q : ℕ) → In q (contending M) → Agree (λ p. beat p q) (λ p. beats M p q) (contending M)) where
      start_is : (late : Bool) → table (length ends) (start_by late ends) ≡ cond late (top (contest M)) (bottom (contest M))
      start_is true = ap (λ (n : ℕ). table n (column ends)) ends_length_here
          ∙ table_same (column ends) (end (contest M)) M.routers (λ r l. ends_at (contending M) order ends (contending_part M) same ordered d r l ∙ same (own_of M r))
      start_is false = ap (λ (n : ℕ). table n (λ r. 0)) ends_length_here

      rest_is : (late : Bool)
          → table (length ends) (stands_at order ends (times (round_by beat (own_rows order ends) (length ends)) (length order) (table (length ends) (start_by late ends))))
          ≡ table M.routers (at_place M (repeat (contest M) (length (contending M)) (cond late (top (contest M)) (bottom (contest M)))))
      rest_is late =
          ap (λ (x : List ℕ). table (length ends) (stands_at order ends x)) settled
          ∙ ap (λ (n : ℕ). table n (stands_at order ends rest)) ends_length_here
          ∙ table_same (stands_at order ends rest) (at_place M rest) M.routers (stands_at_lem rest)
        where
          rest : List ℕ
          rest = repeat (contest M) (length (contending M)) (cond late (top (contest M)) (bottom (contest M)))

          settled : times (round_by beat (own_rows order ends) (length ends)) (length order) (table (length ends) (start_by late ends)) ≡ rest
          settled =
              ap₂ (λ (n : ℕ) (x : List ℕ). times (round_by beat (own_rows order ends) (length ends)) n x) (length_same order (contending M) same) (start_is late)
              ∙ ap (λ (step : List ℕ → List ℕ). times step (length (contending M)) (cond late (top (contest M)) (bottom (contest M))))
              (ap (round_by beat (own_rows order ends)) ends_length_here ∙ fun_ext (round_listed (contest M) (own_rows order ends) order order_listed beat agree))

-- ---- what the code finds

module _ (routers : ℕ) (t : Columns) (f : Fits routers t) where
  -- ids have nothing to do with a contest: any that differ make the prefix sound
  abbrev M : Mesh
  M = lent_mesh routers (span 0 routers) [] t

  sound : Sound M
  sound = record {
    owned = f.owned;
    peers = f.apart;
    ids = λ a b l m e. sym (span_at routers a l) ∙ e ∙ span_at routers b m;
    few = omega (arith, f.rows);
  }

  -- the preferred rows are counted
  pub preferred_counted : (counts : List ℕ) → counts ≡ counts_in t.router routers (preferred_in routers t) → start counts (length counts) ≡ length (preferred_in routers t)
  preferred_counted counts e =
      order_counted M sound (preferred M (all M)) (preferred_in routers t) counts (preferred_part M) (arranged_same M sound (preferred M (all M))) (arranged_in_order M sound (preferred M (all M)) (preferred_part M)) e

  -- they are rows of the prefix, and so are the contenders
  pub preferred_inside : Inside (length t.router) (preferred_in routers t)
  preferred_inside = inside_part (inside_span (length t.router) refl)
      (λ q m. within (preferred_part M) (in_same (preferred_in routers t) (preferred M (all M)) (arranged_same M sound (preferred M (all M))) q m))

  pub contenders_inside : Inside (length t.router) (contenders_in routers t)
  contenders_inside = inside_part (inside_span (length t.router) refl)
      (λ q m. within (contending_part M) (in_same (contenders_in routers t) (contending M)
      (contenders_same M sound (preferred_in routers t) (contenders_in routers t) (counts_in t.router routers (preferred_in routers t)) refl refl refl) q m))

  -- the contenders by place, as rounds have them
  abbrev order : List ℕ
  order = contenders_in routers t

  abbrev ends : List ℕ
  ends = counts_in t.router routers order

  abbrev group : List ℕ
  group = groups_in t.asn order

  abbrev med : List ℕ
  med = gathered t.med order

  same_here : Same order (contending M)
  same_here = contenders_same M sound (preferred_in routers t) order (counts_in t.router routers (preferred_in routers t)) refl refl refl

  ordered_here : Ordered (in_order M) order
  ordered_here = contenders_ordered M sound (preferred_in routers t) order (counts_in t.router routers (preferred_in routers t)) refl refl refl

  whole_here : start ends (length ends) ≡ length order
  whole_here = order_counted M sound (contending M) order ends (contending_part M) same_here ordered_here refl

  ends_here : length ends ≡ routers
  ends_here = table_length routers (λ r. count (λ q. eqb (column t.router q) r) order)

  -- the neighbour AS of the contender at a place
  abbrev asn : ℕ → ℕ
  asn k = column t.asn (column order k)

  group_here : length group ≡ length order
  group_here = table_length (length order) (group_by asn)

  pub contenders_few : length order ≤ most_rows
  contenders_few = omega (
    arith,
    f.rows,
    length_same order (contending M) same_here,
    ap length (contending_part M).kept,
    count_length (contending_part M).test (all M),
    count_le (contending_part M).test (λ q. true) (all M) (λ q m u. tt),
    count_all (all M),
    length_span 0 (length t.router),
  )

  pub ready : Ready group med ends
  ready = record {
    few = omega (arith, f.few, ends_here);
    rows = omega (arith, group_here, contenders_few);
    med_long = table_length (length order) (λ k. column t.med (column order k)) ∙ sym group_here;
    grouped = λ q l. group_within asn (length order) most_rows refl contenders_few q (omega (arith, group_here));
    whole = whole_here ∙ sym group_here;
  }

  -- what beats what, by place
  agree_here : (p q : ℕ) → p < length order → q < length order → beats_by (column group) (column med) p q ≡ beats M (column order p) (column order q)
  agree_here p q l m =
      beats_grouped asn (column med) (length order) p q l m
      ∙ ap₂ (λ (x y : ℕ). eqb (asn p) (asn q) && ltb x y) (table_at metric' 0 (length order) p l) (table_at metric' 0 (length order) q m)
    where
      metric' : ℕ → ℕ
      metric' k = column t.med (column order k)

  rest_here : (late : Bool) → rest_in late routers t.router t.asn t.med order
      ≡ table routers (at_place M (repeat (contest M) (length (contending M)) (cond late (top (contest M)) (bottom (contest M)))))
  rest_here late =
      ap (λ (n : ℕ). table n (stands_at order ends (settled_by late group med ends))) (sym ends_here)
      ∙ ap₂ (λ (step : List ℕ → List ℕ) (n : ℕ). table (length ends) (stands_at order ends (times step n (table (length ends) (start_by late ends)))))
      (fun_ext (round_places order ends whole_here (beats_by (column group) (column med)) (beats M) agree_here)) group_here
      ∙ rest_is M sound order ends same_here ordered_here refl (beats M) (λ q m p n. refl) late

  pub rest_early : rest_in false routers t.router t.asn t.med order ≡ table routers (at_place (routes_mesh routers t) (earliest (contest (routes_mesh routers t))))
  rest_early = rest_here false

  pub rest_late : rest_in true routers t.router t.asn t.med order ≡ table routers (at_place (routes_mesh routers t) (latest (contest (routes_mesh routers t))))
  rest_late = rest_here true
