-- Laws of the decision process: what each step keeps, on which rows the first three agree, and that one row is left.
use Rattle.std.specs.Prelude.{ℕ, ◌≤◌, ◌<◌, ◌≡◌, ◌⊎◌, Bool, true, cond, not, List, [], ◌∷◌, T, eqb, ltb}
use Rattle.std.proofs.Common.{le_trans, arith, sym, ap, subst, ◌∙◌, inl, inr, eqb→eq, ltb→lt}
use Rattle.model.specs.Rows.{keep, some, least}
use Rattle.model.proofs.RowLaws.{In, Some, in_keep, keep_in, in_some, some_in, not_some, none_some}
use Rattle.model.proofs.RowLaws.{and_left, and_right, test_true, test_false, decide, eq→eqb, in_span, first_in, member_or_empty}
use Rattle.model.proofs.RowLaws.{Filtered, filtered_keep, within, one_left}
use Rattle.model.proofs.LeastLaws.{Picks, picks_least, picks_greatest, least_le, least_some}
use Rattle.model.specs.Stability.{Sound}
use Rattle.model.specs.Decision.{Mesh, none, all, metric, beats, unbeaten, own_of, own_if_any, nearest, far, tie_id, preferred, decided, choice}

-- ---- one step after another

-- as good by the first order, and where the two are alike by that, by the second
abbrev pub Then : (ℕ → ℕ → Type 0) → (ℕ → ℕ → Type 0) → ℕ → ℕ → Type 0
Then g h q p = g q p × (g p q → h q p)

abbrev pub Chains : (ℕ → ℕ → Type 0) → Type 0
Chains g = (a b c : ℕ) → g a b → g b c → g a c

pub chains_then : {g h : ℕ → ℕ → Type 0} → Chains g → Chains h → Chains (Then g h)
chains_then tg th a b c x y = (tg a b c x.0 y.0, λ ca. th a b c (x.1 (tg b c a y.0 ca)) (y.1 (tg c a b ca x.0)))

pub picks_then : {g h : ℕ → ℕ → Type 0} {s t : List ℕ → List ℕ} → Chains g → Picks g s → Picks h t → Picks (Then g h) (λ rows. t (s rows))
picks_then {g} {h} {s} {t} tg P Q = record {
  from = λ rows m. P.from rows (Q.from (s rows) m);
  best = λ {q} {p} rows m n. (
    P.best rows (Q.from (s rows) m) n,
    λ pq. Q.best (s rows) m (P.into rows n (λ z k. tg p q z pq (P.best rows (Q.from (s rows) m) k))),
  );
  into = λ {q} rows m f. Q.into (s rows) (P.into rows m (λ p n. (f p n).0)) (λ p n. (f p (P.from rows n)).1 (P.best rows n m));
  any = λ rows m. Q.any (s rows) (P.any rows m).member;
}

-- Where a step on a list keeps a row, the step on a part that has the row keeps the same rows of the part.
module _ {g : ℕ → ℕ → Type 0} {step : List ℕ → List ℕ} (tg : Chains g) (P : Picks g step) (rows whole : List ℕ) (sub : (q : ℕ) → In q rows → In q whole) where
  pub part_into : {q : ℕ} → In q rows → In q (step whole) → In q (step rows)
  part_into m k = P.into rows m (λ p n. P.best whole k (sub p n))

  pub part_from : {a q : ℕ} → In a rows → In a (step whole) → In q (step rows) → In q (step whole)
  part_from {a} {q} ma ka m = P.into whole (sub q (P.from rows m)) (λ p n. tg q a p (P.best rows m ma) (P.best whole ka n))

module _ (M : Mesh) where
  -- ---- steps 1 to 3

  abbrev pub Preferable : ℕ → ℕ → Type 0
  Preferable = Then (Then (λ q p. M.preference p ≤ M.preference q) (λ q p. M.path q ≤ M.path p)) (λ q p. M.origin q ≤ M.origin p)

  pub chains_preferable : Chains Preferable
  chains_preferable = chains_then (chains_then (λ a b c x y. le_trans y x) (λ a b c x y. le_trans x y)) (λ a b c x y. le_trans x y)

  pub picks_preferred : Picks Preferable (preferred M)
  picks_preferred = picks_then (chains_then (λ a b c x y. le_trans y x) (λ a b c x y. le_trans x y))
      (picks_then (λ a b c x y. le_trans y x) (picks_greatest M.preference) (picks_least M.path)) (picks_least M.origin)

  -- ---- step 4

  pub beats_is : (p q : ℕ) → T (beats M p q) → (M.asn p ≡ M.asn q) × (metric M p < metric M q)
  beats_is p q t =
      let asn = eqb (M.asn p) (M.asn q) in
      let lower = ltb (metric M p) (metric M q) in
      (eqb→eq (M.asn p) (M.asn q) (and_left asn lower t), ltb→lt (metric M p) (metric M q) (and_right asn lower t))

  pub picks_unbeaten : Picks (λ q p. T (beats M p q) → ⊥) (unbeaten M)
  picks_unbeaten = record {
    from = λ rows m. (keep_in (test rows) rows m).0;
    best = λ {q} {p} rows m n b. none_some (λ z. beats M z q) rows (keep_in (test rows) rows m).1 n b;
    into = λ {q} rows m f. in_keep (test rows) rows m (not_some (λ z. beats M z q) rows f);
    any = λ rows m. low rows (least_some (metric M) rows m);
  }
    where
      test : List ℕ → ℕ → Bool
      test rows q = not (some (λ p. beats M p q) rows)

      free : (rows : List ℕ) (w : Some (λ q. metric M q ≡ least (metric M) rows) rows) (p : ℕ) → In p rows → T (beats M p w.row) → ⊥
      free rows w p n b = omega (arith, (beats_is p w.row b).1, w.passes, least_le (metric M) rows n)

      low : (rows : List ℕ) → Some (λ q. metric M q ≡ least (metric M) rows) rows → Some (λ q. Unit {0}) (unbeaten M rows)
      low rows w = record { row = w.row; member = in_keep (test rows) rows w.member (not_some (λ z. beats M z w.row) rows (free rows w)); passes = tt }

  -- ---- steps 5 to 8

  pub own_cases : (r : ℕ) (rows : List ℕ) → (T (some (own_of M r) rows) × (own_if_any M r rows ≡ keep (own_of M r) rows)) ⊎ ((T (some (own_of M r) rows) → ⊥) × (own_if_any M r rows ≡ rows))
  own_cases r rows = elim (decide (some (own_of M r) rows)) [
    | inl t ↦ inl (t, ap (λ (b : Bool). cond b (keep (own_of M r) rows) rows) (test_true (some (own_of M r) rows) t))
    | inr f ↦ inr (f, ap (λ (b : Bool). cond b (keep (own_of M r) rows) rows) (test_false (some (own_of M r) rows) f))
  ]

  pub picks_own : (r : ℕ) → Picks (λ q p. M.router p ≡ r → M.router q ≡ r) (own_if_any M r)
  picks_own r = record {
    from = λ {q} rows m. from q rows m (own_cases r rows);
    best = λ {q} {p} rows m n e. best q p rows m n e (own_cases r rows);
    into = λ {q} rows m f. into q rows m f (own_cases r rows);
    any = λ {p} rows m. any p rows m (own_cases r rows);
  }
    where
      Cases : List ℕ → Type 0
      Cases rows = (T (some (own_of M r) rows) × (own_if_any M r rows ≡ keep (own_of M r) rows)) ⊎ ((T (some (own_of M r) rows) → ⊥) × (own_if_any M r rows ≡ rows))

      from : (q : ℕ) (rows : List ℕ) → In q (own_if_any M r rows) → Cases rows → In q rows
      from q rows m (inl c) = (keep_in (own_of M r) rows (subst (In q) c.1 m)).0
      from q rows m (inr c) = subst (In q) c.1 m

      best : (q p : ℕ) (rows : List ℕ) → In q (own_if_any M r rows) → In p rows → M.router p ≡ r → Cases rows → M.router q ≡ r
      best q p rows m n e (inl c) = eqb→eq (M.router q) r (keep_in (own_of M r) rows (subst (In q) c.1 m)).1
      best q p rows m n e (inr c) = absurd (c.0 (in_some (own_of M r) rows n (eq→eqb e)))

      into : (q : ℕ) (rows : List ℕ) → In q rows → ((p : ℕ) → In p rows → M.router p ≡ r → M.router q ≡ r) → Cases rows → In q (own_if_any M r rows)
      into q rows m f (inl c) = let w = some_in (own_of M r) rows c.0 in
          subst (In q) (sym c.1) (in_keep (own_of M r) rows m (eq→eqb (f w.row w.member (eqb→eq (M.router w.row) r w.passes))))
      into q rows m f (inr c) = subst (In q) (sym c.1) m

      any : (p : ℕ) (rows : List ℕ) → In p rows → Cases rows → Some (λ q. Unit {0}) (own_if_any M r rows)
      any p rows m (inl c) = let w = some_in (own_of M r) rows c.0 in
          record { row = w.row; member = subst (In w.row) (sym c.1) (in_keep (own_of M r) rows w.member w.passes); passes = tt }
      any p rows m (inr c) = record { row = p; member = subst (In p) (sym c.1) m; passes = tt }

  -- steps 5 to 8
  abbrev pub last : ℕ → List ℕ → List ℕ
  last r rows = nearest M r (own_if_any M r rows)

  abbrev pub Nearer₆ : ℕ → ℕ → ℕ → Type 0
  Nearer₆ r = Then (λ q p. M.router p ≡ r → M.router q ≡ r) (λ q p. far M r q ≤ far M r p)

  abbrev pub Nearer₇ : ℕ → ℕ → ℕ → Type 0
  Nearer₇ r = Then (Nearer₆ r) (λ q p. tie_id M r q ≤ tie_id M r p)

  abbrev pub Nearer : ℕ → ℕ → ℕ → Type 0
  Nearer r = Then (Nearer₇ r) (λ q p. M.peer q ≤ M.peer p)

  pub picks_last : (r : ℕ) → Picks (Nearer r) (last r)
  picks_last r = picks_then c₇ (picks_then c₆ (picks_then c₅ (picks_own r) (picks_least (far M r))) (picks_least (tie_id M r))) (picks_least M.peer)
    where
      c₅ : Chains (λ q p. M.router p ≡ r → M.router q ≡ r)
      c₅ a b c x y e = x (y e)

      c₆ : Chains (Nearer₆ r)
      c₆ = chains_then c₅ (λ a b c x y. le_trans x y)

      c₇ : Chains (Nearer₇ r)
      c₇ = chains_then c₆ (λ a b c x y. le_trans x y)

  own_true : (r q : ℕ) → M.router q ≡ r → own_of M r q ≡ true
  own_true r q e = test_true (own_of M r q) (eq→eqb e)

  pub far_own : (r q : ℕ) → M.router q ≡ r → far M r q ≡ 0
  far_own r q e = ap (λ (b : Bool). cond b 0 (M.distance r (M.router q))) (own_true r q e)

  pub tie_own : (r q : ℕ) → M.router q ≡ r → tie_id M r q ≡ M.nid q
  tie_own r q e = ap (λ (b : Bool). cond b (M.nid q) (M.id (M.router q))) (own_true r q e)

  pub tie_other : (r q : ℕ) → (M.router q ≡ r → ⊥) → tie_id M r q ≡ M.id (M.router q)
  tie_other r q f = ap (λ (b : Bool). cond b (M.nid q) (M.id (M.router q))) (test_false (own_of M r q) (λ t. f (eqb→eq (M.router q) r t)))

  -- where an own row is left before step 5, the steps after it leave own rows, the first by neighbour id, then peer
  pub record First (r h q : ℕ) : Type 0 where
    pub own : M.router h ≡ r
    pub low : M.nid h ≤ M.nid q
    pub next : M.nid q ≤ M.nid h → M.peer h ≤ M.peer q

  pub last_own : (r : ℕ) {h q : ℕ} (rows : List ℕ) → In h (last r rows) → In q rows → M.router q ≡ r → First r h q
  last_own r {h} {q} rows m n e = record {
    own = oh;
    low = omega (arith, tie_own r h oh, tie_own r q e, x.0.1 six);
    next = λ le. x.1 (six, λ le'. omega (arith, tie_own r h oh, tie_own r q e));
  }
    where
      x : Nearer r h q
      x = (picks_last r).best rows m n

      oh : M.router h ≡ r
      oh = x.0.0.0 e

      six : Nearer₆ r q h
      six = (λ z. e, λ z. omega (arith, far_own r h oh, far_own r q e))

  pub decided_in : (r : ℕ) {q : ℕ} (rows : List ℕ) → In q (decided M r rows) → In q rows
  decided_in r rows m = picks_preferred.from rows (picks_unbeaten.from (preferred M rows) ((picks_last r).from (unbeaten M (preferred M rows)) m))

  pub choice_decided : (r : ℕ) {q : ℕ} (rows : List ℕ) → In q rows → In (choice M r rows) (decided M r rows)
  choice_decided r rows m = first_in (decided M r rows) none
      ((picks_last r).any (unbeaten M (preferred M rows)) (picks_unbeaten.any (preferred M rows) (picks_preferred.any rows m).member).member).member

module _ (M : Mesh) where
  pub in_all : {q : ℕ} → In q (all M) → q < M.rows
  in_all m = omega (arith, in_span 0 M.rows m)

module _ (M : Mesh) (sound : Sound M) where
  pub owned : {q : ℕ} → In q (all M) → M.router q < M.routers
  owned {q} m = sound.owned q (in_all M m)

  -- two rows of one router with one peer address are one
  pub one_row : {p q : ℕ} → In p (all M) → In q (all M) → M.router p ≡ M.router q → M.peer p ≡ M.peer q → p ≡ q
  one_row {p} {q} m n = sound.peers p q (in_all M m) (in_all M n)

  pub not_none : {q : ℕ} → In q (all M) → q ≡ none → ⊥
  not_none {q} m e = omega (arith, in_all M m, sound.few)

  pub not_past : {q : ℕ} → In q (all M) → q ≤ none
  not_past m = omega (arith, in_all M m, sound.few)

  -- the steps leave one row
  pub last_one : (r : ℕ) {h k : ℕ} (rows : List ℕ) → ((q : ℕ) → In q rows → In q (all M)) → In h (last M r rows) → In k (last M r rows) → h ≡ k
  last_one r {h} {k} rows sub mh mk = one_row ah ak (owners (decide (own_of M r h))) (omega (arith, x.1 y.0, y.1 x.0))
    where
      P : Picks (Nearer M r) (last M r)
      P = picks_last M r

      x : Nearer M r h k
      x = P.best rows mh (P.from rows mk)

      y : Nearer M r k h
      y = P.best rows mk (P.from rows mh)

      ah : In h (all M)
      ah = sub h (P.from rows mh)

      ak : In k (all M)
      ak = sub k (P.from rows mk)

      tie : tie_id M r h ≡ tie_id M r k
      tie = omega (arith, x.0.1 y.0.0, y.0.1 x.0.0)

      owners : T (own_of M r h) ⊎ (T (own_of M r h) → ⊥) → M.router h ≡ M.router k
      owners (inl t) = let e = eqb→eq (M.router h) r t in e ∙ sym (y.0.0.0 e)
      owners (inr f) = sound.ids (M.router h) (M.router k) (owned ah) (owned ak)
          (sym (tie_other M r h (λ e. f (eq→eqb e))) ∙ tie ∙ tie_other M r k (λ e. f (eq→eqb (x.0.0.0 e))))

  -- of rows that filters left of all, the steps leave what is chosen, and that alone
  pub decided_one : (r : ℕ) {q : ℕ} (rows : List ℕ) → Filtered rows (all M) → In q rows → decided M r rows ≡ choice M r rows ∷ []
  decided_one r rows f m = one_left 0 M.rows (filtered_keep _ (filtered_keep _ (filtered_keep _ (own (own_cases M r u))))) c
      (λ k n. last_one r u (λ z i. within f ((picks_preferred M).from rows ((picks_unbeaten M).from (preferred M rows) i))) c n)
    where
      u : List ℕ
      u = unbeaten M (preferred M rows)

      c : In (choice M r rows) (decided M r rows)
      c = choice_decided M r rows m

      fu : Filtered u (all M)
      fu = filtered_keep (λ q. not (some (λ p. beats M p q) (preferred M rows))) (filtered_keep _ (filtered_keep _ (filtered_keep _ f)))

      own : (T (some (own_of M r) u) × (own_if_any M r u ≡ keep (own_of M r) u)) ⊎ ((T (some (own_of M r) u) → ⊥) × (own_if_any M r u ≡ u)) → Filtered (own_if_any M r u) (all M)
      own (inl e) = subst (λ (l : List ℕ). Filtered l (all M)) (sym e.1) (filtered_keep (own_of M r) fu)
      own (inr e) = subst (λ (l : List ℕ). Filtered l (all M)) (sym e.1) fu

  -- none is chosen exactly where there is nothing to choose from
  pub choice_none : (r : ℕ) (rows : List ℕ) → ((q : ℕ) → In q rows → In q (all M)) → choice M r rows ≡ none → rows ≡ []
  choice_none r rows sub e = elim (member_or_empty rows) [
    | inl w ↦ absurd (not_none (sub (choice M r rows) (decided_in M r rows (choice_decided M r rows w.member))) e)
    | inr z ↦ z
  ]

  pub none_choice : (r : ℕ) (rows : List ℕ) → rows ≡ [] → choice M r rows ≡ none
  none_choice r rows e = ap (choice M r) e
