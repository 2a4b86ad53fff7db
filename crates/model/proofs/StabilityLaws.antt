-- Laws of stable assignments: a row that its owner holds is a contender of its owner, and the standings determine the assignment.
use Rattle.std.specs.Prelude.{ℕ, ◌≤◌, ◌<◌, ◌≡◌, refl, ◌⊎◌, ◌↔◌, Bool, true, cond, ◌&&◌, ◌||◌, List, [], ◌∷◌, T, eqb, ltb, length, get_or}
use Rattle.std.proofs.Common.{arith, sym, ap, subst, ◌∙◌, inl, inr, eqb→eq, ltb→lt, lt→ltb, nltb→le, ext_get_or}
use Rattle.std.proofs.Math.Dec.{not_T}
use Rattle.model.specs.Rows.{keep, some, count}
use Rattle.model.proofs.RowLaws.{In, Some, Filtered, filtered, filtered_keep, in_keep, keep_in, keep_agree, bool_ext, or_cases, or_left, or_right, and_left, and_right, and_both, test_true, test_false, decide, eq→eqb}
use Rattle.model.proofs.RowLaws.{count_le, count_lt, count_all, table_at}
use Rattle.model.specs.Decision.{Mesh, none, all, beats, unbeaten, own_of, preferred, decided, choice}
use Rattle.model.proofs.DecisionLaws.{owned, one_row, First, part_from, part_into, chains_preferable, picks_preferred, picks_unbeaten, picks_last, decided_in, choice_decided, choice_none, none_choice, decided_one}
use Rattle.model.specs.Stability.{Sound, available, Stable, contenders, before, standing, standings}

lex_cases : (a b c d : ℕ) → T (ltb a b || (eqb a b && ltb c d)) → (a < b) ⊎ ((a ≡ b) × (c < d))
lex_cases a b c d t = elim (or_cases (ltb a b) (eqb a b && ltb c d) t) [
  | inl l ↦ inl (ltb→lt a b l)
  | inr e ↦ inr (eqb→eq a b (and_left (eqb a b) (ltb c d) e), ltb→lt c d (and_right (eqb a b) (ltb c d) e))
]

module _ (M : Mesh) where
  -- ---- the order of a router's own rows

  pub before_cases : (p q : ℕ) → T (before M p q) → (M.nid p < M.nid q) ⊎ ((M.nid p ≡ M.nid q) × (M.peer p < M.peer q))
  before_cases p q t = lex_cases (M.nid p) (M.nid q) (M.peer p) (M.peer q) t

  pub before_id : (p q : ℕ) → M.nid p < M.nid q → T (before M p q)
  before_id p q h = or_left (ltb (M.nid p) (M.nid q)) _ (lt→ltb (M.nid p) (M.nid q) h)

  pub before_peer : (p q : ℕ) → M.nid p ≡ M.nid q → M.peer p < M.peer q → T (before M p q)
  before_peer p q e h = or_right (ltb (M.nid p) (M.nid q)) _
      (and_both (eqb (M.nid p) (M.nid q)) (ltb (M.peer p) (M.peer q)) (eq→eqb e) (lt→ltb (M.peer p) (M.peer q) h))

  pub before_irrefl : (q : ℕ) → T (before M q q) → ⊥
  before_irrefl q t = elim (before_cases q q t) [ inl h ↦ omega arith | inr h ↦ omega arith ]

  -- what is before h is before each q that is not before h
  pub before_trans : (p h q : ℕ) → M.nid h ≤ M.nid q → (M.nid q ≤ M.nid h → M.peer h ≤ M.peer q) → T (before M p h) → T (before M p q)
  before_trans p h q low next t = go (before_cases p h t) (decide (ltb (M.nid h) (M.nid q)))
    where
      go : (M.nid p < M.nid h) ⊎ ((M.nid p ≡ M.nid h) × (M.peer p < M.peer h))
          → T (ltb (M.nid h) (M.nid q)) ⊎ (T (ltb (M.nid h) (M.nid q)) → ⊥) → T (before M p q)
      go (inl l) d = before_id p q (omega arith)
      go (inr e) (inl l) = before_id p q (omega (arith, ltb→lt (M.nid h) (M.nid q) l))
      go (inr e) (inr n) =
          let k = nltb→le (M.nid h) (M.nid q) (not_T (ltb (M.nid h) (M.nid q)) n) in
          before_peer p q (omega arith) (omega (arith, next k))

  pub before_chains : (a b c : ℕ) → T (before M a b) → T (before M b c) → T (before M a c)
  before_chains a b c s t = elim (before_cases b c t) [
    | inl h ↦ before_trans a b c (omega arith) (λ k. absurd (omega arith)) s
    | inr h ↦ before_trans a b c (omega arith) (λ k. omega arith) s
  ]

  -- ---- contenders

  pub preferred_all : {q : ℕ} → In q (preferred M (all M)) → In q (all M)
  preferred_all m = (picks_preferred M).from (all M) m

  pub contender_preferred : (r : ℕ) {q : ℕ} → In q (contenders M r) → In q (preferred M (all M))
  contender_preferred r m = (keep_in (own_of M r) (preferred M (all M)) ((picks_unbeaten M).from (keep (own_of M r) (preferred M (all M))) m)).0

  pub contender_own : (r : ℕ) {q : ℕ} → In q (contenders M r) → M.router q ≡ r
  contender_own r {q} m = eqb→eq (M.router q) r (keep_in (own_of M r) (preferred M (all M)) ((picks_unbeaten M).from (keep (own_of M r) (preferred M (all M))) m)).1

  pub contender_free : (r : ℕ) {q p : ℕ} → In q (contenders M r) → In p (preferred M (all M)) → M.router p ≡ r → T (beats M p q) → ⊥
  contender_free r m n e = (picks_unbeaten M).best (keep (own_of M r) (preferred M (all M))) m (in_keep (own_of M r) (preferred M (all M)) n (eq→eqb e))

  pub contender : (r : ℕ) {q : ℕ} → In q (preferred M (all M)) → M.router q ≡ r → ((p : ℕ) → In p (preferred M (all M)) → M.router p ≡ r → T (beats M p q) → ⊥) → In q (contenders M r)
  contender r m e f = (picks_unbeaten M).into own (in_keep (own_of M r) (preferred M (all M)) m (eq→eqb e))
      (λ p n. let k = keep_in (own_of M r) (preferred M (all M)) n in f p k.0 (eqb→eq (M.router p) r k.1))
    where
      own : List ℕ
      own = keep (own_of M r) (preferred M (all M))

  pub filtered_contenders : (r : ℕ) → Filtered (contenders M r) (all M)
  filtered_contenders r = filtered_keep _ (filtered_keep (own_of M r) (filtered_keep _ (filtered_keep _ (filtered _ (all M)))))

  -- ---- standings

  pub standing_in : (r : ℕ) {q : ℕ} → In q (contenders M r) → standing M r q ≡ count (λ p. before M p q) (contenders M r)
  standing_in r {q} m = ap (λ (b : Bool). cond b (count (λ p. before M p q) (contenders M r)) (length (contenders M r))) (test_true (some (eqb q) (contenders M r)) m.found)

  pub standing_out : (r : ℕ) {q : ℕ} → (In q (contenders M r) → ⊥) → standing M r q ≡ length (contenders M r)
  standing_out r {q} f = ap (λ (b : Bool). cond b (count (λ p. before M p q) (contenders M r)) (length (contenders M r))) (test_false (some (eqb q) (contenders M r)) (λ t. f (record { found = t })))

  pub standing_end : (r : ℕ) {q : ℕ} → In q (contenders M r) → standing M r q < length (contenders M r)
  standing_end r {q} m = omega (
    arith,
    standing_in r m,
    count_all (contenders M r),
    count_lt (λ p. before M p q) (λ p. true) (contenders M r) (λ z k t. tt) m (before_irrefl q) tt,
  )

  pub standing_le : (r : ℕ) {h q : ℕ} → In h (contenders M r) → In q (contenders M r) → First M r h q → standing M r h ≤ standing M r q
  standing_le r {h} {q} m n f = omega (
    arith,
    standing_in r m,
    standing_in r n,
    count_le (λ p. before M p h) (λ p. before M p q) (contenders M r) (λ z k. before_trans z h q f.low f.next),
  )

  pub standing_lt : (r : ℕ) {p q : ℕ} → In p (contenders M r) → In q (contenders M r) → T (before M p q) → standing M r p < standing M r q
  standing_lt r {p} {q} m n t = omega (
    arith,
    standing_in r m,
    standing_in r n,
    count_lt (λ z. before M z p) (λ z. before M z q) (contenders M r) (λ z k. before_trans z p q (low c) (next c)) m (before_irrefl p) t,
  )
    where
      Cases : Type 0
      Cases = (M.nid p < M.nid q) ⊎ ((M.nid p ≡ M.nid q) × (M.peer p < M.peer q))

      c : Cases
      c = before_cases p q t

      low : Cases → M.nid p ≤ M.nid q
      low (inl h) = omega arith
      low (inr h) = omega arith

      next : Cases → M.nid q ≤ M.nid p → M.peer p ≤ M.peer q
      next (inl h) k = absurd (omega arith)
      next (inr h) k = omega arith

  -- ---- what is available

  pub available_all : (held : List ℕ) (r : ℕ) (q : ℕ) → In q (available M held r) → In q (all M)
  available_all held r q m = (keep_in (λ z. own_of M r z || eqb (get_or held (M.router z) none) z) (all M) m).0

  pub available_cases : (held : List ℕ) (r : ℕ) {q : ℕ} → In q (available M held r) → (M.router q ≡ r) ⊎ (get_or held (M.router q) none ≡ q)
  available_cases held r {q} m = elim (or_cases (own_of M r q) (eqb (get_or held (M.router q) none) q) (keep_in (λ z. own_of M r z || eqb (get_or held (M.router z) none) z) (all M) m).1) [
    | inl t ↦ inl (eqb→eq (M.router q) r t)
    | inr t ↦ inr (eqb→eq (get_or held (M.router q) none) q t)
  ]

  pub available_own : (held : List ℕ) (r : ℕ) {q : ℕ} → In q (all M) → M.router q ≡ r → In q (available M held r)
  available_own held r {q} m e = in_keep (λ z. own_of M r z || eqb (get_or held (M.router z) none) z) (all M) m (or_left (own_of M r q) (eqb (get_or held (M.router q) none) q) (eq→eqb e))

  pub available_held : (held : List ℕ) (r : ℕ) {q : ℕ} → In q (all M) → get_or held (M.router q) none ≡ q → In q (available M held r)
  available_held held r {q} m e = in_keep (λ z. own_of M r z || eqb (get_or held (M.router z) none) z) (all M) m (or_right (own_of M r q) (eqb (get_or held (M.router q) none) q) (eq→eqb e))

  -- it depends only on which rows their owners hold
  pub available_same : (a b : List ℕ) → ((q : ℕ) → In q (all M) → get_or a (M.router q) none ≡ q → get_or b (M.router q) none ≡ q)
      → ((q : ℕ) → In q (all M) → get_or b (M.router q) none ≡ q → get_or a (M.router q) none ≡ q) → (r : ℕ) → available M a r ≡ available M b r
  available_same a b f g r = keep_agree (λ z. own_of M r z || eqb (get_or a (M.router z) none) z) (λ z. own_of M r z || eqb (get_or b (M.router z) none) z) (all M)
      (λ q m. ap (λ (t : Bool). own_of M r q || t) (bool_ext (eqb (get_or a (M.router q) none) q) (eqb (get_or b (M.router q) none) q)
      (λ t. eq→eqb (f q m (eqb→eq (get_or a (M.router q) none) q t))) (λ t. eq→eqb (g q m (eqb→eq (get_or b (M.router q) none) q t)))))

  -- Where some available row is one of those that steps 1 to 3 leave of all rows, those steps leave of the available ones just these.
  module _ (held : List ℕ) (r : ℕ) where
    pub preferred_into : {q : ℕ} → In q (available M held r) → In q (preferred M (all M)) → In q (preferred M (available M held r))
    preferred_into m n = part_into (chains_preferable M) (picks_preferred M) (available M held r) (all M) (available_all held r) m n

    module _ {a : ℕ} (ma : In a (available M held r)) (sa : In a (preferred M (all M))) where
      pub preferred_from : {q : ℕ} → In q (preferred M (available M held r)) → In q (preferred M (all M))
      preferred_from m = part_from (chains_preferable M) (picks_preferred M) (available M held r) (all M) (available_all held r) ma sa m

      pub decided_unbeaten : {h : ℕ} → In h (decided M r (available M held r)) → In h (unbeaten M (preferred M (available M held r)))
      decided_unbeaten m = (picks_last M r).from (unbeaten M (preferred M (available M held r))) m

      pub decided_preferred : {h : ℕ} → In h (decided M r (available M held r)) → In h (preferred M (all M))
      decided_preferred m = preferred_from ((picks_unbeaten M).from (preferred M (available M held r)) (decided_unbeaten m))

      pub decided_free : {h p : ℕ} → In h (decided M r (available M held r)) → In p (available M held r) → In p (preferred M (all M)) → T (beats M p h) → ⊥
      decided_free m n k = (picks_unbeaten M).best (preferred M (available M held r)) (decided_unbeaten m) (preferred_into n k)

      pub decided_contender : {h : ℕ} → In h (decided M r (available M held r)) → M.router h ≡ r → In h (contenders M r)
      decided_contender m e = contender r (decided_preferred m) e (λ p n o. decided_free m (available_own held r (preferred_all n) o) n)

module _ (M : Mesh) (sound : Sound M) where
  -- of two different rows of one router one comes before the other
  pub row_alike : {p q : ℕ} → In p (all M) → In q (all M) → M.router p ≡ M.router q → (p ≡ q → ⊥) → T (before M p q) ⊎ T (before M q p)
  row_alike {p} {q} m n own different = go (decide (before M p q)) (decide (before M q p))
    where
      go : T (before M p q) ⊎ (T (before M p q) → ⊥) → T (before M q p) ⊎ (T (before M q p) → ⊥) → T (before M p q) ⊎ T (before M q p)
      go (inl t) u = inl t
      go (inr f) (inl u) = inr u
      go (inr f) (inr g) = absurd (different (one_row M sound m n own (omega (arith, not_peer, not_peer'))))
        where
          not_id : ¬ (M.nid p < M.nid q)
          not_id h = f (before_id M p q h)

          not_id' : ¬ (M.nid q < M.nid p)
          not_id' h = g (before_id M q p h)

          not_peer : ¬ (M.peer p < M.peer q)
          not_peer h = f (before_peer M p q (omega (arith, not_id, not_id')) h)

          not_peer' : ¬ (M.peer q < M.peer p)
          not_peer' h = g (before_peer M q p (omega (arith, not_id, not_id')) h)

  pub contender_alike : (r : ℕ) {p q : ℕ} → In p (contenders M r) → In q (contenders M r) → (p ≡ q → ⊥) → T (before M p q) ⊎ T (before M q p)
  contender_alike r m n = row_alike (preferred_all M (contender_preferred M r m)) (preferred_all M (contender_preferred M r n)) (contender_own M r m ∙ sym (contender_own M r n))

  pub standing_one : (r : ℕ) {p q : ℕ} → In p (contenders M r) → In q (contenders M r) → standing M r p ≡ standing M r q → p ≡ q
  standing_one r {p} {q} m n e = elim (decide (eqb p q)) [
    | inl t ↦ eqb→eq p q t
    | inr f ↦ absurd (elim (contender_alike r m n (λ i. f (eq→eqb i))) [
      | inl t ↦ omega (arith, standing_lt M r m n t)
      | inr t ↦ omega (arith, standing_lt M r n m t)
    ])
  ]

  -- a contender is told by its standing
  pub standing_pin : (r : ℕ) {p h : ℕ} → In p (contenders M r) → standing M r p ≡ standing M r h → p ≡ h
  standing_pin r {p} {h} m e = elim (decide (some (eqb h) (contenders M r))) [
    | inl t ↦ standing_one r m (record { found = t }) e
    | inr f ↦ absurd (omega (arith, standing_end M r m, standing_out M r {q = h} (λ n. f n.found)))
  ]

  module _ (held : List ℕ) (st : Stable M held) where
    pub held_none : {r : ℕ} → r < M.routers → (get_or held r none ≡ none) ↔ (available M held r ≡ [])
    held_none {r} lt = (
      λ e. choice_none M sound r (available M held r) (available_all M held r) (sym (st.chosen r lt) ∙ e),
      λ e. st.chosen r lt ∙ none_choice M sound r (available M held r) e,
    )

    -- the eight steps leave just the row that is held
    pub held_decided : {r q : ℕ} → r < M.routers → In q (available M held r) → decided M r (available M held r) ≡ get_or held r none ∷ []
    held_decided {r} lt m = decided_one M sound r (available M held r) (filtered (λ z. own_of M r z || eqb (get_or held (M.router z) none) z) (all M)) m
        ∙ ap (λ (h : ℕ). h ∷ []) (sym (st.chosen r lt))

    -- some row that steps 1 to 3 leave of all rows is held by its owner
    pub anchor : {s : ℕ} → In s (preferred M (all M)) → Some (λ a. get_or held (M.router a) none ≡ a) (preferred M (all M))
    anchor {s} n = record { row = h; member = decided_preferred M held r ms n mh; passes = holds (available_cases M held r (decided_in M r rows mh)) }
      where
        r : ℕ
        r = M.router s

        rows : List ℕ
        rows = available M held r

        ms : In s rows
        ms = available_own M held r (preferred_all M n) refl

        h : ℕ
        h = choice M r rows

        mh : In h (decided M r rows)
        mh = choice_decided M r rows ms

        is : get_or held r none ≡ h
        is = st.chosen r (owned M sound (preferred_all M n))

        holds : (M.router h ≡ r) ⊎ (get_or held (M.router h) none ≡ h) → get_or held (M.router h) none ≡ h
        holds (inl e) = ap (λ (o : ℕ). get_or held o none) e ∙ is
        holds (inr e) = e

    -- a row that its owner holds is a contender of its owner
    pub held_contender : {q : ℕ} → In q (all M) → get_or held (M.router q) none ≡ q → In q (contenders M (M.router q))
    held_contender {q} m e = go (anchor ((picks_preferred M).any (all M) m).member)
      where
        o : ℕ
        o = M.router q

        is : choice M o (available M held o) ≡ q
        is = sym (st.chosen o (owned M sound m)) ∙ e

        go : Some (λ a. get_or held (M.router a) none ≡ a) (preferred M (all M)) → In q (contenders M o)
        go w = let ma = available_held M held o (preferred_all M w.member) w.passes in
            decided_contender M held o ma w.member (subst (λ (z : ℕ). In z (decided M o (available M held o))) is (choice_decided M o (available M held o) ma)) refl

  -- two stable assignments with the same standings are the same
  pub determined : (a b : List ℕ) → Stable M a → Stable M b → standings M a ≡ standings M b → a ≡ b
  determined a b sa sb e = ext_get_or none a b (sa.size ∙ sym sb.size) (λ i lt. each i (subst (λ (n : ℕ). i < n) sa.size lt))
    where
      same : (r : ℕ) → r < M.routers → standing M r (get_or a r none) ≡ standing M r (get_or b r none)
      same r lt = sym (table_at (λ r. standing M r (get_or a r none)) 0 _ _ lt) ∙ ap (λ (l : List ℕ). get_or l r 0) e ∙ table_at (λ r. standing M r (get_or b r none)) 0 _ _ lt

      keeps : (c d : List ℕ) → Stable M c → ((r : ℕ) → r < M.routers → standing M r (get_or c r none) ≡ standing M r (get_or d r none))
          → (q : ℕ) → In q (all M) → get_or c (M.router q) none ≡ q → get_or d (M.router q) none ≡ q
      keeps c d sc f q m h = sym (standing_pin (M.router q) (held_contender c sc m h) (ap (standing M (M.router q)) (sym h) ∙ f (M.router q) (owned M sound m)))

      each : (i : ℕ) → i < M.routers → get_or a i none ≡ get_or b i none
      each i lt = sa.chosen i lt ∙ ap (choice M i) (available_same M a b (keeps a b sa same) (keeps b a sb (λ r l. sym (same r l))) i) ∙ sym (sb.chosen i lt)
