-- When a prefix is sound: where its routes rise by router, then peer address, as those of a snapshot do; and where a test says so.
use Rattle.std.specs.Prelude.{ℕ, zero, suc, ◌≤◌, ◌<◌, ◌≡◌, ◌⊎◌, Bool, true, false, ◌&&◌, not, List, [], ◌∷◌, get_or, T, eqb, ltb, leb}
use Rattle.std.proofs.Common.{arith, sym, subst, inl, inr, eqb→eq, ltb→lt, leb→le}
use Rattle.std.proofs.Math.Dec.{not_T}
use Rattle.model.specs.Rows.{some, span}
use Rattle.model.proofs.RowLaws.{In, decide, eq→eqb, and_left, and_right, and_both, none_some, in_some, span_in}
use Rattle.model.specs.Decision.{Mesh, none, all}
use Rattle.model.specs.Stability.{Sound}

-- what the routes of a prefix are known to be by their order: they rise by router, then peer address
pub record Rising (M : Mesh) : Type 0 where
  pub owned : (i : ℕ) → i < M.rows → M.router i < M.routers
  pub rises : (i : ℕ) → suc i < M.rows → (M.router i < M.router (suc i)) ⊎ ((M.router i ≡ M.router (suc i)) × (M.peer i < M.peer (suc i)))
  pub ids : (a b : ℕ) → a < M.routers → b < M.routers → M.id a ≡ M.id b → a ≡ b
  pub few : M.rows ≤ none

module _ (M : Mesh) (rising : Rising M) where
  abbrev Less : ℕ → ℕ → Type 0
  Less p q = (M.router p < M.router q) ⊎ ((M.router p ≡ M.router q) × (M.peer p < M.peer q))

  less_trans : (p q z : ℕ) → Less p q → Less q z → Less p z
  less_trans p q z (inl a) (inl b) = inl (omega arith)
  less_trans p q z (inl a) (inr b) = inl (omega arith)
  less_trans p q z (inr a) (inl b) = inl (omega arith)
  less_trans p q z (inr a) (inr b) = inr (omega arith, omega arith)

  less : (p q : ℕ) → p < q → q < M.rows → Less p q
  less p zero h l = absurd (omega arith)
  less p (suc q) h l = go (decide (eqb p q)) (λ k. less p q k (omega arith))
    where
      go : T (eqb p q) ⊎ (T (eqb p q) → ⊥) → (p < q → Less p q) → Less p (suc q)
      go (inl t) below = subst (λ (z : ℕ). Less z (suc q)) (sym (eqb→eq p q t)) (rising.rises q l)
      go (inr f) below = let ne : ¬ (p ≡ q) = (λ e. f (eq→eqb e)) in less_trans p q (suc q) (below (omega arith)) (rising.rises q l)

  pub rising_sound : Sound M
  rising_sound = record {
    owned = rising.owned;
    peers = λ p q m n o e. omega (arith, apart p q n o e, apart q p m (sym o) (sym e));
    ids = rising.ids;
    few = rising.few;
  }
    where
      apart : (p q : ℕ) → q < M.rows → M.router p ≡ M.router q → M.peer p ≡ M.peer q → ¬ (p < q)
      apart p q n o e h = elim (less p q h n) [ inl a ↦ omega arith | inr a ↦ omega arith ]

-- ---- by a test

not_not : (b : Bool) → (T (not b) → ⊥) → T b
not_not true h = tt
not_not false h = absurd (h tt)

-- all of a list of tests pass; so the k-th does
abbrev pub every : List Bool → Bool
every [] = true
every (b ∷ bs) = b && every bs

pub every_at : (bs : List Bool) (k : ℕ) → T (every bs) → T (get_or bs k true)
every_at [] k t = tt
every_at (b ∷ bs) zero t = and_left b (every bs) t
every_at (b ∷ bs) (suc k) t = every_at bs k (and_right b (every bs) t)

-- some two different members are alike
abbrev twins : (ℕ → ℕ → Bool) → List ℕ → Bool
twins alike rows = some (λ p. some (λ q. not (eqb p q) && alike p q) rows) rows

no_twins : (alike : ℕ → ℕ → Bool) (n p q : ℕ) → T (not (twins alike (span 0 n))) → p < n → q < n → T (alike p q) → p ≡ q
no_twins alike n p q alone l k t = elim (decide (eqb p q)) [
  | inl e ↦ eqb→eq p q e
  | inr f ↦ absurd (none_some (λ z. some (other z) (span 0 n)) (span 0 n) alone (below p l)
      (in_some (other p) (span 0 n) (below q k) (and_both (not (eqb p q)) (alike p q) (not_T (eqb p q) f) t)))
]
  where
    other : ℕ → ℕ → Bool
    other z y = not (eqb z y) && alike z y

    below : (z : ℕ) → z < n → In z (span 0 n)
    below z h = span_in 0 n (omega arith) (omega arith)

module _ (M : Mesh) where
  abbrev same_peer : ℕ → ℕ → Bool
  same_peer p q = eqb (M.router p) (M.router q) && eqb (M.peer p) (M.peer q)

  abbrev same_id : ℕ → ℕ → Bool
  same_id a b = eqb (M.id a) (M.id b)

  abbrev stray : ℕ → Bool
  stray q = not (ltb (M.router q) M.routers)

  -- the four properties of a sound prefix, as tests
  abbrev sound_tests : List Bool
  sound_tests =
      not (some stray (all M))
      ∷ not (twins same_peer (all M))
      ∷ not (twins same_id (span 0 M.routers))
      ∷ leb M.rows none
      ∷ []

  abbrev pub sound_test : Bool
  sound_test = every sound_tests

  pub sound_by_test : T sound_test → Sound M
  sound_by_test t = record {
    owned = λ q l. ltb→lt (M.router q) M.routers (not_not (ltb (M.router q) M.routers)
        (none_some stray (all M) (every_at sound_tests 0 t) (span_in 0 M.rows (omega arith) (omega arith))));
    peers = λ p q l k o e. no_twins same_peer M.rows p q (every_at sound_tests 1 t) l k
        (and_both (eqb (M.router p) (M.router q)) (eqb (M.peer p) (M.peer q)) (eq→eqb o) (eq→eqb e));
    ids = λ a b l k e. no_twins same_id M.routers a b (every_at sound_tests 2 t) l k (eq→eqb e);
    few = leb→le M.rows none (every_at sound_tests 3 t);
  }
