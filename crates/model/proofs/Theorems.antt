-- What is proved of the definitions of Decision.antt and Stability.antt, each theorem under the sentence that it makes true.
use Rattle.std.specs.Prelude.{ℕ, ◌≤◌, ◌<◌, ◌≡◌, ◌↔◌, Bool, not, List, [], ◌∷◌, T, eqb, length, get_or}
use Rattle.std.proofs.Common.{arith, sym, ap, subst, ◌∙◌, inl, inr, eqb→eq, T_not, ext_get_or}
use Rattle.std.proofs.Math.Dec.{not_T}
use Rattle.model.specs.Rows.{span}
use Rattle.model.proofs.RowLaws.{In, decide, eq→eqb, in_keep, keep_in, empty_of, nowhere, span_in, table_same}
use Rattle.model.specs.Decision.{Mesh, none, decided}
use Rattle.model.specs.Stability.{Sound, available, Stable, standing, standings, Between, differing, Settled, Only}
use Rattle.model.proofs.StabilityLaws as S
use Rattle.model.specs.Order.{position, own_order}
use Rattle.model.proofs.OrderLaws as O
use Rattle.model.specs.Contest.{early, late}
use Rattle.model.proofs.EarlyLateLaws.{early_late}
use Rattle.model.proofs.SoundLaws.{sound_by_test, every, every_at}
use Rattle.model.specs.Cases.{Case, Every, cases}
use Rattle.model.proofs.CasesLaws.{same_is, case_tests, cases_pass, every_case}

module _ (M : Mesh) (sound : Sound M) where
  -- For every prefix of an accepted snapshot a stable assignment exists; an early and a late one are shown, every stable one lies
  -- between them in each router's own order.
  pub forecast : Between M (early M) (late M)
  forecast = early_late M sound

  -- A stable assignment is determined by its standings.
  pub determined : (a b : List ℕ) → Stable M a → Stable M b → standings M a ≡ standings M b → a ≡ b
  determined = S.determined M sound

  -- two stable assignments each of which stands at or before the other at every router are one
  alike : (a b : List ℕ) → Stable M a → Stable M b
      → ((r : ℕ) → r < M.routers → standing M r (get_or a r none) ≤ standing M r (get_or b r none))
      → ((r : ℕ) → r < M.routers → standing M r (get_or b r none) ≤ standing M r (get_or a r none)) → a ≡ b
  alike a b sa sb f g =
      determined a b sa sb (table_same (λ r. standing M r (get_or a r none)) (λ r. standing M r (get_or b r none)) M.routers (λ r l. omega (arith, f r l, g r l)))

  -- Of all stable assignments, the early one gives every router the smallest standing, the late one the largest: no other pair does.
  pub pair_determined : (e l e' l' : List ℕ) → Between M e l → Between M e' l' → (e ≡ e') × (l ≡ l')
  pair_determined e l e' l' b b' = (
    alike e e' b.early_stable b'.early_stable (b.low e' b'.early_stable) (b'.low e b.early_stable),
    alike l l' b.late_stable b'.late_stable (b'.high l b.late_stable) (b.high l' b'.late_stable),
  )

  -- The answer is settled exactly when that number is 0, and then no second stable assignment exists.
  pub settled_only : (e l : List ℕ) → Between M e l → Settled M e l ↔ Only M
  settled_only e l b = (one, agree)
    where
      differs : ℕ → Bool
      differs r = not (eqb (get_or e r none) (get_or l r none))

      size : length e ≡ M.routers
      size = b.early_stable.size

      sizes : length e ≡ length l
      sizes = size ∙ sym b.late_stable.size

      same : Settled M e l → (r : ℕ) → r < M.routers → get_or e r none ≡ get_or l r none
      same s r h = elim (decide (eqb (get_or e r none) (get_or l r none))) [
        | inl t ↦ eqb→eq (get_or e r none) (get_or l r none) t
        | inr f ↦ absurd (some_member (differing M e l) (in_keep differs (span 0 M.routers) (span_in 0 M.routers (omega arith) (omega arith)) (not_T (eqb (get_or e r none) (get_or l r none)) f)) s)
      ]
        where
          some_member : (rows : List ℕ) {q : ℕ} → In q rows → length rows ≡ 0 → ⊥
          some_member [] m z = nowhere m
          some_member (p ∷ rows) m z = omega arith

      both : Settled M e l → e ≡ l
      both s = ext_get_or none e l sizes (λ i h. same s i (subst (λ (n : ℕ). i < n) size h))

      one : Settled M e l → Only M
      one s = record {
        held = e;
        stable = b.early_stable;
        alone = λ other st. alike other e st b.early_stable
            (λ r h. omega (arith, b.high other st r h, ap (λ (row : ℕ). standing M r row) (same s r h)))
            (b.low other st);
      }

      agree : Only M → Settled M e l
      agree only = ap length (empty_of (differing M e l) (λ r m.
          let k = keep_in differs (span 0 M.routers) m in
          apart (get_or e r none) (get_or l r none) k.1 (ap (λ (held : List ℕ). get_or held r none) (only.alone e b.early_stable ∙ sym (only.alone l b.late_stable)))))
        where
          apart : (x y : ℕ) → T (not (eqb x y)) → x ≡ y → ⊥
          apart x y t i = T_not (eqb x y) t (eq→eqb i)

  -- It is stable when each router holds exactly what the eight steps give it from what is available to it, and none exactly when
  -- nothing is available.
  pub none_available : (held : List ℕ) → Stable M held → (r : ℕ) → r < M.routers → (get_or held r none ≡ none) ↔ (available M held r ≡ [])
  none_available held st r h = S.held_none M sound held st h

  -- The eight steps leave exactly one row where any is available: the one that is held.
  pub one_left : (held : List ℕ) → Stable M held → (r q : ℕ) → r < M.routers → In q (available M held r) → decided M r (available M held r) ≡ get_or held r none ∷ []
  one_left held st r q h m = S.held_decided M sound held st h m

  -- A router's standing in an assignment is the position in that list of the route it holds; if it holds none of these, its standing
  -- is past the end of the list.
  pub standing_position : (r q : ℕ) → standing M r q ≡ position q (own_order M r)
  standing_position = O.standing_position M sound

-- The P cases are proved of the definitions, as one table under one statement.
pub record Proved (c : Case) : Type 0 where
  pub sound : Sound c.mesh
  pub between : Between c.mesh c.early c.late

pub cases_proved : Every Proved cases
cases_proved = every_case Proved proved cases cases_pass
  where
    proved : (c : Case) → T (every (case_tests c)) → Proved c
    proved c t =
        let s = sound_by_test c.mesh (every_at (case_tests c) 2 t) in
        record {
          sound = s;
          between = subst (λ (e : List ℕ). Between c.mesh e c.late) (same_is (early c.mesh) c.early (every_at (case_tests c) 0 t))
              (subst (Between c.mesh (early c.mesh)) (same_is (late c.mesh) c.late (every_at (case_tests c) 1 t)) (forecast c.mesh s));
        }
