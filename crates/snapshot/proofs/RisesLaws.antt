-- The order of pairs of numbers, by the first number, then by the second.
use Rattle.std.specs.Prelude.{ℕ, ◌<◌, ◌≡◌, ◌⊎◌, false, ◌&&◌, T, eqb, ltb}
use Rattle.std.proofs.Common.{arith, sym, ◌∙◌, inl, inr, ⊎_elim, true≢false, eqb→eq, ltb→lt, lt→ltb}
use Rattle.model.proofs.RowLaws.{or_cases, or_left, or_right, and_left, and_right, and_both, eq→eqb, test_true}
use Rattle.snapshot.specs.Ranges.{rises}

-- strictly below
abbrev pub Below : ℕ → ℕ → ℕ → ℕ → Type 0
Below a b c d = (a < c) ⊎ ((a ≡ c) × (b < d))

pub rises_below : (a b c d : ℕ) → T (rises a b c d) → Below a b c d
rises_below a b c d t =
    ⊎_elim (λ l. inl (ltb→lt a c l)) (λ l. inr (eqb→eq a c (and_left (eqb a c) (ltb b d) l), ltb→lt b d (and_right (eqb a c) (ltb b d) l)))
    (or_cases (ltb a c) (eqb a c && ltb b d) t)

pub below_rises : (a b c d : ℕ) → Below a b c d → T (rises a b c d)
below_rises a b c d h =
    ⊎_elim (λ l. or_left (ltb a c) (eqb a c && ltb b d) (lt→ltb a c l))
    (λ l. or_right (ltb a c) (eqb a c && ltb b d) (and_both (eqb a c) (ltb b d) (eq→eqb l.0) (lt→ltb b d l.1))) h

below_trans : (a b c d e f : ℕ) → Below a b c d → Below c d e f → Below a b e f
below_trans a b c d e f h k =
    ⊎_elim
    (λ l. ⊎_elim (λ m. inl (omega arith)) (λ m. let q = m.0 in inl (omega arith)) k)
    (λ l. let p = l.0 in ⊎_elim (λ m. inl (omega arith)) (λ m. inr (p ∙ m.0, omega (arith, l.1, m.1))) k)
    h

pub rises_trans : (a b c d e f : ℕ) → T (rises a b c d) → T (rises c d e f) → T (rises a b e f)
rises_trans a b c d e f h k = below_rises a b e f (below_trans a b c d e f (rises_below a b c d h) (rises_below c d e f k))

-- a pair is not below one that is the same
pub rises_apart : (a b c d : ℕ) → T (rises a b c d) → a ≡ c → b ≡ d → ⊥
rises_apart a b c d t p q = ⊎_elim (λ l. omega arith) (λ l. omega (arith, l.1)) (rises_below a b c d t)

-- two of which neither is below the other are the same
pub rises_neither : (a b c d : ℕ) → rises a b c d ≡ false → rises c d a b ≡ false → (a ≡ c) × (b ≡ d)
rises_neither a b c d x y =
    let no : Below a b c d → ⊥ = λ h. true≢false (sym (test_true (rises a b c d) (below_rises a b c d h)) ∙ x) in
    let on : Below c d a b → ⊥ = λ h. true≢false (sym (test_true (rises c d a b) (below_rises c d a b h)) ∙ y) in
    let r1 : ¬ (a < c) = λ l. no (inl l) in
    let r2 : ¬ (c < a) = λ l. on (inl l) in
    let r : a ≡ c = omega arith in
    let p1 : ¬ (b < d) = λ l. no (inr (r, l)) in
    let p2 : ¬ (d < b) = λ l. on (inr (sym r, l)) in
    (r, omega arith)
