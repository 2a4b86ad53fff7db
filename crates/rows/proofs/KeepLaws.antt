-- Rows kept by what calls give: the list from a place on while its front is written over, and the least of keys that fit.
use Rattle.std.specs.Prelude.{ℕ, suc, ◌+◌, ◌-◌, ◌≤◌, ◌<◌, ◌≡◌, refl, min, max, List, [], ◌∷◌, length, drop, set, eqb}
use Rattle.std.proofs.Common.{arith, sym, ap, subst, ◌∙◌, inl, inr, zero-le, length-set, drop-drop, drop-set-lt}
use Rattle.model.specs.Rows.{column, keep, least, keep_least}
use Rattle.model.specs.Contest.{least_or}
use Rattle.model.proofs.NumberLaws.{le_or_lt}
use Rattle.model.proofs.ListLaws.{ahead_here, Lower, lower_off, lower_on, Higher, higher_off, higher_on}
use Rattle.rows.specs.Lent.{Each}

-- n places at the front are written, and nothing behind them
pub record Ahead (rows₀ : List ℕ) (i n : ℕ) (rows : List ℕ) : Type 0 where
  pub few : n ≤ i
  pub long : length rows ≡ length rows₀
  pub behind : drop n rows ≡ drop n rows₀

pub ahead : {rows₀ : List ℕ} → Ahead rows₀ 0 0 rows₀
ahead = record { few = zero-le; long = refl; behind = refl }

module _ {rows₀ : List ℕ} {i n : ℕ} {rows : List ℕ} (s : Ahead rows₀ i n rows) where
  -- the row at place i stands as it did
  pub ahead_is : column rows i ≡ column rows₀ i
  ahead_is =
      let e : n + (i - n) ≡ i = omega (arith, s.few) in
      ahead_here rows rows₀ i (rw e at (sym (drop-drop (i - n) n rows) ∙ ap (drop (i - n)) s.behind ∙ drop-drop (i - n) n rows₀))

  pub ahead_off : Ahead rows₀ (i + 1) n rows
  ahead_off = record { few = omega (arith, s.few); long = s.long; behind = s.behind }

  pub ahead_on : (v : ℕ) → Ahead rows₀ (i + 1) (n + 1) (set rows n v)
  ahead_on v = record {
    few = omega (arith, s.few);
    long = length-set rows n v ∙ s.long;
    behind = drop-set-lt (n + 1) rows n v (omega arith) ∙ sym (drop-drop 1 n rows) ∙ ap (drop 1) s.behind ∙ drop-drop 1 n rows₀;
  }

-- the least key and the greatest after one more row
module _ {key : ℕ → ℕ} {rows : List ℕ} {i k v : ℕ} (l : i < length rows) (e : k ≡ key (column rows i)) where
  pub lower_min : {past low : ℕ} → Lower past key rows i low → v ≡ min low k → Lower past key rows (i + 1) v
  lower_min {past} {low} s m = elim (le_or_lt low k) [
    | inl h ↦ subst (Lower past key rows (i + 1)) (let w : low ≡ v = omega arith in w) (lower_off s l e h)
    | inr h ↦ subst (Lower past key rows (i + 1)) (let w : k ≡ v = omega arith in w) (lower_on s l e h)
  ]

  pub higher_max : {high : ℕ} → Higher key rows i high → v ≡ max high k → Higher key rows (i + 1) v
  higher_max {high} s m = elim (le_or_lt k high) [
    | inl h ↦ subst (Higher key rows (i + 1)) (let w : high ≡ v = omega arith in w) (higher_off s l e h)
    | inr h ↦ subst (Higher key rows (i + 1)) (let w : k ≡ v = omega arith in w) (higher_on s l e h)
  ]

-- the least key, where those of the listed rows are not above `past`
least_is : (past : ℕ) (key : ℕ → ℕ) (q : ℕ) (rows : List ℕ) → Each (λ p. key p ≤ past) (q ∷ rows) → least key (q ∷ rows) ≡ least_or past key (q ∷ rows)
least_is past key q [] h = let b = h.each 0 (omega arith) in omega arith
least_is past key q (p ∷ rows) h = ap (min (key q)) (least_is past key p rows (record { each = λ i l. h.each (suc i) (omega arith) }))

pub keep_least_is : (past : ℕ) (key : ℕ → ℕ) (rows : List ℕ) → Each (λ p. key p ≤ past) rows → keep_least key rows ≡ keep (λ q. eqb (key q) (least_or past key rows)) rows
keep_least_is past key [] h = refl
keep_least_is past key (q ∷ rows) h = ap (λ (low : ℕ). keep (λ p. eqb (key p) low) (q ∷ rows)) (least_is past key q rows h)
