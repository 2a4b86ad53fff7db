-- Laws of plain numbers.
use Rattle.std.specs.Prelude.{ℕ, ◌*◌, ◌%◌, ◌^◌, ◌≤◌, ◌<◌, ◌≡◌, refl, ◌⊎◌, Bool, true, false, leb}
use Rattle.std.proofs.Common.{one-mul, mod-eq_of_lt, inl, inr, leb-true, leb-false}
use Rattle.std.proofs.Math.Pow.{pow-lt}

pub le_or_lt : (m n : ℕ) → (m ≤ n) ⊎ (n < m)
le_or_lt m n = go (leb m n) refl
  where
    go : (b : Bool) → leb m n ≡ b → (m ≤ n) ⊎ (n < m)
    go true e = inl (leb-true m n e)
    go false e = inr (leb-false m n e)

-- a one that is shifted left in a word is a power of two
pub shifted : (r : ℕ) → r < 64 → (1 * 2 ^ r) % 2 ^ 64 ≡ 2 ^ r
shifted r h = rw (one-mul (2 ^ r)) (mod-eq_of_lt (pow-lt {i = r} {j = 64} h))
