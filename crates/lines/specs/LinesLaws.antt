-- No line is longer than 80 bytes.
use Rattle.std.specs.Prelude.{ℕ, ◌≤◌, ◌<◌, length}
use Rattle.std.proofs.Common.{arith, lit≤}
use Rattle.text.specs.Text.{decimal}
use Rattle.text.specs.TextLaws.{decimal_short}

-- a number of 32 bits has at most ten digits, and one of 64 bits at most twenty
pub ten : (n : ℕ) → n < 4294967296 → length (decimal n) ≤ 10
ten n h = decimal_short 10 n (lit≤ tt) (omega arith)

pub twenty : (n : ℕ) → n < 18446744073709551616 → length (decimal n) ≤ 20
twenty n h = decimal_short 20 n (lit≤ tt) (omega arith)
