use native.Mathlib.Omega.{arith}
use borrow.Author.Rules.{rules}
use Rattle.text.specs.TextLaws.{Spelt, spelt, spelt_next, spelt_end}
use Rattle.text.proofs.put_digits.Statement.{statement}
use Rattle.text.proofs.put_digits.Tie as tie

abbrev invariant-loop-left : tie.invariant-loop-left
invariant-loop-left out₀ at n k left₀ rest₀ out left rest = Spelt out₀ n at k left rest out

abbrev decreases-loop-left : tie.decreases-loop-left
decreases-loop-left out₀ at n k left₀ rest₀ out left rest = left

pub put_digits_spec : {M : Type 1} → statement M
put_digits_spec =
    tie.close (tie.spec invariant-loop-left decreases-loop-left (λ c. search spelt) (λ c. search rules) (λ c. search rules) (λ c. search rules) (λ c. search rules) (λ c. omega arith) (λ c. search rules) (λ c. search spelt_next) (λ c. omega arith) (λ c. search spelt_end))
