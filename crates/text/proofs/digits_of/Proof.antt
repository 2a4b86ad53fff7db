use native.Mathlib.Omega.{arith}
use native.Mathlib.Nat.{div-lt_self}
use lib.Dec.{lit<}
use Rattle.text.specs.TextLaws.{Tried, tried, tried_next, tried_fits, tried_end}
use Rattle.text.proofs.digits_of.Statement.{statement}
use Rattle.text.proofs.digits_of.Tie as tie

abbrev invariant-loop-rest : tie.invariant-loop-rest
invariant-loop-rest n k₀ rest₀ k rest = Tried n k rest

abbrev decreases-loop-rest : tie.decreases-loop-rest
decreases-loop-rest n k₀ rest₀ k rest = rest

pub digits_of_spec : {M : Type 1} → statement M
digits_of_spec =
    tie.close (tie.spec invariant-loop-rest decreases-loop-rest (λ c. search tried) (λ c. omega (arith, tried_fits c.before.loop-rest.invariant c.loop-rest-test.true)) (λ c. div-lt_self c.loop-rest-test.true (lit< tt)) (λ c. search tried_next) (λ c. tried_end c.before.loop-rest.invariant c.loop-rest-test.false))
