-- `prefix_bad` meets its contract: the shift is a power of two. Assumes nothing.
use Prim.Native.Nat.{◌-◌}
use borrow.Author.Rules.{rules}
use borrow.Author.Tests.{lt-ltb, le-ltb}
use native.Mathlib.Omega.{arith}
use lib.Pow.{pow_pos}
use Rattle.model.proofs.NumberLaws.{shifted}
use Rattle.snapshot.proofs.prefix_bad.Statement.{statement}
use Rattle.snapshot.proofs.prefix_bad.Tie as tie

pub prefix_bad_spec : {M : Type 1} → statement M
prefix_bad_spec =
    tie.close
    (tie.spec
    (λ c. simp (lt-ltb _ _ c.if-bits-gt-MOST_BITS.true))
    (λ c. search rules)
    (λ c. search rules)
    (λ c. rw (shifted (32 - c.before.args.bits) (omega arith)) (pow_pos (32 - c.before.args.bits)))
    (λ c. rw (shifted (32 - c.before.args.bits) (omega arith)) (simp (le-ltb _ _ c.if-bits-gt-MOST_BITS.false))))
