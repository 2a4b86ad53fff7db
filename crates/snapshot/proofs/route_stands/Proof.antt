-- `route_stands` meets its contract. Assumes nothing.
use borrow.Author.Rules.{rules}
use Prim.Native.Nat.{ℕ}
use mathlib.Core.Path.{ap}
use lib.Dec.{eqb}
use Rattle.snapshot.proofs.route_stands.Statement.{statement}
use Rattle.snapshot.proofs.route_stands.Tie as tie

pub route_stands_spec : {M : Type 1} → statement M
route_stands_spec = tie.close (tie.spec (λ c κs. search rules) (λ c. ap (λ (k : ℕ). eqb c.before.args.kind k) c.route_kind.ensures))
