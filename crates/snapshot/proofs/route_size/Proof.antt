-- `route_size` meets its contract, form by form. Assumes nothing.
use Rattle.snapshot.proofs.route_size.Statement.{statement}
use Rattle.snapshot.proofs.route_size.Tie as tie

pub route_size_spec : {M : Type 1} → statement M
route_size_spec = tie.close (tie.spec (λ c. rw c.if-four.true) (λ c. rw c.if-four.false))
