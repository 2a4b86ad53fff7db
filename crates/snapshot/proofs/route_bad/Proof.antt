-- `route_bad` meets its contract: the neighbour AS by `asn_bad`. Assumes nothing.
use borrow.Author.Rules.{rules}
use Rattle.snapshot.proofs.route_bad.Statement.{statement}
use Rattle.snapshot.proofs.route_bad.Tie as tie

pub route_bad_spec : {M : Type 1} → statement M
route_bad_spec = tie.close (tie.spec (λ c κs. search rules) (λ c. cc))
