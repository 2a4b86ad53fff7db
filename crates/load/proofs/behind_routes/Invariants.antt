-- What is behind the routes from the place on is behind all of them.
use Rattle.load.specs.SkipLaws.{Skipped}
use Rattle.load.proofs.behind_routes.Given as goal

abbrev pub invariant-loop : goal.invariant-loop
invariant-loop l = Skipped l.input l.fn.at l.counter l.at
