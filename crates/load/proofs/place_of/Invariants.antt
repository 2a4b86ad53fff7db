-- The prefix that is sought stands so many behind the one at the place as are left.
use Rattle.load.specs.SkipLaws.{Sought}
use Rattle.load.proofs.place_of.Given as goal

abbrev pub invariant-loop : goal.invariant-loop
invariant-loop l = Sought l.input l.more l.fn.at l.counter l.at
