-- Each group has the least MED of the passed rows of the routers so far.
use Rattle.model.proofs.RoundLaws.{Passing}
use Rattle.settle.proofs.Contest.pass.Given as goal

abbrev pub invariant-loop-r : goal.invariant-loop-r
invariant-loop-r l = Passing l.self.group.now l.self.med.now l.self.ends.now l.state l.fn.low l.r l.from l.low
