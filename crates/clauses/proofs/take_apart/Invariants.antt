use Rattle.clauses.specs.LoopLaws.{Taken}
use Rattle.clauses.proofs.take_apart.Given as goal

abbrev pub invariant-loop-n : goal.invariant-loop-n
invariant-loop-n l = Taken l.policy l.fn.at l.initial.room-items l.n l.at l.room-items
