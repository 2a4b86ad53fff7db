use Rattle.std.proofs.Common.{length, ◌-◌}
use Rattle.clauses.specs.LoopLaws.{Skipped}
use Rattle.clauses.proofs.behind_clauses.Given as goal

abbrev pub invariant-loop-size : goal.invariant-loop-size
invariant-loop-size l = Skipped l.policy l.fn.at l.at

abbrev pub decreases-loop-size : goal.decreases-loop-size
decreases-loop-size l = length l.policy - l.at
