-- The rows are due from `from` on.
use Rattle.scan.specs.Scan.{Rows}
use Rattle.scan.proofs.distances.Given as goal

abbrev pub invariant-loop-from : goal.invariant-loop-from
invariant-loop-from l = Rows l.input l.n l.from l.c
