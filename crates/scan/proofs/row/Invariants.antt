-- The row is due from `to` on.
use Rattle.scan.specs.Scan.{Row}
use Rattle.scan.proofs.row.Given as goal

abbrev pub invariant-loop-to : goal.invariant-loop-to
invariant-loop-to l = Row l.input l.n l.from l.to l.c
