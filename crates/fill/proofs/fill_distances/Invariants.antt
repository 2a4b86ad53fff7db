-- The rows before `from` are put, and the others are as before.
use Rattle.fill.specs.StoresLaws.{Entries}
use Rattle.fill.proofs.fill_distances.Given as goal

abbrev pub invariant-loop-from : goal.invariant-loop-from
invariant-loop-from l = Entries l.input l.n l.fn.distances l.from l.distances
