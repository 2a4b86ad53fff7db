-- The rows from `from` on are left.
use Rattle.writer.specs.Writing.{rows_bytes}
use Rattle.writer.specs.SectionsLaws.{Section, rows_from}
use Rattle.writer.proofs.put_distances.Given as goal

abbrev pub invariant-loop-from : goal.invariant-loop-from
invariant-loop-from l = Section (rows_from l.distances l.n) (rows_bytes l.distances l.n) l.initial.out l.fn.first l.from l.out l.at
