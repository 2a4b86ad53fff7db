-- The records of the row from `to` on are left.
use Rattle.writer.specs.Writing.{row_bytes}
use Rattle.writer.specs.SectionsLaws.{Section, row_from}
use Rattle.writer.proofs.put_row.Given as goal

abbrev pub invariant-loop-to : goal.invariant-loop-to
invariant-loop-to l = Section (row_from l.distances l.n l.from) (row_bytes l.distances l.n l.from) l.initial.out l.fn.first l.to l.out l.at
