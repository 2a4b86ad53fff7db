-- The records from index k on are left.
use Rattle.model.specs.Rows.{table, column}
use Rattle.snapshot.specs.Format.{routers_bytes}
use Rattle.writer.specs.SectionsLaws.{Section, ids_from}
use Rattle.writer.proofs.put_ids.Given as goal

abbrev pub invariant-loop-k : goal.invariant-loop-k
invariant-loop-k l = Section (ids_from l.ids l.n) (routers_bytes 0 (table l.n (column l.ids))) l.initial.out l.fn.first l.k l.out l.at
