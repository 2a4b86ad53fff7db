-- The records of the routes from the k-th on are left.
use Rattle.snapshot.specs.Format.{routes_bytes}
use Rattle.snapshot.specs.Lent.{columns_of}
use Rattle.tables.specs.Judging.{routes_at}
use Rattle.writer.specs.SectionsLaws.{Section, routes_from}
use Rattle.writer.proofs.put_routes.Given as goal

abbrev pub invariant-loop-k : goal.invariant-loop-k
invariant-loop-k l = Section (routes_from (columns_of l.rows) l.row l.count) (routes_bytes (routes_at (columns_of l.rows) l.row l.count)) l.initial.out l.fn.first l.k l.out l.at
