-- The records of the prefixes from p on are left, and the routes of the next begin at `row`.
use Rattle.std.proofs.Common.{◌≡◌}
use Rattle.model.specs.Rows.{table, start}
use Rattle.snapshot.specs.Format.{prefixes_bytes}
use Rattle.snapshot.specs.Lent.{tables_of}
use Rattle.tables.specs.Judging.{prefix_at}
use Rattle.writer.specs.SectionsLaws.{Section, prefixes_from}
use Rattle.writer.proofs.put_prefixes.Given as goal

abbrev pub invariant-loop-p : goal.invariant-loop-p
invariant-loop-p l =
    let t = tables_of l.tables in
    Section (prefixes_from t l.n) (prefixes_bytes (table l.n (prefix_at t))) l.initial.out l.fn.first l.p l.out l.at × (l.row ≡ start l.tables.routes.now l.p)
