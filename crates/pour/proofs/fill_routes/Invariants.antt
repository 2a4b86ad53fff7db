-- The routes before the place stand in the rows before the row, and the columns are the lent ones.
use Rattle.snapshot.specs.Lent.{lent_columns, KeepsColumns}
use Rattle.fill.specs.StoresLaws.{Taken}
use Rattle.pour.proofs.fill_routes.Given as goal

abbrev pub invariant-loop-row : goal.invariant-loop-row
invariant-loop-row l = record {
  taken : Taken l.input l.room l.fn.from.at l.fn.from.row (lent_columns l.fn.rows) l.at l.row (lent_columns l.rows);
  kept : KeepsColumns l.fn.rows l.rows;
}
