-- The prefixes before the place stand in the rows before p, the other tables are as before, and all are the lent ones.
use Rattle.std.proofs.Common.{◌≡◌}
use Rattle.snapshot.specs.Lent.{lent_tables, Keeps}
use Rattle.fill.specs.Fill.{lists_in}
use Rattle.fill.specs.StoresLaws.{Listed}
use Rattle.pour.proofs.fill_prefixes.Given as goal

abbrev pub invariant-loop-p : goal.invariant-loop-p
invariant-loop-p l = record {
  listed : Listed l.input l.prefixes l.fn.at (lists_in (lent_tables l.fn.tables)) l.p l.next.at l.next.row (lists_in (lent_tables l.tables));
  others : (l.tables.ids.now ≡ l.fn.tables.ids.now) × (l.tables.distances.now ≡ l.fn.tables.distances.now);
  kept : Keeps l.fn.tables l.tables;
}
