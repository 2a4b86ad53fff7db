use Rattle.std.proofs.Common.{arith, length-take, length-drop, ℕ}
use Rattle.fill.specs.StoresLaws.{entries_next, entries_end}
use Rattle.fill.proofs.fill_distances.Goals as goal

pub loop-from-preserved : goal.loop-from-preserved
loop-from-preserved c = entries_next c.loop-from.invariant c.loop-from-test.true c.requires.0.few c.requires.1 (omega (arith, c.requires.0.few, c.requires.1, c.loop-from.auto.distances, length-take {A = ℕ}, length-drop {A = ℕ})) c.fill_row.ensures

pub returns : goal.returns
returns c = entries_end c.loop-from.invariant c.loop-from-test.false
