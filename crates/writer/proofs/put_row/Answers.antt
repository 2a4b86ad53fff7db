-- Each turn puts the record of the next distance, but for the router itself. Assumes nothing.
use Rattle.std.proofs.Common.{refl, arith}
use Rattle.writer.specs.SectionsLaws.{section_room, section_next, row_equal, row_other}
use Rattle.writer.proofs.put_row.Goals as goal

pub put_distance-requires : goal.put_distance-requires
put_distance-requires c =
    ((section_room c.loop-to.invariant (row_other c.args.distances.now c.args.n c.args.from c.loop-to.to c.loop-to-test.true c.if-from-to.false)).fits, omega arith)

pub loop-to-preserved-then-from-to : goal.loop-to-preserved-then-from-to
loop-to-preserved-then-from-to c =
    section_next c.loop-to.invariant (row_equal c.args.distances.now c.args.n c.args.from c.loop-to.to c.loop-to-test.true c.if-from-to.true) refl (omega arith)

pub loop-to-preserved : goal.loop-to-preserved
loop-to-preserved c =
    section_next c.loop-to.invariant (row_other c.args.distances.now c.args.n c.args.from c.loop-to.to c.loop-to-test.true c.if-from-to.false) c.put_distance.ensures refl
