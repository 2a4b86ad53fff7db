-- Each turn puts the next row. Assumes nothing.
use Rattle.std.proofs.Common.{arith}
use Rattle.writer.specs.SectionsLaws.{section_room, section_next, rows_next}
use Rattle.writer.proofs.put_distances.Goals as goal

pub put_row-at-requires : goal.put_row-at-requires
put_row-at-requires c =
    (omega arith, c.loop-from-test.true, omega arith, section_room c.loop-from.invariant (rows_next c.args.distances.now c.args.n c.loop-from.from c.loop-from-test.true))

pub loop-from-preserved : goal.loop-from-preserved
loop-from-preserved c =
    section_next c.loop-from.invariant (rows_next c.args.distances.now c.args.n c.loop-from.from c.loop-from-test.true) c.put_row-at.ensures.same c.put_row-at.ensures.place
