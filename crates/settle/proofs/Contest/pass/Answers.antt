-- A router's part of the columns up to its place is what it has passed.
use Rattle.std.proofs.Common.{arith}
use Rattle.model.proofs.RoundLaws.{passing, passing_next, passing_end, turn_room}
use Rattle.settle.proofs.Contest.pass.Goals as goal

pub loop-r-init : goal.loop-r-init
loop-r-init c = passing c.args.self.now.ready.whole

pub overflow_add-to : goal.overflow_add-to
overflow_add-to c = record { fits = omega (arith, turn_room c.loop-r.invariant.at (omega arith), c.args.self.now.ready.rows) }

pub offset_bounds-self-from : goal.offset_bounds-self-from
offset_bounds-self-from c = record { fits = omega (arith, turn_room c.loop-r.invariant.at (omega arith), c.args.self.now.ready.rows) }

pub slice_bounds-lower-end : goal.slice_bounds-lower-end
slice_bounds-lower-end c = omega (arith, turn_room c.loop-r.invariant.at (omega arith))

pub offset_bounds-self-from-in-loop-r : goal.offset_bounds-self-from-in-loop-r
offset_bounds-self-from-in-loop-r c = record { fits = omega (arith, turn_room c.loop-r.invariant.at (omega arith), c.args.self.now.ready.rows) }

pub slice_bounds-lower-end-in-loop-r : goal.slice_bounds-lower-end-in-loop-r
slice_bounds-lower-end-in-loop-r c = omega (arith, turn_room c.loop-r.invariant.at (omega arith), c.args.self.now.ready.med_long)

pub loop-r-preserved : goal.loop-r-preserved
loop-r-preserved c = passing_next c.loop-r.invariant (omega arith) c.reach.ensures c.lower.auto.low c.lower.ensures

pub returns : goal.returns
returns c = passing_end c.loop-r.invariant (omega arith)
