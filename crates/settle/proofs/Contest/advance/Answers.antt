-- The first place of a router's part that is spared is the first of its places.
use Rattle.std.proofs.Common.{arith, refl, ◌<◌, ◌∙◌, length}
use Rattle.model.proofs.LoopLaws.{moved, moved_next, moved_end}
use Rattle.model.proofs.RoundLaws.{turn, turn_next, turn_room, slice_first}
use Rattle.settle.proofs.Contest.advance.Goals as goal

pub loop-r-init : goal.loop-r-init
loop-r-init c = (turn c.args.self.now.ready.whole, moved c.requires.0)

pub overflow_add-to : goal.overflow_add-to
overflow_add-to c = record { fits = omega (arith, turn_room c.loop-r.invariant.0 (omega arith), c.args.self.now.ready.rows) }

pub offset_bounds-self-from : goal.offset_bounds-self-from
offset_bounds-self-from c = record { fits = omega (arith, turn_room c.loop-r.invariant.0 (omega arith), c.args.self.now.ready.rows) }

pub slice_bounds-first_spared-end : goal.slice_bounds-first_spared-end
slice_bounds-first_spared-end c = turn_room c.loop-r.invariant.0 (omega arith)

pub offset_bounds-self-from-in-loop-r : goal.offset_bounds-self-from-in-loop-r
offset_bounds-self-from-in-loop-r c = record { fits = omega (arith, turn_room c.loop-r.invariant.0 (omega arith), c.args.self.now.ready.rows) }

pub slice_bounds-first_spared-end-in-loop-r : goal.slice_bounds-first_spared-end-in-loop-r
slice_bounds-first_spared-end-in-loop-r c = omega (arith, turn_room c.loop-r.invariant.0 (omega arith), c.args.self.now.ready.med_long)

pub loop-r-preserved : goal.loop-r-preserved
loop-r-preserved c =
    let t = c.args.self.now in
    let l : c.loop-r.r < length t.ends.now = omega arith in
    let found = c.first_spared-next.ensures ∙ slice_first t.group.now t.med.now c.args.low.now c.loop-r.invariant.0 (turn_room c.loop-r.invariant.0 l) in
    (turn_next c.loop-r.invariant.0 l, moved_next c.loop-r.invariant.1 l found refl)

pub returns-clause-places : goal.returns-clause-places
returns-clause-places c = (moved_end c.loop-r.invariant.1 (omega arith)).0
