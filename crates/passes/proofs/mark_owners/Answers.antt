-- A prefix a turn.
use Rattle.std.proofs.Common.{arith, rules, sym}
use Rattle.model.proofs.RowLaws.{start_first, start_next}
use Rattle.passes.specs.PassesLaws.{owned, owned_next, count_read, rows_within}
use Rattle.passes.proofs.mark_owners.Goals as goal

pub loop-p-init : goal.loop-p-init
loop-p-init c = record { row = sym (start_first c.args.routes.now); marked = owned _ _ }

pub overflow_add-end : goal.overflow_add-end
overflow_add-end c = omega (arith, rows_within c.args.routes.now c.args.prefixes c.loop-p.p c.requires.counted c.loop-p-test.true c.loop-p.invariant.row)

pub offset_bounds-owner-row : goal.offset_bounds-owner-row
offset_bounds-owner-row c = omega (arith, rows_within c.args.routes.now c.args.prefixes c.loop-p.p c.requires.counted c.loop-p-test.true c.loop-p.invariant.row)

pub slice_bounds-fill-end : goal.slice_bounds-fill-end
slice_bounds-fill-end c = omega (arith, rows_within c.args.routes.now c.args.prefixes c.loop-p.p c.requires.counted c.loop-p-test.true c.loop-p.invariant.row)

pub loop-p-preserved : goal.loop-p-preserved
loop-p-preserved c =
    let count = count_read c.args.routes.now c.args.prefixes c.loop-p.p c.requires.counted c.loop-p-test.true in
    let within = rows_within c.args.routes.now c.args.prefixes c.loop-p.p c.requires.counted c.loop-p-test.true c.loop-p.invariant.row in
    let filled = c.fill.ensures.after (λ y k. search rules) in
    record {
      row = omega (arith, count, start_next c.args.routes.now c.loop-p.p);
      marked = owned_next c.loop-p.invariant.marked c.loop-p.row _ c.fill.new.self c.loop-p.invariant.row count (omega arith) filled;
    }
