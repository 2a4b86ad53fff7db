-- A row lowers its bucket's number to its key, if that is less.
use Rattle.std.proofs.Common.{arith, length, sym, ap, min, ◌∙◌}
use Rattle.std.proofs.lemmas.List.{length_push}
use Rattle.std.proofs.lemmas.Slice.Zip.{zip_turn, zip_end}
use Rattle.model.specs.Rows.{column}
use Rattle.model.proofs.RowLaws.{length_span}
use Rattle.model.proofs.ListLaws.{lowers_next, lowers_end, span_at}
use Rattle.group.proofs.lower.Goals as goal

pub loop-b-preserved : goal.loop-b-preserved
loop-b-preserved c =
    let bucket = c.args.bucket.now in
    let key = c.args.key.now in
    let low = c.loop-b.low in
    let q = length c.loop-b.yielded in
    let turn = zip_turn bucket key c.loop-b.yielded _ c.loop-b.b-iterator c.next.new.self c.next.result (cc) (cc) c.loop-b.yielded_by (c.in-Some.field-0-0, c.in-Some.field-0-1) c.in-Some.is c.next.ensures.steps in
    let b = turn.2 0 in
    lowers_next c.loop-b.invariant (omega (arith, turn, length_span 0 (length bucket))) (sym (span_at (length bucket) q turn.0)) (length_push c.loop-b.yielded _) b
    (omega (arith, b, c.requires.1 q turn.0, c.loop-b.invariant.long)) (c.min.ensures ∙ ap (λ k. min k (column low c.in-Some.field-0-0.now)) (turn.3 0))

pub returns : goal.returns
returns c =
    let done = zip_end c.args.bucket.now c.args.key.now c.loop-b.yielded _ c.loop-b.b-iterator c.next.new.self c.next.result (cc) (cc) c.loop-b.yielded_by c.in-None.is c.next.ensures.steps in
    lowers_end c.loop-b.invariant (omega (arith, done, length_span 0 (length c.args.bucket.now)))
