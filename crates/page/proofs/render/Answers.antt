use Rattle.std.proofs.Common.{T, ap, ◌∙◌, length, arith, rules}
use Rattle.std.proofs.Math.Pow.{are_bytes}
use Rattle.wire.specs.NumbersLaws.{slice_bytes}
use Rattle.snapshot.proofs.TablesLaws.{zeros_have_room}
use Rattle.page.specs.Page.{room}
use Rattle.page.specs.RenderLaws.{ready, page_is, rendered_text}
use Rattle.page.proofs.render.Goals as goal

pub returns-then-out-lt-PAGE : goal.returns-then-out-lt-PAGE
returns-then-out-lt-PAGE c = room c.if-out-lt-PAGE.true

pub put_read-requires : goal.put_read-requires
put_read-requires c =
    let bytes : T (are_bytes c.args.input.now) = slice_bytes c.args.input.now (λ k. (c.type_inv.input k).fits) in
    let d = c.read_snapshot-read.ensures.read in
    let long = ap length c.new-sink.ensures.bytes in
    (c.new-sink.ensures.place, ready c.args.input.now _ (zeros_have_room c.new-arrays.ensures) bytes _ _ _ d.0 (c.view.ensures ∙ d.1) (omega arith))

pub returns : goal.returns
returns c =
    let bytes : T (are_bytes c.args.input.now) = slice_bytes c.args.input.now (λ k. (c.type_inv.input k).fits) in
    let d = c.read_snapshot-read.ensures.read in
    let s = c.new-sink.ensures in
    let page = page_is c.args.input.now _ (zeros_have_room c.new-arrays.ensures) bytes c.read_snapshot-read.result _ d.0 (c.view.ensures ∙ d.1) in
    rendered_text c.args.input.now s.place s.bytes c.if-out-lt-PAGE.false page c.put_read.ensures (search rules)
