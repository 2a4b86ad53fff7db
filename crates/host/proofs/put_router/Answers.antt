use Rattle.std.proofs.Common.{arith, ◌∙◌}
use Rattle.text.specs.TextLaws.{puts_then, puts_as}
use Rattle.host.specs.HostLaws.{two_bytes}
use Rattle.host.proofs.put_router.Goals as goal

pub returns : goal.returns
returns c =
    let a = c.args in
    let first = puts_as c.put_text.ensures (c.to_be_bytes.ensures ∙ two_bytes a.early) in
    let second = puts_as c.put_text-2.ensures (c.to_be_bytes-2.ensures ∙ two_bytes a.late) in
    record { puts = puts_then first second; short = omega (arith, first.place, second.place) }
