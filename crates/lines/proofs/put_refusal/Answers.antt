use Rattle.std.proofs.Common.{arith}
use Rattle.text.specs.TextLaws.{puts_then}
use Rattle.lines.proofs.put_refusal.Goals as goal

pub returns : goal.returns
returns c =
    let p = c.put_number.ensures in
    let q = c.put_place.ensures in
    record { puts = puts_then (puts_then p.puts q.puts) c.put_text.ensures; short = omega arith }
