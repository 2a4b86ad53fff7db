use Rattle.std.proofs.Common.{arith}
use Rattle.text.specs.TextLaws.{puts_then}
use Rattle.lines.proofs.put_address.Goals as goal

pub returns : goal.returns
returns c =
    let p = c.put_number.ensures in
    let q = c.put_number-2.ensures in
    let s = c.put_number-3.ensures in
    let t = c.put_number-4.ensures in
    record { puts = puts_then (puts_then (puts_then p.puts q.puts) s.puts) t.puts; short = omega arith }
