use Rattle.std.proofs.Common.{arith}
use Rattle.text.specs.TextLaws.{puts_then}
use Rattle.lines.proofs.put_router.Goals as goal

pub returns : goal.returns
returns c =
    let p = c.put_number.ensures in
    let q = c.put_entry.ensures in
    let s = c.put_or.ensures in
    record { puts = puts_then (puts_then (puts_then p.puts q.puts) s.puts) c.put_text.ensures; short = omega arith }
