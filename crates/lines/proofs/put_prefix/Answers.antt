use Rattle.std.proofs.Common.{arith}
use Rattle.text.specs.TextLaws.{puts_then}
use Rattle.lines.proofs.put_prefix.Goals as goal

pub returns : goal.returns
returns c =
    let q = c.put_address.ensures in
    let s = c.put_number.ensures in
    let t = c.put_state.ensures in
    record { puts = puts_then (puts_then (puts_then (puts_then c.put_text.ensures q.puts) s.puts) t.puts) c.put_text-2.ensures; short = omega arith }
