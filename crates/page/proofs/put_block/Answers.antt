use Rattle.std.proofs.Common.{arith}
use Rattle.text.specs.TextLaws.{puts_then}
use Rattle.page.proofs.put_block.Goals as goal

pub returns : goal.returns
returns c =
    let p = c.put_prefix.ensures in
    let q = c.put_routers.ensures in
    record { puts = puts_then p.puts q.puts; short = omega (arith, c.requires.late_len.1) }
