use Rattle.std.proofs.Common.{arith, ne_eqb}
use Rattle.model.specs.Decision.{none}
use Rattle.text.specs.TextLaws.{puts_then}
use Rattle.lines.proofs.put_entry.Goals as goal

pub returns : goal.returns
returns c =
    let p = c.put_number-2.ensures in
    let q = c.put_number-3.ensures in
    rw (ne_eqb _ none c.if-row-eq-NONE.false, ne_eqb _ _ c.if-owner-r.false) (record { puts = puts_then p.puts q.puts; short = omega arith })
