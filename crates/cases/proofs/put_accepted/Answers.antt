use Rattle.std.proofs.Common.{arith, sym, ap}
use Rattle.text.specs.TextLaws.{puts_then, puts_as}
use Rattle.cases.specs.Cases.{likeness}
use Rattle.cases.proofs.put_accepted.Goals as goal

pub returns-then-same : goal.returns-then-same
returns-then-same c =
    let counts = puts_then (puts_then (puts_then c.put_text.ensures c.put_number.ensures.puts) c.put_number-2.ensures.puts) c.put_number-3.ensures.puts in
    record { puts = puts_then counts (puts_as c.put_text-then-same.ensures (ap likeness (sym c.if-same.true))); short = omega arith }

pub returns : goal.returns
returns c =
    let counts = puts_then (puts_then (puts_then c.put_text.ensures c.put_number.ensures.puts) c.put_number-2.ensures.puts) c.put_number-3.ensures.puts in
    record { puts = puts_then counts (puts_as c.put_text-2.ensures (ap likeness (sym c.if-same.false))); short = omega arith }
