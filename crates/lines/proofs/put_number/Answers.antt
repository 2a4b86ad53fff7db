use Rattle.std.proofs.Common.{arith}
use Rattle.text.specs.TextLaws.{puts_then}
use Rattle.lines.specs.LinesLaws.{ten}
use Rattle.lines.proofs.put_number.Goals as goal

pub put_decimal-requires : goal.put_decimal-requires
put_decimal-requires c = omega (arith, ten c.args.n c.ranges.n.fits)

pub returns : goal.returns
returns c =
    let whole = puts_then c.put_text.ensures c.put_decimal.ensures in
    record { puts = whole; short = omega (arith, c.put_text.ensures.place, c.put_decimal.ensures.place, ten c.args.n c.ranges.n.fits) }
