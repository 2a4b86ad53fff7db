use Rattle.std.proofs.Common.{arith}
use Rattle.text.specs.TextLaws.{puts_then}
use Rattle.lines.specs.LinesLaws.{twenty}
use Rattle.lines.proofs.put_place.Goals as goal

pub put_decimal-requires : goal.put_decimal-requires
put_decimal-requires c = omega (arith, twenty c.args.place c.ranges.place.fits)

pub returns : goal.returns
returns c = record {
  puts = puts_then c.put_text.ensures c.put_decimal.ensures;
  short = omega (arith, twenty c.args.place c.ranges.place.fits);
}
