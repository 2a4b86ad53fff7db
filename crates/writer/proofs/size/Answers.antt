-- The ASes of the routes decide of their sizes. Assumes nothing.
use Rattle.std.proofs.Common.{arith}
use Rattle.writer.specs.WritingLaws.{routes_take}
use Rattle.writer.proofs.size.Goals as goal

pub returns : goal.returns
returns c = omega (arith, routes_take c.args.asn.now c.args.counts.routes (omega arith), c.pair_count-pairs.ensures, c.routes_size-routes.ensures)
