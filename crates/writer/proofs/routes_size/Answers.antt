-- The sizes are summed up. Assumes nothing.
use Rattle.std.proofs.Common.{◌≡◌, ◌∙◌, map, sum, arith, rules}
use Rattle.snapshot.specs.Records.{four_byte}
use Rattle.writer.specs.Writing.{size_by}
use Rattle.writer.specs.WritingLaws.{sizes_of, sizes_most}
use Rattle.writer.proofs.routes_size.Goals as goal

pub returns : goal.returns
returns c =
    let asn = c.args.asn.now in
    let summed : c.sum.result ≡ sum (map (λ a. size_by (four_byte a)) asn) = search rules in
    (summed ∙ sizes_of asn, omega (arith, summed, sizes_of asn, sizes_most asn c.requires))
