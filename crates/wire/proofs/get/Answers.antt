-- The bytes make the number behind as many zeros as are missing from four.
use Rattle.std.proofs.Common.{◌∙◌}
use Rattle.wire.specs.NumbersLaws.{got_bytes}
use Rattle.wire.proofs.get.Goals as goal

pub returns : goal.returns
returns g c =
    c.from_be_bytes.ensures
    ∙ got_bytes g.row.W c.args.at c.args.s.now c.copy_from_slice.new.self c.requires.1 c.requires.0 c.requires.2 c.copy_from_slice.ensures.after
