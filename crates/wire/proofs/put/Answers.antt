-- The last of the number's four bytes are its bytes.
use Rattle.std.proofs.Common.{◌∙◌}
use Rattle.std.specs.Prelude.{◌-◌, take, drop}
use Rattle.std.proofs.Math.Path.{ap}
use Rattle.wire.specs.NumbersLaws.{last_bytes, put_bytes}
use Rattle.wire.proofs.put.Goals as goal

pub returns : goal.returns
returns g c =
    let w = g.row.W in
    put_bytes w c.args.v c.args.at c.args.d.now c.copy_from_slice.new.self
    (c.copy_from_slice.ensures.after ∙ ap (λ bytes. take (4 - (4 - w)) (drop (4 - w) bytes)) c.to_be_bytes.ensures ∙ last_bytes w c.args.v c.requires.1 c.requires.0)
    c.requires.2
