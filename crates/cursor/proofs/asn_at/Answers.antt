-- The AS is what the bits behind it leave of the four bytes.
use Rattle.std.proofs.Common.{ℕ, ◌/◌, ◌^◌, ap₂, ◌∙◌}
use Rattle.cursor.specs.StepsLaws.{asn_left}
use Rattle.cursor.proofs.asn_at.Goals as goal

pub returns : goal.returns
returns c =
    ap₂ (λ (n k : ℕ). n / 2 ^ k) c.get32-bytes.ensures c.bits_behind.ensures
    ∙ asn_left c.args.input.now c.args.at (λ k. (c.type_inv.input k).fits) c.args.four
