use Rattle.std.proofs.Common.{ℕ, ◌+◌, length, refl, arith, sym, ap, ◌∙◌}
use Rattle.std.proofs.lemmas.List.Edits.{sets}
use Rattle.std.proofs.Math.Seq.{length-sets}
use Rattle.text.specs.Text.{decimal}
use Rattle.text.specs.TextLaws.{length_decimal, spelt_decimal}
use Rattle.text.proofs.Sink.put_decimal.Goals as goal

pub put_digits-requires : goal.put_digits-requires
put_digits-requires c = omega (arith, length_decimal c.args.n, c.digits_of-k.ensures, c.requires)

pub overflow_add-self : goal.overflow_add-self
overflow_add-self c = omega (arith, length_decimal c.args.n, c.digits_of-k.ensures, c.requires)

pub returns : goal.returns
returns c =
    let a = c.args.self.now in
    let e = c.put_digits.ensures ∙ ap (sets a.out.now a.at) (spelt_decimal c.args.n c.digits_of-k.ensures) in
    record {
      same = refl;
      long = ap length e ∙ length-sets a.out.now a.at (decimal c.args.n);
      place = ap (λ (k : ℕ). a.at + k) (c.digits_of-k.ensures ∙ sym (length_decimal c.args.n));
      bytes = e;
    }
