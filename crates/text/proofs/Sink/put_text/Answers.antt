use Rattle.std.proofs.Common.{ℕ, ◌+◌, ◌-◌, ◌≡◌, ◌≤◌, List, length, refl, arith, sym, ap, ◌∙◌, subst₂, drop-drop, append_assoc}
use Rattle.std.proofs.lemmas.List.Edits.{sets, sets-eq}
use Rattle.std.proofs.Math.Seq.{length-sets}
use borrow.Rule.Slice.PartMut.{put_mid}
use Rattle.text.proofs.Sink.put_text.Goals as goal

-- what is written to a part stands in the whole
part_set : (d text : List ℕ) (at : ℕ) → at + length text ≤ length d → put_mid at (length text) d text ≡ sets d at text
part_set d text at fits = rw (drop-drop, sets-eq text d at fits, append_assoc)

pub returns : goal.returns
returns c =
    let a = c.args.self.now in
    let text = c.args.text.now in
    let many : length text ≡ a.at + length text - a.at = omega arith in
    let e = subst₂ (λ (k : ℕ) (vs : List ℕ). put_mid a.at k a.out.now vs ≡ sets a.out.now a.at text) many (sym c.copy_from_slice.ensures.after) (part_set a.out.now text a.at c.requires) in
    record { same = refl; long = ap length e ∙ length-sets a.out.now a.at text; place = refl; bytes = e }
