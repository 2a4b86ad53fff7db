use Rattle.std.proofs.Common.{◌≡◌, ◌<◌, ap, true, false, not, eq-eqb, length, arith}
use Rattle.std.proofs.lemmas.Bool.{ne_eqb}
use Rattle.model.specs.Decision.{none}
use Rattle.model.proofs.ColumnLaws.{get_or_inside}
use Rattle.word.specs.Word.{differs}
use Rattle.word.specs.WordLaws.{marked_on, marked_off}
use Rattle.word.proofs.differing.Goals as goal
use Rattle.word.proofs.differing.Goals.{then-row-late, else-row-late}

pub loop-r-preserved : goal.loop-r-preserved
loop-r-preserved c =
    let a = c.args in
    let r = c.loop-r.r in
    let l : r < length a.early.now = omega arith in
    let m : r < length a.late.now = omega arith in
    let e = get_or_inside a.early.now r none 0 l in
    let f = get_or_inside a.late.now r none 0 m in
    elim c.if-row-late.branch [
      | then-row-late w ↦ (let t : differs a.early.now a.late.now r ≡ true = rw (e, f) (ap not (ne_eqb _ _ w.if-row-late.true)) in marked_on c.loop-r.invariant (omega (arith, c.requires.0)) t w.bits-is)
      | else-row-late w ↦ (let t : differs a.early.now a.late.now r ≡ false = rw (e, f) (ap not (eq-eqb _ _ w.if-row-late.false)) in rw w.bits-is (marked_off c.loop-r.invariant t))
    ]
