use Rattle.std.proofs.Common.{◌<◌, refl, arith, length}
use Rattle.model.proofs.ListLaws.{squeeze_off, squeeze_on, squeeze_here, pack_end}
use Rattle.rows.proofs.KeepLaws.{ahead_is, ahead_off, ahead_on}
use Rattle.rows.proofs.keep.Goals as goal
use Rattle.rows.proofs.keep.Goals.{then-test, else-test}

pub test-requires : goal.test-requires
test-requires g c =
    let same = ahead_is c.loop-i.invariant.0 in
    let l : c.loop-i.i < length c.args.rows.now = omega arith in
    rw same (c.requires.each c.loop-i.i l)

pub loop-i-preserved : goal.loop-i-preserved
loop-i-preserved g c =
    let s = c.loop-i.invariant in
    let same = ahead_is s.0 in
    let l : c.loop-i.i < length c.args.rows.now = omega arith in
    elim c.if-test.branch [
      | then-test w ↦ (rw (w.rows-is, w.n-is) (ahead_on s.0 _, λ t h. let p = s.1 t h in squeeze_on p l (rw (squeeze_here p) (h.each c.loop-i.i l _ (rw same at c.test.ensures))) w.if-test.true refl))
      | else-test w ↦ (rw (w.rows-is, w.n-is) (ahead_off s.0, λ t h. let p = s.1 t h in squeeze_off p l (rw (squeeze_here p) (h.each c.loop-i.i l _ (rw same at c.test.ensures))) w.if-test.false))
    ]

pub returns : goal.returns
returns g c = λ t h. pack_end (c.loop-i.invariant.1 t h) (omega arith)
