use Rattle.std.proofs.Common.{◌≡◌, ℕ, ◌+◌, ◌-◌, ◌≤◌, List, ◌++◌, rules, length, take, sym, ap, ◌∙◌, subst, length-take-le}
use Rattle.std.proofs.Math.Seq.{take-append-add}
use Rattle.std.proofs.lemmas.List.{take-append-le}
use Rattle.std.specs.Io.KnownBytes.{Consumes}
use Rattle.std.proofs.KnownBytes.{Consumes-trans}
use borrow.Rule.Slice.PartMut.{put_mid, post_of}
use Rattle.files.proofs.read_full.Goals as goal

-- what is read into the room behind the first `done` bytes stands behind them
behind : (done room n : ℕ) (xs ys : List ℕ) → done ≤ length xs → n ≤ length ys → take done xs ++ take n ys ≡ take (done + n) (put_mid done room xs ys)
behind done room n xs ys within fits =
    let front = take done xs in
    let rest = ys ++ post_of done room xs in
    sym (
    ap (λ (k : ℕ). take (k + n) (front ++ rest)) (sym (length-take-le done xs within))
    ∙ take-append-add front rest n
    ∙ ap (λ (l : List ℕ). front ++ l) (take-append-le n ys (post_of done room xs) fits))

pub loop-done-preserved : goal.loop-done-preserved
loop-done-preserved g c =
    let done = c.loop-done.done in
    let read = c.in-Ok.ensures in
    let room = length c.loop-done.buf - done in (
      search (rules, read.bound.0),
      subst (Consumes _ _) (behind done room c.in-Ok.n c.loop-done.buf c.read.new.buf c.loop-done.invariant.0 read.bound.0)
          (Consumes-trans _ _ _ _ _ c.loop-done.invariant.1 read.bytes.0),
    )
