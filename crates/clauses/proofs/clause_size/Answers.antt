-- By the kind.
use Rattle.std.proofs.Common.{◌≡◌, ◌∙◌, Bool, true, false, refl, sym, if◌then◌else◌, Some, None, length, leb, ℕ, ◌+◌}
use Rattle.std.specs.Bool.{then_some}
use Rattle.clauses.specs.WalkingLaws.{sized, size_exact, size_direct, size_any}
use Rattle.clauses.proofs.clause_size.Goals as goal
use Rattle.clauses.proofs.clause_size.Goals.{in-2, in-3, in-4}

then_if : (b : Bool) (n : ℕ) → then_some b n ≡ (if b then Some n else None)
then_if true n = refl
then_if false n = refl

pub returns : goal.returns
returns c =
    let bs = c.args.policy.now in
    let at = c.args.at in
    let b : Bool = leb (at + c.match-kind_at.size) (length bs) in
    c.then_some.ensures ∙ then_if b c.match-kind_at.size
    ∙ elim c.match-kind_at.branch [
      | in-2 w ↦ let k = sym c.kind_at.ensures ∙ w.in-2.is in rw w.size-is (sized bs at k (size_exact bs at k))
      | in-3 w ↦ let k = sym c.kind_at.ensures ∙ w.in-3.is in rw w.size-is (sized bs at k (size_direct bs at k))
      | in-4 w ↦ let k = sym c.kind_at.ensures ∙ w.in-4.is in rw w.size-is (sized bs at k (size_any bs at k))
    ]
