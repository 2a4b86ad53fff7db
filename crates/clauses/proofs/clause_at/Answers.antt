-- By the kind.
use Rattle.std.proofs.Common.{arith}
use Rattle.clauses.specs.WalkingLaws.{exact_room, exact_taken, direct_taken, any_taken}
use Rattle.clauses.proofs.clause_at.Goals as goal
use Rattle.clauses.proofs.clause_at.Goals.{in-2, in-3, in_default}

pub get8-requires : goal.get8-requires
get8-requires c = omega (arith, exact_room c.args.policy.now c.args.at c.requires.0 c.in-2.is)

pub returns : goal.returns
returns c =
    let bs = c.args.policy.now in
    let at = c.args.at in
    elim c.match-policy-at.branch [
      | in-2 w ↦ exact_taken bs at c.requires.1 c.get32-2.ensures w.in-2.is w.scope-is w.get32.ensures w.get8.ensures
      | in-3 w ↦ direct_taken bs at c.requires.1 c.get32-2.ensures w.in-3.is w.scope-is w.get32-in-3.ensures
      | in_default w ↦ any_taken bs at c.requires.1 c.get32-2.ensures (omega arith) (omega arith) w.scope-is
    ]
