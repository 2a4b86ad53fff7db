-- A clause a turn.
use Rattle.std.proofs.Common.{arith}
use Rattle.clauses.specs.Walking.{is_clause}
use Rattle.clauses.specs.LoopLaws.{some_if, none_if, skipped, skipped_end, skipped_next}
use Rattle.clauses.specs.WalkingLaws.{clause_room}
use Rattle.clauses.proofs.behind_clauses.Goals as goal

pub loop-size-init : goal.loop-size-init
loop-size-init c = skipped c.requires

pub clause_size-requires : goal.clause_size-requires
clause_size-requires c = c.loop-size.invariant.inside

pub loop-size-smaller : goal.loop-size-smaller
loop-size-smaller c =
    let k = some_if (is_clause c.args.policy.now c.loop-size.at) c.in-Some.ensures in
    omega (arith, clause_room c.args.policy.now c.loop-size.at k.0 k.1)

pub loop-size-preserved : goal.loop-size-preserved
loop-size-preserved c =
    let k = some_if (is_clause c.args.policy.now c.loop-size.at) c.in-Some.ensures in
    skipped_next c.loop-size.invariant k.0 k.1

pub returns : goal.returns
returns c = skipped_end c.loop-size.invariant (none_if (is_clause c.args.policy.now c.loop-size.at) _ c.in_default.ensures)
