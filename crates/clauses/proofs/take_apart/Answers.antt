-- A clause a turn.
use Rattle.std.proofs.Common.{arith, length-take}
use Rattle.std.proofs.lemmas.List.{set-get_or}
use Rattle.policy.specs.Policy.{most_clauses}
use Rattle.clauses.specs.Walking.{is_clause}
use Rattle.clauses.specs.LoopLaws.{some_if, none_if, taken, taken_next, taken_others, taken_stop, taken_full}
use Rattle.clauses.proofs.take_apart.Goals as goal

pub loop-n-init : goal.loop-n-init
loop-n-init c = taken _ c.requires.inside

pub clause_size-requires : goal.clause_size-requires
clause_size-requires c = c.loop-n.invariant.inside

pub returns-in_default-clause-few : goal.returns-in_default-clause-few
returns-in_default-clause-few c = omega (arith, length-take most_clauses c.args.clauses.now)

pub returns-in_default-clause-taken : goal.returns-in_default-clause-taken
returns-in_default-clause-taken c =
    rw set-get_or (taken_stop c.args.clauses.now c.loop-n.invariant c.loop-n.auto.room-items (omega arith) (none_if (is_clause c.args.policy.now c.loop-n.at) _ c.in_default.ensures))

pub returns-in_default-clause-others : goal.returns-in_default-clause-others
returns-in_default-clause-others c = rw set-get_or (taken_others c.args.clauses.now c.loop-n.invariant c.loop-n.auto.room-items (omega arith))

pub clause_at-requires : goal.clause_at-requires
clause_at-requires c = some_if (is_clause c.args.policy.now c.loop-n.at) c.in-Some.ensures

pub loop-n-preserved : goal.loop-n-preserved
loop-n-preserved c =
    taken_next c.loop-n.invariant c.clause_at.result (omega arith) (some_if (is_clause c.args.policy.now c.loop-n.at) c.in-Some.ensures) c.clause_at.ensures

pub returns-clause-taken : goal.returns-clause-taken
returns-clause-taken c = (taken_full c.args.clauses.now c.loop-n.invariant c.loop-n.auto.room-items (omega arith) (omega (arith, c.requires.room, length-take most_clauses c.args.clauses.now))).0

pub returns-clause-others : goal.returns-clause-others
returns-clause-others c = (taken_full c.args.clauses.now c.loop-n.invariant c.loop-n.auto.room-items (omega arith) (omega (arith, c.requires.room, length-take most_clauses c.args.clauses.now))).1
