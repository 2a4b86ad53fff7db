-- A session a turn.
use Rattle.std.proofs.Common.{arith, sym, ◌<◌, subst}
use Rattle.clauses.specs.declared.Named.{Named}
use Rattle.clauses.specs.Walking.{is_session, behind_clauses}
use Rattle.clauses.specs.WalkingLaws.{session_further}
use Rattle.clauses.specs.LoopLaws.{some_if, none_if}
use Rattle.passes.specs.TurnLaws.{keeps_on, left_next, left_stop}
use Rattle.passes.proofs.pass_all.Goals as goal

pub loop-s-smaller : goal.loop-s-smaller
loop-s-smaller c =
    let bs = c.args.policy.now in
    let found = some_if (is_session bs c.loop-s.at) c.in-Some.ensures in
    let on : c.loop-s.at < behind_clauses bs c.in-Some.s.first = subst (λ (s : Named). c.loop-s.at < behind_clauses bs s.first) (sym found.1) (session_further bs c.loop-s.at) in
    omega (arith, on, c.behind_clauses-at.ensures.0, c.behind_clauses-at.ensures.1)

pub loop-s-preserved : goal.loop-s-preserved
loop-s-preserved c =
    let found = some_if (is_session c.args.policy.now c.loop-s.at) c.in-Some.ensures in
    record {
      left = left_next c.loop-s.invariant.left found.0 found.1 c.behind_clauses-at.ensures c.pass_session.ensures.rewritten;
      kept = keeps_on c.loop-s.invariant.kept c.pass_session.ensures.kept;
    }

pub returns-clause-rewritten : goal.returns-clause-rewritten
returns-clause-rewritten c = left_stop c.loop-s.invariant.left (none_if (is_session c.args.policy.now c.loop-s.at) _ c.in_default.ensures)
