-- Where a round changes nothing, no later one does.
use Rattle.std.proofs.Common.{arith, ◌∙◌}
use Rattle.model.proofs.RoundLaws.{rounds_next, rounds_still, rounds_end}
use Rattle.settle.proofs.Contest.settle.Goals as goal

pub returns-then-not-round : goal.returns-then-not-round
returns-then-not-round c = rounds_still c.loop.invariant.1 (omega arith) c.round.ensures.places (c.round.ensures.unmoved c.if-not-round.true)

pub loop-preserved : goal.loop-preserved
loop-preserved c = (c.round.auto.state ∙ c.loop.invariant.0, rounds_next c.loop.invariant.1 (omega arith) c.round.ensures.places)

pub returns : goal.returns
returns c = rounds_end c.loop.invariant.1 (omega arith)
