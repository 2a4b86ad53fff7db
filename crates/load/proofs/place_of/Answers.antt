-- Each turn and each way out is a law of `Sought`.
use Rattle.load.specs.SkipLaws.{sought_stop, sought_end, sought_next}
use Rattle.load.proofs.place_of.Goals as goal

pub returns-then-input-at : goal.returns-then-input-at
returns-then-input-at c = sought_stop c.loop.invariant c.loop-test.true c.if-input-at.true

pub loop-preserved : goal.loop-preserved
loop-preserved c = sought_next c.loop.invariant c.loop-test.true c.if-input-at.false c.behind_routes-at.ensures

pub returns : goal.returns
returns c = sought_end c.loop.invariant c.loop-test.false
