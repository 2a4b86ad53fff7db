-- Each prefix goes on from the end of the routes before it. Assumes nothing.
use Rattle.std.proofs.Common.{refl}
use Rattle.tables.specs.JudgeLaws.{counting, counting_next, counting_over}
use Rattle.tables.proofs.prefixes_good.Goals as goal

pub loop-p-init : goal.loop-p-init
loop-p-init c = counting

pub returns-then-counts-next : goal.returns-then-counts-next
returns-then-counts-next c = counting_over c.loop-p.invariant c.loop-p-test.true c.if-counts-next.true

pub loop-p-preserved : goal.loop-p-preserved
loop-p-preserved c =
    counting_next c.loop-p.invariant c.loop-p-test.true refl c.if-counts-next.false (c.prefix_good.ensures.yes c.if-not-prefix_good.false)
