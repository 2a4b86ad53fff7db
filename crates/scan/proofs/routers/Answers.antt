-- Each turn and each way out is a law of `Routers`.
use Rattle.std.proofs.lemmas.Result.{err_from_is_err_and}
use Rattle.scan.specs.ScanLaws.{routers_stop, routers_next, routers_end}
use Rattle.scan.proofs.routers.Goals as goal

pub returns-in_err-next : goal.returns-in_err-next
returns-in_err-next c =
    let p = err_from_is_err_and c.from_residual.result c.from_residual.ensures.1 in
    rw (p.1, p.2) (routers_stop c.loop-given.invariant c.loop-given-test.true c.in_err-next.ensures)

pub loop-given-preserved : goal.loop-given-preserved
loop-given-preserved c = routers_next c.loop-given.invariant c.loop-given-test.true c.in_ok-next.ensures

pub returns : goal.returns
returns c = routers_end c.loop-given.invariant c.loop-given-test.false
