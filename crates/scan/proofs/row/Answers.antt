-- Each turn and each way out is a law of `Row`.
use Rattle.std.proofs.lemmas.Result.{err_from_is_err_and}
use Rattle.scan.specs.ScanLaws.{row_stop, row_next}
use Rattle.scan.proofs.row.Goals as goal

pub returns-in_err-next : goal.returns-in_err-next
returns-in_err-next c =
    let p = err_from_is_err_and c.from_residual.result c.from_residual.ensures.1 in
    rw (p.1, p.2) (row_stop c.loop-to.invariant c.loop-to-test.true c.if-from-to.false c.in_err-next.ensures)

pub loop-to-preserved : goal.loop-to-preserved
loop-to-preserved c = row_next c.loop-to.invariant c.loop-to-test.true c.if-from-to.false c.in_ok-next.ensures
