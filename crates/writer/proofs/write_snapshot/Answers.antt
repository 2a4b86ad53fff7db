-- What examining refuses is refused, at place 0. Assumes nothing.
use Rattle.std.proofs.Common.{◌≡◌, Result, Err, ℕ, sym, ap, subst, rules}
use Rattle.refusal.specs.declared.Refused.{Refused}
use Rattle.snapshot.specs.Lent.{tables_of}
use Rattle.tables.specs.Judging.{numbered}
use Rattle.tables.specs.Theorems.{Placed, placed_ok, verdict_good}
use Rattle.writer.specs.Writing.{said, Writes}
use Rattle.writer.specs.WritingLaws.{writes_no}
use Rattle.writer.proofs.write_snapshot.Goals as goal

pub returns-in_err-map_err : goal.returns-in_err-map_err
returns-in_err-map_err c =
    let t = tables_of c.args.tables.now in
    let placed : Placed c.examine.result c.map_err.result = search rules in
    let same : c.from_residual.result ≡ Err c.in_err-map_err.field-0.0 = search rules in
    subst (λ (w : Result ℕ Refused). Writes c.args.counts t c.args.out.now (said w) c.args.out.now) (sym same) (writes_no c.args.counts t c.args.out.now placed c.in_err-map_err.was c.examine.ensures)

pub write_held-requires : goal.write_held-requires
write_held-requires c =
    let placed : Placed c.examine.result c.map_err.result = search rules in
    verdict_good c.examine.ensures (ap numbered (placed_ok placed c.in_ok-map_err.was))
