use Rattle.std.proofs.Common.{T, subst}
use Rattle.std.proofs.Math.Pow.{are_bytes}
use Rattle.std.proofs.lemmas.Result.{err_from_is_err_and}
use Rattle.wire.specs.NumbersLaws.{slice_bytes}
use Rattle.snapshot.specs.Tables.{Tables}
use Rattle.snapshot.specs.Lent.{lent_tables}
use Rattle.tables.specs.Judging.{Decides}
use Rattle.roundtrip.specs.Trips.{Written}
use Rattle.cases.specs.CasesLaws.{found_refused, found_same}
use Rattle.cases.proofs.examined.Goals as goal

pub returns-in_err-counts-clause-finds : goal.returns-in_err-counts-clause-finds
returns-in_err-counts-clause-finds c =
    let out = err_from_is_err_and c.from_residual.result c.from_residual.ensures.1 in
    rw (out.1, out.2) (found_refused c.args.input.now (lent_tables c.args.tables.now) c.in_err-counts.was c.read_snapshot.ensures.read.0)

pub returns-clause-finds : goal.returns-clause-finds
returns-clause-finds c =
    let bytes : T (are_bytes c.args.input.now) = slice_bytes c.args.input.now (λ k. (c.type_inv.input k).fits) in
    found_same c.args.input.now (lent_tables c.args.tables.now) bytes c.in_ok-counts.was c.read_snapshot.ensures.read
    (subst (λ (t : Tables). Decides (Written c.args.input.now c.in_ok-counts.counts t) c.written_as-same.result) c.view.ensures c.written_as-same.ensures)
