use Rattle.std.proofs.lemmas.Bool.Decides.{Decides-eqb}
use Rattle.std.proofs.lemmas.Slice.Eq.{slice_eq-Decides}
use Rattle.cases.specs.CasesLaws.{compared, not_written}
use Rattle.cases.proofs.written_as.Goals as goal

pub returns-in-Ok : goal.returns-in-Ok
returns-in-Ok c = compared c.in-Ok.is c.write_snapshot.ensures (slice_eq-Decides Decides-eqb _ _ _ c.eq.ensures)

pub returns-in-Err : goal.returns-in-Err
returns-in-Err c = not_written c.in-Err.is c.requires c.write_snapshot.ensures
