use Rattle.std.proofs.Common.{◌≡◌}
use Rattle.model.specs.Rows.{start}
use Rattle.passes.specs.Passes.{Owned}
use Rattle.passes.proofs.mark_owners.Given as goal

abbrev pub invariant-loop-p : goal.invariant-loop-p
invariant-loop-p l = record { row : l.row ≡ start l.routes l.p; marked : Owned l.routes l.p l.owner }
