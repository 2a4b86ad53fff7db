use Rattle.std.proofs.Common.{length}
use Rattle.model.specs.Columns.{choice_of}
use Rattle.model.proofs.LoopLaws.{Stored}
use Rattle.rows.specs.Lent.{columns_in}
use Rattle.hold.proofs.hold.Given as goal

-- what the routers before r choose is stored
abbrev pub invariant-loop-r : goal.invariant-loop-r
invariant-loop-r l =
    Stored 0 (choice_of (length l.own) l.mesh.ids.now l.mesh.distances.now (columns_in l.mesh.routes) l.own) (length l.own) l.fn.held l.r l.held
