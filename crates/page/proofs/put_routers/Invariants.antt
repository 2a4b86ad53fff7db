use Rattle.std.proofs.Common.{length, get_or}
use Rattle.model.specs.Rows.{column}
use Rattle.model.specs.Decision.{none}
use Rattle.lines.specs.Lines.{widest, router_line}
use Rattle.text.specs.TextLaws.{Lined}
use Rattle.page.proofs.put_routers.Given as goal

-- the lines of the routers that were given are put
abbrev pub invariant-loop-r : goal.invariant-loop-r
invariant-loop-r l =
    (goal.iterator-loop-r).can_next l.r-iterator × (goal.iterator-loop-r).is_finite l.r-iterator
    × Lined (λ r. router_line l.unsettled (column l.router) r (get_or l.early r none) (get_or l.late r none)) widest l.fn.sink (length l.early) (length l.yielded) l.sink
