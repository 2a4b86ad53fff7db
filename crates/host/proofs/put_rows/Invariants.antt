use Rattle.std.proofs.Common.{length}
use Rattle.text.specs.TextLaws.{Lined}
use Rattle.host.specs.Host.{router_bytes}
use Rattle.host.proofs.put_rows.Given as goal

-- the rows of the routers that were given are put
abbrev pub invariant-loop-first : goal.invariant-loop-first
invariant-loop-first l = Lined (router_bytes l.early l.late) 4 l.initial.sink (length l.early) (length l.yielded) l.sink
