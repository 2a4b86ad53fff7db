-- The ids before i are put, and the others are as before.
use Rattle.std.proofs.Common.{take}
use Rattle.model.proofs.LoopLaws.{Stored}
use Rattle.snapshot.specs.Records.{count_form, size}
use Rattle.cursor.specs.Steps.{id_at, router_place}
use Rattle.fill.proofs.fill_ids.Given as goal

abbrev pub invariant-loop-i : goal.invariant-loop-i
invariant-loop-i l = Stored 0 (λ i. id_at l.input (router_place (size count_form) i)) l.n (take l.n l.fn.ids) l.i l.front
