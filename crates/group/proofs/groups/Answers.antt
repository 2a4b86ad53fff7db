-- A group is no later than its place, so it fits.
use Rattle.std.proofs.Common.{arith}
use Rattle.model.specs.Rows.{column}
use Rattle.model.proofs.ListingLaws.{group_le}
use Rattle.model.proofs.LoopLaws.{stored_end}
use Rattle.group.proofs.groups.Goals as goal

pub overflow_cast-first : goal.overflow_cast-first
overflow_cast-first c =
    omega (arith, c.group_of.ensures, group_le (λ p. column c.args.key.now (column c.args.rows.now p)) c.loop-k.k)

pub returns : goal.returns
returns c = stored_end c.loop-k.invariant (omega arith)
