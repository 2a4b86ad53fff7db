-- So much was read; each record brings the cursor on in the input.
use Rattle.std.proofs.Common.{◌-◌, length}
use Rattle.scan.specs.Scan.{Items}
use Rattle.scan.proofs.items.Given as goal

abbrev pub invariant-loop-next : goal.invariant-loop-next
invariant-loop-next l = Items l.input l.c l.k

abbrev pub decreases-loop-next : goal.decreases-loop-next
decreases-loop-next l = length l.input - l.c.at
