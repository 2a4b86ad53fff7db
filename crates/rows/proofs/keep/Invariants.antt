use Rattle.std.proofs.Common.{ℕ, Bool}
use Rattle.model.proofs.ListLaws.{Pack}
use Rattle.rows.specs.Lent.{Gives}
use Rattle.rows.proofs.KeepLaws.{Ahead}
use Rattle.rows.proofs.keep.Given as goal

-- the rows before place i that pass are packed into the front, n of them
abbrev pub invariant-loop-i : goal.invariant-loop-i
invariant-loop-i g l =
    Ahead l.fn.rows l.i l.n l.rows
    × ((t : ℕ → Bool) → Gives (λ q b. goal.F-post g l.fn.test q b) t l.fn.rows → Pack t l.fn.rows l.fn.rows l.i l.n l.rows)
