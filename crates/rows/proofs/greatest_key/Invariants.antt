use Rattle.std.proofs.Common.{ℕ}
use Rattle.model.proofs.ListLaws.{Higher}
use Rattle.rows.specs.Lent.{Gives}
use Rattle.rows.proofs.greatest_key.Given as goal

-- `high` is the greatest key of the rows so far
abbrev pub invariant-loop-q : goal.invariant-loop-q
invariant-loop-q g l = (k : ℕ → ℕ) → Gives (λ q v. goal.F-post g l.fn.key q v) k l.rows → Higher k l.rows l.q-index l.high
