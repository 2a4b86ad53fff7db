use Rattle.std.proofs.Common.{ℕ, ◌<◌, ◌≤◌}
use Rattle.model.specs.Rows.{column}
use Rattle.model.specs.Columns.{past_keys}
use Rattle.model.proofs.ListLaws.{Lower}
use Rattle.rows.specs.Lent.{Gives}
use Rattle.rows.proofs.least_key.Given as goal

-- `low` is the least key of the rows so far, and none of those is above the greatest number
abbrev pub invariant-loop-q : goal.invariant-loop-q
invariant-loop-q g l =
    (k : ℕ → ℕ) → Gives (λ q v. goal.F-post g l.fn.key q v) k l.rows
    → Lower past_keys k l.rows l.q-index l.low × ((j : ℕ) → j < l.q-index → k (column l.rows j) ≤ past_keys)
