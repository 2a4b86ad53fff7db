use Rattle.std.proofs.Common.{◌≡◌, ◌<◌, ◌≤◌, rules, arith, length, below_more}
use Rattle.model.specs.Rows.{column}
use Rattle.model.proofs.ListLaws.{lower_end}
use Rattle.model.specs.Columns.{past_keys}
use Rattle.rows.proofs.KeepLaws.{lower_min}
use Rattle.rows.proofs.least_key.Goals as goal

pub loop-q-preserved : goal.loop-q-preserved
loop-q-preserved g c = λ k h.
    let s = c.loop-q.invariant k h in
    let l : c.loop-q.q-index < length c.args.rows.now = omega arith in
    let e : c.key.result ≡ k (column c.args.rows.now c.loop-q.q-index) = h.each _ l _ c.key.ensures in
    (lower_min l e s.0 (search rules), below_more (λ j. k (column c.args.rows.now j) ≤ past_keys) _ s.1 (omega arith))

pub returns : goal.returns
returns g c = λ k h. let s = c.loop-q.invariant k h in (lower_end s.0 (omega arith), record { each = λ i l. s.1 i (omega arith) })
