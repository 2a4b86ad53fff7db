use Rattle.std.proofs.Common.{◌≡◌, ◌<◌, rules, arith, length}
use Rattle.model.specs.Rows.{column}
use Rattle.model.proofs.ListLaws.{higher_end}
use Rattle.rows.proofs.KeepLaws.{higher_max}
use Rattle.rows.proofs.greatest_key.Goals as goal

pub loop-q-preserved : goal.loop-q-preserved
loop-q-preserved g c = λ k h.
    let l : c.loop-q.q-index < length c.args.rows.now = omega arith in
    let e : c.key.result ≡ k (column c.args.rows.now c.loop-q.q-index) = h.each _ l _ c.key.ensures in
    higher_max l e (c.loop-q.invariant k h) (search rules)

pub returns : goal.returns
returns g c = λ k h. higher_end (c.loop-q.invariant k h) (omega arith)
