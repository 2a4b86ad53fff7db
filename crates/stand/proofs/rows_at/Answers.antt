use Rattle.std.proofs.Common.{arith, rules, ℕ, List, ◌≡◌, ◌<◌, length, get_or, ap, ◌∙◌}
use Rattle.model.specs.Rows.{column}
use Rattle.model.specs.Decision.{none}
use Rattle.model.proofs.LoopLaws.{stored, stored_next, stored_end}
use Rattle.model.proofs.RoundLaws.{left, left_next, left_room, left_own}
use Rattle.stand.proofs.rows_at.Goals as goal

pub loop-r-init : goal.loop-r-init
loop-r-init c = (left c.requires.whole, stored c.requires.lengths.1)

pub split_at-requires : goal.split_at-requires
split_at-requires c = left_room c.loop-r.invariant.0 (omega arith)

pub loop-r-preserved : goal.loop-r-preserved
loop-r-preserved c =
    let a = c.loop-r in
    let l : a.r < length c.args.ends.now = omega arith in
    let found : c.unwrap_or.result ≡ get_or c.split_at.result.0.now (column c.args.state.now a.r) none = search rules in
    (left_next a.invariant.0 l c.split_at.ensures.back, stored_next a.invariant.1 l (found ∙ ap (λ (rows : List ℕ). get_or rows (column c.args.state.now a.r) none) (c.split_at.ensures.front ∙ left_own a.invariant.0)))

pub returns : goal.returns
returns c = stored_end c.loop-r.invariant.1 (omega arith)
