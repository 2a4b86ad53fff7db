-- The router's own distance and those to all routers decide. Assumes nothing.
use Rattle.std.proofs.Common.{◌∙◌, ◌*◌, refl, sym, ap, arith, ltb, ◌+◌, ◌-◌, ◌≡◌, take, drop}
use Rattle.model.specs.Rows.{some}
use Rattle.snapshot.specs.Limits.{farthest, stride}
use Rattle.tables.specs.ListsLaws.{table_part}
use Rattle.tables.specs.JudgeLaws.{row_decides}
use Rattle.tables.proofs.row_good.Goals as goal

pub returns : goal.returns
returns c =
    let ds = c.args.distances.now in
    let first = c.args.from * stride in
    let n = c.args.n in
    let many : first + n - first ≡ n = omega arith in
    row_decides {ds = ds} c.requires.0 refl
    (c.far.ensures ∙ ap (some (ltb farthest)) (ap (λ k. take k (drop first ds)) many ∙ sym (table_part ds first n (omega arith))))
