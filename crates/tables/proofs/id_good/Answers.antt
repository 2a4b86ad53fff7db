-- Its range and the ids before it decide. Assumes nothing.
use Rattle.std.proofs.Common.{◌∙◌, sym, ap, arith, eqb}
use Rattle.model.specs.Rows.{some, column}
use Rattle.tables.specs.ListsLaws.{table_take}
use Rattle.tables.specs.JudgeLaws.{id_decides}
use Rattle.tables.proofs.id_good.Goals as goal

pub returns : goal.returns
returns c =
    let ids = c.args.ids.now in
    let k = c.args.k in
    id_decides _ _ c.id_bad.ensures (c.twin.ensures ∙ ap (some (eqb (column ids k))) (sym (table_take ids k (omega arith)))) (omega (arith, c.type_inv.ids k))
