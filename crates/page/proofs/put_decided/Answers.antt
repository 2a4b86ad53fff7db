use Rattle.std.proofs.Common.{◌-◌, refl}
use Rattle.model.specs.Columns.{lent_mesh}
use Rattle.model.specs.Decision.{Mesh}
use Rattle.rows.specs.Lent.{columns_in, cut}
use Rattle.text.specs.TextLaws.{puts_as}
use Rattle.page.specs.PageLaws.{early_rows, late_rows, block_is}
use Rattle.page.proofs.put_decided.Goals as goal

pub put_block-requires-clause-rows : goal.put_block-requires-clause-rows
put_block-requires-clause-rows c =
    let a = c.args in
    let m = a.mesh.now in
    let M : Mesh = lent_mesh a.routers m.ids.now m.distances.now (cut a.first (a.end - a.first) (columns_in m.routes)) in
    let part = c.requires.1 in
    let s = c.shown-d.ensures in
    (early_rows M s part.earlies part.lates _ refl, late_rows M s part.earlies part.lates _ refl)

pub returns : goal.returns
returns c =
    let a = c.args in
    let m = a.mesh.now in
    let M : Mesh = lent_mesh a.routers m.ids.now m.distances.now (cut a.first (a.end - a.first) (columns_in m.routes)) in
    let part = c.requires.1 in
    let p = c.put_block.ensures in
    record { puts = puts_as p.puts (block_is M c.shown-d.ensures part.earlies part.lates a.address a.bits); short = p.short }
