use Rattle.std.proofs.Common.{refl, subst, arith, length, take}
use Rattle.std.proofs.Math.Seq.{length-take-le}
use Rattle.model.specs.Columns.{Columns, lent_mesh}
use Rattle.decide.specs.Decide.{Decided}
use Rattle.outlook.specs.OutlookLaws.{shown_again}
use Rattle.outlook.proofs.shown.Goals as goal

pub returns : goal.returns
returns c =
    let a = c.args in
    let long = length-take-le a.routers a.early.now c.requires.earlies in
    let made = subst (λ (t : Columns). Decided (lent_mesh (length (take a.routers a.early.now)) a.mesh.now.ids.now a.mesh.now.distances.now t) c.decided.result c.decided.new.early c.decided.new.late) c.part.ensures c.decided.ensures in
    shown_again (omega (arith, long)) _ _ _ c.requires.earlies c.requires.lates refl refl made
