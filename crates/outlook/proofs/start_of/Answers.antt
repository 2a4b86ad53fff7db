use Rattle.std.proofs.Common.{◌<◌, sym, arith, get_or-take, length-take}
use Rattle.model.proofs.RowLaws.{start_first, start_next, start_within}
use Rattle.outlook.proofs.start_of.Goals as goal

pub loop-many-init : goal.loop-many-init
loop-many-init c = sym (start_first c.args.routes.now)

pub overflow_add-sum : goal.overflow_add-sum
overflow_add-sum c =
    let i = c.loop-many.many-index in
    let l : i < c.args.prefix = omega (arith, length-take c.args.prefix c.args.routes.now) in
    omega (arith, get_or-take c.args.prefix c.args.routes.now i 0 l, start_within c.args.routes.now i c.args.prefix l)

pub loop-many-preserved : goal.loop-many-preserved
loop-many-preserved c =
    let i = c.loop-many.many-index in
    let l : i < c.args.prefix = omega (arith, length-take c.args.prefix c.args.routes.now) in
    omega (arith, get_or-take c.args.prefix c.args.routes.now i 0 l, start_next c.args.routes.now i)
