-- Each turn puts the next prefix with its routes. Assumes nothing.
use Rattle.std.proofs.Common.{◌<◌, length-take, sym, arith, get_or-take}
use Rattle.model.proofs.RowLaws.{start_first, start_next, start_within}
use Rattle.snapshot.specs.Lent.{tables_of}
use Rattle.writer.specs.SectionsLaws.{section, section_room, section_next, prefixes_first, prefixes_next}
use Rattle.writer.proofs.put_prefixes.Goals as goal

pub loop-p-init : goal.loop-p-init
loop-p-init c = (section (prefixes_first (tables_of c.args.tables.now) c.args.n) c.requires.3, sym (start_first c.args.tables.now.routes.now))

pub put_prefix-at-requires : goal.put_prefix-at-requires
put_prefix-at-requires c =
    let routes = c.args.tables.now.routes.now in
    let below : c.loop-p.p < c.args.n = omega (arith, length-take c.args.n routes) in (
      omega arith,
      omega (arith, start_within routes c.loop-p.p c.args.n below),
      c.requires.2,
      section_room c.loop-p.invariant.0 (prefixes_next (tables_of c.args.tables.now) c.args.n c.loop-p.p c.loop-p.row below c.loop-p.invariant.1),
    )

pub overflow_add-row : goal.overflow_add-row
overflow_add-row c =
    let routes = c.args.tables.now.routes.now in
    let below : c.loop-p.p < c.args.n = omega (arith, length-take c.args.n routes) in
    omega (arith, start_within routes c.loop-p.p c.args.n below, get_or-take c.args.n routes c.loop-p.p 0 below)

pub loop-p-preserved : goal.loop-p-preserved
loop-p-preserved c =
    let routes = c.args.tables.now.routes.now in
    let below : c.loop-p.p < c.args.n = omega (arith, length-take c.args.n routes) in (
      section_next c.loop-p.invariant.0 (prefixes_next (tables_of c.args.tables.now) c.args.n c.loop-p.p c.loop-p.row below c.loop-p.invariant.1) c.put_prefix-at.ensures.same c.put_prefix-at.ensures.place,
      omega (arith, start_next routes c.loop-p.p, get_or-take c.args.n routes c.loop-p.p 0 below),
    )
