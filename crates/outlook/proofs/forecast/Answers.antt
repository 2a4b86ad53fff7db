-- Each way out is a law of OutlookLaws.antt.
use Rattle.std.proofs.Common.{◌≡◌, refl, sym, ap, subst, Result, Err, rules, arith}
use Rattle.tables.specs.Judging.{numbered}
use Rattle.snapshot.specs.declared.Counts.{Counts}
use Rattle.snapshot.specs.Lent.{tables_of}
use Rattle.tables.specs.Theorems.{Placed, placed_ok, verdict_good}
use Rattle.decide.specs.declared.Differing.{Differing}
use Rattle.refusal.specs.declared.Refused.{Refused}
use Rattle.outlook.specs.Outlook.{said, Forecasts, room, no_prefix}
use Rattle.outlook.specs.OutlookLaws.{area_short, refused_by, none_short, roomy, early_room, late_room, inside, fits_in, part_of, shown_same, shown_given}
use Rattle.outlook.proofs.forecast.Goals as goal

pub returns-then-early-most : goal.returns-then-early-most
returns-then-early-most c = room (area_short (tables_of c.args.tables.now) c.args.early.now c.args.late.now c.if-early-most.true)

pub returns-in_err-map_err : goal.returns-in_err-map_err
returns-in_err-map_err c =
    let t = tables_of c.args.tables.now in
    let early = c.args.early.now in
    let late = c.args.late.now in
    let placed : Placed c.examine.result c.map_err.result = search rules in
    let same : c.from_residual.result ≡ Err c.in_err-map_err.field-0.0 = search rules in
    subst (λ (w : Result Differing Refused). Forecasts c.args.counts t c.args.prefix early late (said w) early late) (sym same)
    (refused_by c.args.counts t c.args.prefix early late placed c.in_err-map_err.was c.if-early-most.false c.examine.ensures)

pub returns-then-counts-prefix : goal.returns-then-counts-prefix
returns-then-counts-prefix c =
    let t = tables_of c.args.tables.now in
    let placed : Placed c.examine.result c.map_err.result = search rules in
    let v = verdict_good c.examine.ensures (ap numbered (placed_ok placed c.in_ok-map_err.was)) in
    let enough = none_short t c.args.early.now c.args.late.now c.if-early-most.false v.0 in
    no_prefix enough v.1.snapshot v.1.valid v.1.held (omega (arith, ap (λ (n : Counts). n.prefixes) v.1.held.0))

pub start_of-first-requires : goal.start_of-first-requires
start_of-first-requires c =
    let t = tables_of c.args.tables.now in
    let placed : Placed c.examine.result c.map_err.result = search rules in
    let v = verdict_good c.examine.ensures (ap numbered (placed_ok placed c.in_ok-map_err.was)) in
    let free = roomy t c.args.early.now c.args.late.now (none_short t c.args.early.now c.args.late.now c.if-early-most.false v.0) in
    (omega (arith, inside c.args.counts t c.args.prefix free v.1 c.if-counts-prefix.false), omega (arith, fits_in c.args.counts t c.args.prefix free v.1 c.if-counts-prefix.false))

pub overflow_add-end : goal.overflow_add-end
overflow_add-end c =
    let t = tables_of c.args.tables.now in
    let placed : Placed c.examine.result c.map_err.result = search rules in
    let v = verdict_good c.examine.ensures (ap numbered (placed_ok placed c.in_ok-map_err.was)) in
    let free = roomy t c.args.early.now c.args.late.now (none_short t c.args.early.now c.args.late.now c.if-early-most.false v.0) in
    record { fits = omega (arith, c.start_of-first.ensures, fits_in c.args.counts t c.args.prefix free v.1 c.if-counts-prefix.false) }

pub shown-requires : goal.shown-requires
shown-requires c =
    let t = tables_of c.args.tables.now in
    let early = c.args.early.now in
    let late = c.args.late.now in
    let placed : Placed c.examine.result c.map_err.result = search rules in
    let v = verdict_good c.examine.ensures (ap numbered (placed_ok placed c.in_ok-map_err.was)) in
    let enough = none_short t early late c.if-early-most.false v.0 in
    let free = roomy t early late enough in
    let part = part_of c.args.counts t c.args.prefix free v.1 c.if-counts-prefix.false c.start_of-first.ensures refl early late (early_room t early late enough) (late_room t early late enough) in
    rw (c.mesh_of-mesh.ensures.ids, c.mesh_of-mesh.ensures.distances, c.mesh_of-mesh.ensures.routes) part

pub returns : goal.returns
returns c =
    let t = tables_of c.args.tables.now in
    let early = c.args.early.now in
    let late = c.args.late.now in
    let placed : Placed c.examine.result c.map_err.result = search rules in
    let v = verdict_good c.examine.ensures (ap numbered (placed_ok placed c.in_ok-map_err.was)) in
    let enough = none_short t early late c.if-early-most.false v.0 in
    let free = roomy t early late enough in
    let m = c.mesh_of-mesh.ensures in
    shown_given c.args.counts t c.args.prefix free v.1 c.if-counts-prefix.false c.start_of-first.ensures refl early late enough (shown_same c.args.counts.routers _ _ m.ids m.distances m.routes c.shown.ensures)
