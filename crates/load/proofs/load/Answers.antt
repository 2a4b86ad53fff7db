-- Each part is loaded from its place.
use Rattle.std.proofs.Common.{arith, rules}
use Rattle.load.specs.Load.{unmarked}
use Rattle.load.specs.LoadLaws.{loaded, loaded_as, wide_marked, asked_spans, asked_inside}
use Rattle.load.proofs.load.Goals as goal

pub place_of-routes-requires : goal.place_of-routes-requires
place_of-routes-requires c = omega (arith, c.behind_distances.ensures, (asked_spans c.requires.0).long)

pub overflow_add-routes : goal.overflow_add-routes
overflow_add-routes c = record { fits = omega (arith, asked_inside c.requires.0 c.behind_distances.ensures c.place_of-routes.ensures) }

pub fill_ids-requires : goal.fill_ids-requires
fill_ids-requires c = (asked_spans c.requires.0, c.requires.1.ids_long)

pub fill_distances-requires : goal.fill_distances-requires
fill_distances-requires c = (asked_spans c.requires.0, c.requires.1.distances_long)

pub fill_routes-requires : goal.fill_routes-requires
fill_routes-requires c = (asked_inside c.requires.0 c.behind_distances.ensures c.place_of-routes.ensures, omega arith, wide_marked _ c.requires.1.rows (omega arith))

pub returns-clause-loaded : goal.returns-clause-loaded
returns-clause-loaded c =
    let rows = c.fill_routes.new.rows in
    loaded_as (unmarked rows.router.now rows.asn.now rows.preference.now rows.path.now rows.origin.now rows.med.now rows.nid.now rows.peer.now)
    (loaded c.args.input.now c.args.n c.args.prefix _ _ c.behind_distances.ensures c.place_of-routes.ensures c.fill_ids.ensures c.fill_distances.ensures c.fill_routes.ensures.filled.0 c.fill_routes.ensures.filled.2)
    (search rules)
