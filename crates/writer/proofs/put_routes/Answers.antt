-- Each turn puts the next route. Assumes nothing.
use Rattle.snapshot.specs.Lent.{columns_of}
use Rattle.writer.specs.SectionsLaws.{section_next, routes_next}
use Rattle.writer.proofs.put_routes.Goals as goal

pub loop-k-preserved : goal.loop-k-preserved
loop-k-preserved c =
    section_next c.loop-k.invariant (routes_next (columns_of c.args.rows.now) c.args.row c.args.count c.loop-k.k c.loop-k-test.true) c.put_route-at.ensures.same c.put_route-at.ensures.place
