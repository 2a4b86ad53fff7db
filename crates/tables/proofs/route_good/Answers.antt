-- Its ranges and the route before it decide. Its fields are numbers of four bytes. Assumes nothing.
use Rattle.std.proofs.Common.{subst, arith}
use Rattle.snapshot.specs.Lent.{columns_of}
use Rattle.snapshot.specs.Plain.{route_is}
use Rattle.tables.specs.JudgeLaws.{Words, route_decides}
use Rattle.tables.proofs.route_good.Goals as goal

pub returns : goal.returns
returns c =
    let words : Words (route_is c.route_at-route.result) = record { preference = omega arith; med = omega arith; nid = omega arith; peer = omega arith } in
    route_decides c.args.routers (columns_of c.args.rows.now) c.args.at c.args.k _ c.route_at-route.ensures c.route_bad.ensures c.late_at.ensures (omega arith)
    (subst Words c.route_at-route.ensures words)
