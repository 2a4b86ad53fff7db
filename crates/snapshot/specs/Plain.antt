-- The code's route as a route of the definitions.
use Rattle.model.specs.Decision.{Route}
use Rattle.snapshot.specs.declared.Route as code

-- the route that a value of the code's struct stands for
abbrev pub route_is : code.Route → Route
route_is r = record {
  router = r.router;
  asn = r.asn;
  preference = r.preference;
  path = r.path;
  origin = r.origin;
  mark = r.mark;
  med = r.med;
  nid = r.nid;
  peer = r.peer;
}
