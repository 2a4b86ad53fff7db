-- A prefix as it is lent to code: a list for each route field, with a MED stored as it counts (an absent one as 0), the routers' ids
-- and the table of distances. And the mesh that these make.
use Rattle.std.specs.Prelude.{ℕ, ◌+◌, ◌*◌, ◌≤◌, ◌<◌, ◌≡◌, List, [], length}
use Rattle.model.specs.Rows.{column}
use Rattle.model.specs.Decision.{Mesh, none, choice}
use Rattle.model.specs.Stability.{Sound, available}
use Rattle.model.specs.Contest.{early, late}

-- the most routers; also the stride of the table of distances
abbrev pub most_routers : ℕ
most_routers = 64

-- the most routes of a prefix
abbrev pub most_rows : ℕ
most_rows = 256

-- the greatest 32-bit number: no key of a row is above it
abbrev pub past_keys : ℕ
past_keys = 4294967295

-- the columns of a prefix
pub record Columns : Type 0 where
  pub router : List ℕ
  pub asn : List ℕ
  pub preference : List ℕ
  pub path : List ℕ
  pub origin : List ℕ
  pub med : List ℕ
  pub nid : List ℕ
  pub peer : List ℕ

abbrev pub columns : List ℕ → List ℕ → List ℕ → List ℕ → List ℕ → List ℕ → List ℕ → List ℕ → Columns
columns router asn preference path origin med nid peer = record {
  router = router;
  asn = asn;
  preference = preference;
  path = path;
  origin = origin;
  med = med;
  nid = nid;
  peer = peer;
}

-- the distance from one router to another, in the table
abbrev pub distance_in : List ℕ → ℕ → ℕ → ℕ
distance_in distances from to = column distances (from * most_routers + to)

-- the mesh of so many routers with these ids, distances and columns
abbrev pub lent_mesh : ℕ → List ℕ → List ℕ → Columns → Mesh
lent_mesh routers ids distances t = record {
  routers = routers;
  id = column ids;
  distance = distance_in distances;
  rows = length t.router;
  router = column t.router;
  asn = column t.asn;
  preference = column t.preference;
  path = column t.path;
  origin = column t.origin;
  mark = λ q. 1;
  med = column t.med;
  nid = column t.nid;
  peer = column t.peer;
}

-- the mesh of columns alone, for what has nothing to do with ids and distances
abbrev pub routes_mesh : ℕ → Columns → Mesh
routes_mesh routers t = lent_mesh routers [] [] t

-- what r chooses of what is available to it where each router holds what `held` says
abbrev pub choice_of : ℕ → List ℕ → List ℕ → Columns → List ℕ → ℕ → ℕ
choice_of routers ids distances t held r = let M = lent_mesh routers ids distances t in choice M r (available M held r)

-- columns of one length, within the limits, every row of a known router, and no two of one router with one peer address
pub record Fits (routers : ℕ) (t : Columns) : Type 0 where
  pub few : routers ≤ most_routers
  pub rows : length t.router ≤ most_rows
  pub asn : length t.asn ≡ length t.router
  pub preference : length t.preference ≡ length t.router
  pub path : length t.path ≡ length t.router
  pub origin : length t.origin ≡ length t.router
  pub med : length t.med ≡ length t.router
  pub nid : length t.nid ≡ length t.router
  pub peer : length t.peer ≡ length t.router
  pub owned : (q : ℕ) → q < length t.router → column t.router q < routers
  pub apart : (p q : ℕ) → p < length t.router → q < length t.router → column t.router p ≡ column t.router q → column t.peer p ≡ column t.peer q → p ≡ q

-- such columns with the ids and distances of the routers, and what a snapshot's prefix is known to be
pub record Placed (routers : ℕ) (ids distances : List ℕ) (t : Columns) : Type 0 where
  pub fits : Fits routers t
  pub ids_long : routers ≤ length ids
  pub distances_long : most_routers * most_routers ≤ length distances
  pub sound : Sound (lent_mesh routers ids distances t)

-- where each router holds what `own` says: every router that holds a row chooses that row
abbrev pub Rests : ℕ → List ℕ → List ℕ → Columns → List ℕ → Type 0
Rests routers ids distances t own = (r : ℕ) → r < routers → (column own r ≡ none → ⊥) → choice_of routers ids distances t own r ≡ column own r

-- the early and the late row of each router of a mesh
pub record ForecastRows (M : Mesh) (earlies lates : List ℕ) : Type 0 where
  pub early_rows : earlies ≡ early M
  pub late_rows : lates ≡ late M
