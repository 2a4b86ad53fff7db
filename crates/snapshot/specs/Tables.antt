-- The lent tables: what each has room for, and what reading a snapshot leaves in them.
use Rattle.std.specs.Prelude.{ℕ, ◌/◌, ◌%◌, ◌≤◌, ◌≡◌, Bool, cond, ◌&&◌, List, [], ◌∷◌, ◌++◌, map, length, get_or, ltb}
use Rattle.std.proofs.lemmas.List.Edits.{sets}
use Rattle.model.specs.Rows.{table}
use Rattle.model.specs.Decision.{Route, Mesh, mesh_of}
use Rattle.snapshot.specs.declared.Counts.{Counts}
use Rattle.snapshot.specs.Limits.{most_routers, stride, room_distances, most_prefixes, most_routes}
use Rattle.snapshot.specs.Format.{Prefix, Snapshot, routes_in, distance}

-- a column for each field of a route
pub record Columns : Type 0 where
  pub router : List ℕ
  pub asn : List ℕ
  pub preference : List ℕ
  pub path : List ℕ
  pub origin : List ℕ
  pub mark : List ℕ
  pub med : List ℕ
  pub nid : List ℕ
  pub peer : List ℕ

-- ids, distances, a column for each field of a prefix, one with its number of routes, and the routes' columns
pub record Tables : Type 0 where
  pub ids : List ℕ
  pub distances : List ℕ
  pub address : List ℕ
  pub bits : List ℕ
  pub routes : List ℕ
  pub rows : Columns

-- the columns of these lists
abbrev pub columns : List ℕ → List ℕ → List ℕ → List ℕ → List ℕ → List ℕ → List ℕ → List ℕ → List ℕ → Columns
columns router asn preference path origin mark med nid peer =
    record { router = router; asn = asn; preference = preference; path = path; origin = origin; mark = mark; med = med; nid = nid; peer = peer }

-- the tables of these lists
abbrev pub tables : List ℕ → List ℕ → List ℕ → List ℕ → List ℕ → Columns → Tables
tables ids distances address bits routes rows =
    record { ids = ids; distances = distances; address = address; bits = bits; routes = routes; rows = rows }

-- the tables of prefixes alone
abbrev pub prefix_tables : List ℕ → List ℕ → List ℕ → Columns → Tables
prefix_tables address bits routes rows = tables [] [] address bits routes rows

-- which of fourteen tables are shorter than their limit, by their numbers of entries in the order of a snapshot's tables
abbrev pub short_lengths : ℕ → ℕ → ℕ → ℕ → ℕ → ℕ → ℕ → ℕ → ℕ → ℕ → ℕ → ℕ → ℕ → ℕ → List Bool
short_lengths ids distances address bits routes router asn preference path origin mark med nid peer =
    ltb ids most_routers
    ∷ ltb distances room_distances
    ∷ ltb address most_prefixes
    ∷ ltb bits most_prefixes
    ∷ ltb routes most_prefixes
    ∷ ltb router most_routes
    ∷ ltb asn most_routes
    ∷ ltb preference most_routes
    ∷ ltb path most_routes
    ∷ ltb origin most_routes
    ∷ ltb mark most_routes
    ∷ ltb med most_routes
    ∷ ltb nid most_routes
    ∷ ltb peer most_routes
    ∷ []

-- ROOM: which tables are shorter than their limit
abbrev pub short : Tables → List Bool
short t =
    let c = t.rows in
    short_lengths (length t.ids) (length t.distances) (length t.address) (length t.bits) (length t.routes)
    (length c.router) (length c.asn) (length c.preference) (length c.path) (length c.origin)
    (length c.mark) (length c.med) (length c.nid) (length c.peer)

-- each column has room for so many rows
pub record Wide (n : ℕ) (c : Columns) : Type 0 where
  pub router : n ≤ length c.router
  pub asn : n ≤ length c.asn
  pub preference : n ≤ length c.preference
  pub path : n ≤ length c.path
  pub origin : n ≤ length c.origin
  pub mark : n ≤ length c.mark
  pub med : n ≤ length c.med
  pub nid : n ≤ length c.nid
  pub peer : n ≤ length c.peer

-- the tables of prefixes have room for their limits
pub record RoomPrefixes (t : Tables) : Type 0 where
  pub address : most_prefixes ≤ length t.address
  pub bits : most_prefixes ≤ length t.bits
  pub routes : most_prefixes ≤ length t.routes
  pub rows : Wide most_routes t.rows

-- and all tables
pub record Room (t : Tables) : Type 0 where
  pub ids : most_routers ≤ length t.ids
  pub distances : room_distances ≤ length t.distances
  pub prefixes : RoomPrefixes t

-- the columns with these routes from a row on
abbrev pub put_routes : Columns → ℕ → List Route → Columns
put_routes c at rs = record {
  router = sets c.router at (map (λ r. r.router) rs);
  asn = sets c.asn at (map (λ r. r.asn) rs);
  preference = sets c.preference at (map (λ r. r.preference) rs);
  path = sets c.path at (map (λ r. r.path) rs);
  origin = sets c.origin at (map (λ r. r.origin) rs);
  mark = sets c.mark at (map (λ r. r.mark) rs);
  med = sets c.med at (map (λ r. r.med) rs);
  nid = sets c.nid at (map (λ r. r.nid) rs);
  peer = sets c.peer at (map (λ r. r.peer) rs);
}

-- the distances with from and to below n are used
abbrev pub used : ℕ → ℕ → Bool
used n k = ltb (k / stride) n && ltb (k % stride) n

-- a table of distances whose used entries hold a snapshot's: from times the stride, plus to; equal pairs hold 0
abbrev pub put_distances : Snapshot → List ℕ → List ℕ
put_distances s ds =
    table (length ds) (λ k. cond (used (length s.ids) k) (distance s (k / stride) (k % stride)) (get_or ds k 0))

-- the routes of all prefixes, prefix after prefix
abbrev pub all_routes : List Prefix → List Route
all_routes [] = []
all_routes (p ∷ ps) = p.routes ++ all_routes ps

-- what reading a snapshot leaves in tables: the used rows hold it, all other entries are as before
abbrev pub filled : Snapshot → Tables → Tables
filled s t = record {
  ids = sets t.ids 0 s.ids;
  distances = put_distances s t.distances;
  address = sets t.address 0 (map (λ p. p.address) s.prefixes);
  bits = sets t.bits 0 (map (λ p. p.bits) s.prefixes);
  routes = sets t.routes 0 (map (λ p. length p.routes) s.prefixes);
  rows = put_routes t.rows 0 (all_routes s.prefixes);
}

-- the counts of routers, prefixes and routes
abbrev pub counts_of : Snapshot → Counts
counts_of s = record { routers = length s.ids; prefixes = length s.prefixes; routes = routes_in s.prefixes }

-- counts and tables hold a snapshot: the counts are its, and to fill it in would change nothing
abbrev pub Held : Counts → Tables → Snapshot → Type 0
Held counts t s = (counts ≡ counts_of s) × (filled s t ≡ t)

-- the routes of the prefix of a number
abbrev pub routes_of : Snapshot → ℕ → List Route
routes_of s p = get_or (map (λ q. q.routes) s.prefixes) p []

-- what the prefix of a number is decided on
abbrev pub mesh : Snapshot → ℕ → Mesh
mesh s p = mesh_of s.ids (distance s) (routes_of s p)
