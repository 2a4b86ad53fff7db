-- Choosing among what is available: the eight steps of the decision process (RFC 4271, 9.1.1 to 9.1.2.2) on rows of one prefix.
use Rattle.std.specs.Prelude.{ℕ, Bool, cond, ◌&&◌, not, List, map, eqb, ltb, length, get_or}
use Rattle.model.specs.Rows.{keep, some, span, keep_least, keep_greatest, column}

-- a route: the router that owns it, its neighbour AS, local preference, path length, origin, MED mark, MED, neighbour id, peer address
pub record Route : Type 0 where
  pub router : ℕ
  pub asn : ℕ
  pub preference : ℕ
  pub path : ℕ
  pub origin : ℕ
  pub mark : ℕ
  pub med : ℕ
  pub nid : ℕ
  pub peer : ℕ

-- what a prefix is decided on: the routers, their ids, the distance from one to another, and so many rows with a column a field
pub record Mesh : Type 0 where
  pub routers : ℕ
  pub id : ℕ → ℕ
  pub distance : ℕ → ℕ → ℕ
  pub rows : ℕ
  pub router : ℕ → ℕ
  pub asn : ℕ → ℕ
  pub preference : ℕ → ℕ
  pub path : ℕ → ℕ
  pub origin : ℕ → ℕ
  pub mark : ℕ → ℕ
  pub med : ℕ → ℕ
  pub nid : ℕ → ℕ
  pub peer : ℕ → ℕ

-- the mesh of these routers' ids, these distances and the routes of a prefix
abbrev pub mesh_of : List ℕ → (ℕ → ℕ → ℕ) → List Route → Mesh
mesh_of ids distance routes = record {
  routers = length ids;
  id = column ids;
  distance = distance;
  rows = length routes;
  router = column (map (λ r. r.router) routes);
  asn = column (map (λ r. r.asn) routes);
  preference = column (map (λ r. r.preference) routes);
  path = column (map (λ r. r.path) routes);
  origin = column (map (λ r. r.origin) routes);
  mark = column (map (λ r. r.mark) routes);
  med = column (map (λ r. r.med) routes);
  nid = column (map (λ r. r.nid) routes);
  peer = column (map (λ r. r.peer) routes);
}

-- no row: what a router holds that has nothing to hold
abbrev pub none : ℕ
none = 65535

-- p puts q out in step 4: the same neighbour AS, and a lower MED
abbrev pub beats_by : (ℕ → ℕ) → (ℕ → ℕ) → ℕ → ℕ → Bool
beats_by asn med p q = eqb (asn p) (asn q) && ltb (med p) (med q)

-- the rows that none of `others` beats
abbrev pub unbeaten_by : (ℕ → ℕ → Bool) → List ℕ → List ℕ → List ℕ
unbeaten_by beats others rows = keep (λ q. not (some (λ p. beats p q) others)) rows

module _ (M : Mesh) where
  -- every row of the prefix
  abbrev pub all : List ℕ
  all = span 0 M.rows

  -- q is one of r's own routes
  abbrev pub own_of : ℕ → ℕ → Bool
  own_of r q = eqb (M.router q) r

  -- the MED of a row; an absent MED counts as 0
  abbrev pub metric : ℕ → ℕ
  metric q = cond (eqb (M.mark q) 0) 0 (M.med q)

  -- p has the same neighbour AS as q and a lower MED
  abbrev pub beats : ℕ → ℕ → Bool
  beats = beats_by M.asn metric

  -- the interior distance from r to the router that owns the route (0 for one's own)
  abbrev pub far : ℕ → ℕ → ℕ
  far r q = cond (own_of r q) 0 (M.distance r (M.router q))

  -- the neighbour's id for an own route, the owning router's id otherwise
  abbrev pub tie_id : ℕ → ℕ → ℕ
  tie_id r q = cond (own_of r q) (M.nid q) (M.id (M.router q))

  -- 1. the highest local preference; 2. the shortest AS path; 3. the lowest origin
  abbrev pub preferred : List ℕ → List ℕ
  preferred rows = keep_least M.origin (keep_least M.path (keep_greatest M.preference rows))

  -- 4. routes for which no route still kept has the same neighbour AS and a lower MED
  abbrev pub unbeaten : List ℕ → List ℕ
  unbeaten rows = unbeaten_by beats rows rows

  -- 5. the router's own routes, if any is kept
  abbrev pub own_if_any : ℕ → List ℕ → List ℕ
  own_if_any r rows = cond (some (own_of r) rows) (keep (own_of r) rows) rows

  -- 6. the lowest interior distance; 7. the lowest id; 8. the lowest peer address
  abbrev pub nearest : ℕ → List ℕ → List ℕ
  nearest r rows = keep_least M.peer (keep_least (tie_id r) (keep_least (far r) rows))

  -- what the eight steps leave of the rows that are available to r
  abbrev pub decided : ℕ → List ℕ → List ℕ
  decided r rows = nearest r (own_if_any r (unbeaten (preferred rows)))

  -- the row that r chooses, or none
  abbrev pub choice : ℕ → List ℕ → ℕ
  choice r rows = get_or (decided r rows) 0 none
