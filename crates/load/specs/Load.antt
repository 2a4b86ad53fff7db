-- What the forecast of one prefix takes from the bytes of a snapshot: where that prefix stands, and its routes.
use Rattle.std.specs.Prelude.{ℕ, zero, suc, ◌+◌, ◌≤◌, ◌<◌, ◌≡◌, cond, List, [], length, take, leb}
use Rattle.std.proofs.lemmas.List.Edits.{sets}
use Rattle.model.specs.Rows.{table}
use Rattle.model.specs.Decision.{Route}
use Rattle.model.specs.Columns as decided
use Rattle.model.specs.Stability.{Between}
use Rattle.snapshot.specs.Limits.{most_routers, room_distances, most_in_prefix}
use Rattle.snapshot.specs.Records.{prefix_form, size}
use Rattle.snapshot.specs.Format.{Snapshot, Valid, encode}
use Rattle.snapshot.specs.Reading.{accepted, reading}
use Rattle.snapshot.specs.Tables.{Columns, columns, put_routes, mesh}
use Rattle.fill.specs.Fill.{ids_in, entry_in, behind_distances, routes_from, behind_routes}
use Rattle.decide.specs.declared.Differing.{Differing}
use Rattle.decide.specs.Decide.{differing_of}
use Rattle.load.specs.declared.LentMesh as lent

-- the place of a prefix, so many behind the one at a place
unfoldable pub place_from : ℕ → List ℕ → ℕ → ℕ
place_from zero bs at = at
place_from (suc more) bs at = cond (leb (at + size prefix_form) (length bs)) (place_from more bs (behind_routes most_in_prefix bs (at + size prefix_form))) at

-- where the routes of the prefix of a number stand, where there are n routers; and these routes
abbrev pub routes_place : List ℕ → ℕ → ℕ → ℕ
routes_place bs n p = place_from p bs (behind_distances n) + size prefix_form

abbrev pub asked_routes : List ℕ → ℕ → ℕ → List Route
asked_routes bs n p = routes_from most_in_prefix bs (routes_place bs n p)

-- the bytes are those of a snapshot of n routers that has a prefix of this number
pub record Asked (bs : List ℕ) (n p : ℕ) : Type 0 where
  pub snapshot : Snapshot
  pub read : reading bs ≡ accepted snapshot
  pub written : bs ≡ encode snapshot
  pub valid : Valid snapshot
  pub routers : n ≡ length snapshot.ids
  pub below : p < length snapshot.prefixes

-- the columns that a prefix is decided on, which MED marks are not
abbrev pub unmarked : List ℕ → List ℕ → List ℕ → List ℕ → List ℕ → List ℕ → List ℕ → List ℕ → Columns
unmarked router asn preference path origin med nid peer = columns router asn preference path origin [] med nid peer

-- what stands in the columns of a mesh that is lent to be filled
abbrev pub lent_rows : lent.LentMesh → Columns
lent_rows m = unmarked m.router.now m.asn.now m.preference.now m.path.now m.origin.now m.med.now m.nid.now m.peer.now

-- its lists are the same as before, whatever stands in them
pub record KeepsMesh (a b : lent.LentMesh) : Type 0 where
  pub ids : b.ids.ghost_name ≡ a.ids.ghost_name
  pub distances : b.distances.ghost_name ≡ a.distances.ghost_name
  pub router : b.router.ghost_name ≡ a.router.ghost_name
  pub asn : b.asn.ghost_name ≡ a.asn.ghost_name
  pub preference : b.preference.ghost_name ≡ a.preference.ghost_name
  pub path : b.path.ghost_name ≡ a.path.ghost_name
  pub origin : b.origin.ghost_name ≡ a.origin.ghost_name
  pub med : b.med.ghost_name ≡ a.med.ghost_name
  pub nid : b.nid.ghost_name ≡ a.nid.ghost_name
  pub peer : b.peer.ghost_name ≡ a.peer.ghost_name

-- these columns have room for so many routes
pub record WideRows (n : ℕ) (c : Columns) : Type 0 where
  pub router : n ≤ length c.router
  pub asn : n ≤ length c.asn
  pub preference : n ≤ length c.preference
  pub path : n ≤ length c.path
  pub origin : n ≤ length c.origin
  pub med : n ≤ length c.med
  pub nid : n ≤ length c.nid
  pub peer : n ≤ length c.peer

-- room for what a prefix is decided on
pub record Lends (ids distances : List ℕ) (c : Columns) : Type 0 where
  pub ids_long : most_routers ≤ length ids
  pub distances_long : room_distances ≤ length distances
  pub rows : WideRows most_in_prefix c

-- ids, distances and columns with what that prefix is decided on; the rest of each is as before
pub record Loaded (bs : List ℕ) (n p : ℕ) (ids₀ distances₀ : List ℕ) (c₀ : Columns) (rows : ℕ) (ids distances : List ℕ) (c : Columns) : Type 0 where
  pub count : rows ≡ length (asked_routes bs n p)
  pub ids_are : ids ≡ sets ids₀ 0 (ids_in bs n)
  pub distances_are : distances ≡ table (length distances₀) (entry_in bs n distances₀)
  pub columns_are : c ≡ put_routes c₀ 0 (asked_routes bs n p)

-- so many rows of each column, with MEDs as they stand
abbrev pub front : ℕ → Columns → decided.Columns
front rows c = decided.columns
    (take rows c.router) (take rows c.asn) (take rows c.preference) (take rows c.path)
    (take rows c.origin) (take rows c.med) (take rows c.nid) (take rows c.peer)

-- the early and the late rows of the prefix of a number of the snapshot in the bytes, and the routers that differ
pub record Forecast (bs : List ℕ) (p : ℕ) (d : Differing) (early late : List ℕ) : Type 0 where
  pub snapshot : Snapshot
  pub read : reading bs ≡ accepted snapshot
  pub below : p < length snapshot.prefixes
  pub between : Between (mesh snapshot p) early late
  pub differs : d ≡ differing_of (mesh snapshot p) early late
