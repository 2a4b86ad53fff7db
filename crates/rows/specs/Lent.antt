-- The code's lent routes and meshes as those of the definitions.
use Rattle.std.specs.Prelude.{ℕ, ◌≤◌, ◌<◌, ◌≡◌, List, length, take, drop}
use Rattle.model.specs.Columns.{Columns, columns, lent_mesh}
use Rattle.model.specs.Decision.{Mesh}
use Rattle.model.specs.Rows.{column}
use Rattle.rows.specs.declared.Routes as routes
use Rattle.rows.specs.declared.Mesh as meshes

-- the columns that a value of the code's struct shows
abbrev pub columns_in : routes.Routes → Columns
columns_in r = columns r.router.now r.asn.now r.preference.now r.path.now r.origin.now r.med.now r.nid.now r.peer.now

-- the mesh of so many routers that a value of the code's struct shows
abbrev pub mesh_in : ℕ → meshes.Mesh → Mesh
mesh_in n m = lent_mesh n m.ids.now m.distances.now (columns_in m.routes)

-- so many entries of a list, from one on
abbrev pub part : ℕ → ℕ → List ℕ → List ℕ
part at n xs = take n (drop at xs)

-- so many entries of each column, from one on
abbrev pub cut : ℕ → ℕ → Columns → Columns
cut at n c = columns
    (part at n c.router) (part at n c.asn) (part at n c.preference) (part at n c.path)
    (part at n c.origin) (part at n c.med) (part at n c.nid) (part at n c.peer)

-- every column has so many entries
pub record Reaches (end : ℕ) (c : Columns) : Type 0 where
  pub router : end ≤ length c.router
  pub asn : end ≤ length c.asn
  pub preference : end ≤ length c.preference
  pub path : end ≤ length c.path
  pub origin : end ≤ length c.origin
  pub med : end ≤ length c.med
  pub nid : end ≤ length c.nid
  pub peer : end ≤ length c.peer

-- something holds of each listed row
pub record Each (P : ℕ → Type 0) (rows : List ℕ) : Type 0 where
  pub each : (i : ℕ) → i < length rows → P (column rows i)

-- whatever a call gives at a listed row is f of it
abbrev pub Gives : {A : Type 0} → (ℕ → A → Type 0) → (ℕ → A) → List ℕ → Type 0
Gives post f rows = Each (λ q. (a : _) → post q a → a ≡ f q) rows
