-- What the forecast of one prefix answers, and what it leaves in the two answer areas, for every input.
use Rattle.std.specs.Prelude.{ℕ, ◌-◌, ◌≤◌, ◌<◌, ◌≡◌, Bool, true, false, List, [], ◌∷◌, ◌++◌, ltb, length, Result}
use Rattle.std.proofs.lemmas.List.Edits.{sets}
use Rattle.refusal.specs.declared.Refusal.TheVariants.{Room, Table, NoPrefix}
use Rattle.refusal.specs.declared.Refused.{Refused}
use Rattle.refusal.specs.Numbers.{Said, refuses, gives, said_by}
use Rattle.snapshot.specs.declared.Counts.{Counts}
use Rattle.snapshot.specs.Limits.{most_routers, most_routes}
use Rattle.snapshot.specs.Ranges.{any_of}
use Rattle.snapshot.specs.Format.{Snapshot, Valid}
use Rattle.snapshot.specs.Tables.{Tables, short, Held, mesh}
use Rattle.model.specs.Contest.{early, late}
use Rattle.model.specs.Columns.{Columns, columns, Placed}
use Rattle.model.specs.Decision.{Mesh}
use Rattle.model.specs.Stability.{Between}
use Rattle.rows.specs.Lent.{cut}
use Rattle.decide.specs.declared.Differing.{Differing}
use Rattle.decide.specs.Decide.{differing_of}

-- ROOM: which of the tables is shorter than its limit, or which answer area shorter than 64 entries
abbrev pub short_of : Tables → List ℕ → List ℕ → List Bool
short_of t early late = short t ++ (ltb (length early) most_routers ∷ ltb (length late) most_routers ∷ [])

-- the values of an answer: the word of the routers that differ, and the number of its ones
abbrev pub values_of : Differing → List ℕ
values_of d = d.word ∷ d.number ∷ []

-- an answer in numbers
abbrev pub said : Result Differing Refused → Said
said = said_by (λ d. gives (values_of d))

-- the answer to these counts, tables, prefix number and answer areas, and what the areas hold afterwards; checked in this order
pub data Forecasts (counts : Counts) (t : Tables) (p : ℕ) (early late : List ℕ) : Said → List ℕ → List ℕ → Type 0 where
  -- a lent table, or an answer area, is too short
  room : any_of (short_of t early late) ≡ true → Forecasts counts t p early late (refuses Room 0) early late
  -- the tables are not those of any snapshot
  no_snapshot : any_of (short_of t early late) ≡ false
      → ((s : Snapshot) → Valid s → Held counts t s → ⊥)
      → Forecasts counts t p early late (refuses Table 0) early late
  -- they are those of s, and the prefix number is not below its prefix count
  no_prefix : any_of (short_of t early late) ≡ false
      → (s : Snapshot) → Valid s → Held counts t s
      → length s.prefixes ≤ p
      → Forecasts counts t p early late (refuses NoPrefix 0) early late
  -- they are those of s: the early and the late assignment of that prefix of s, from the first router on, and the routers that differ
  given : any_of (short_of t early late) ≡ false
      → (s : Snapshot) → Valid s → Held counts t s
      → p < length s.prefixes
      → (e l : List ℕ) → Between (mesh s p) e l
      → Forecasts counts t p early late (gives (values_of (differing_of (mesh s p) e l))) (sets early 0 e) (sets late 0 l)

-- ---- what the code knows of lent columns

-- the columns of tables, but for the marks
abbrev pub whole : Tables → Columns
whole t = columns t.rows.router t.rows.asn t.rows.preference t.rows.path t.rows.origin t.rows.med t.rows.nid t.rows.peer

-- the early and the late rows of a mesh at the start of two areas, whose other entries are as before; and the routers that differ
pub record Shown (M : Mesh) (d : Differing) (early₀ early₁ late₀ late₁ : List ℕ) : Type 0 where
  pub early_area : early₁ ≡ sets early₀ 0 (early M)
  pub late_area : late₁ ≡ sets late₀ 0 (late M)
  pub differs : d ≡ differing_of M (early M) (late M)

-- rows of columns that are inside, within the limits and of known routers; and areas with room for the routers
pub record Part (routers first end : ℕ) (ids distances : List ℕ) (c : Columns) (early late : List ℕ) : Type 0 where
  pub ordered : first ≤ end
  pub fits : end ≤ most_routes
  pub router : most_routes ≤ length c.router
  pub asn : most_routes ≤ length c.asn
  pub preference : most_routes ≤ length c.preference
  pub path : most_routes ≤ length c.path
  pub origin : most_routes ≤ length c.origin
  pub med : most_routes ≤ length c.med
  pub nid : most_routes ≤ length c.nid
  pub peer : most_routes ≤ length c.peer
  pub placed : Placed routers ids distances (cut first (end - first) c)
  pub earlies : routers ≤ length early
  pub lates : routers ≤ length late
