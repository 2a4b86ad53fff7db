-- What the host call returns and leaves in the area, for every input.
use Rattle.std.specs.Prelude.{ℕ, ◌+◌, ◌≤◌, ◌<◌, ◌≡◌, List, ◌++◌, length, get_or, Result, Ok, Err}
use Rattle.std.proofs.lemmas.List.Edits.{sets}
use Rattle.refusal.specs.declared.Refusal.{Refusal}
use Rattle.refusal.specs.declared.Refused.{Refused}
use Rattle.refusal.specs.declared.Refusal.TheVariants.{Room, NoPrefix}
use Rattle.refusal.specs.Numbers.{number_of}
use Rattle.model.specs.Rows.{span}
use Rattle.model.specs.Decision.{Mesh, none}
use Rattle.model.specs.Stability.{Between, differing}
use Rattle.wire.specs.Numbers.{bytes_of}
use Rattle.text.specs.Text.{each}
use Rattle.snapshot.specs.Format.{Snapshot}
use Rattle.snapshot.specs.Reading.{accepted, refused, reading}
use Rattle.snapshot.specs.Tables.{mesh}

-- an area of at least 256 bytes
abbrev pub area_bytes : ℕ
area_bytes = 256

-- 100 plus the refusal number
abbrev pub refusal_code : Refusal → ℕ
refusal_code r = 100 + number_of r

-- what is returned: how many routers differ, or what a refusal returns
abbrev pub code : Result ℕ Refused → ℕ
code (Ok differing) = differing
code (Err e) = refusal_code e.refusal

-- the early row of a router in two bytes, the late row in the next two, most significant byte first
abbrev pub router_bytes : List ℕ → List ℕ → ℕ → List ℕ
router_bytes early late r = bytes_of 2 (get_or early r none) ++ bytes_of 2 (get_or late r none)

-- those of each router r below n, in bytes 4r to 4r+3
abbrev pub rows_bytes : Mesh → List ℕ → List ℕ → List ℕ
rows_bytes M early late = each (router_bytes early late) (span 0 M.routers)

-- the number returned for these bytes, prefix number and area, and what the area holds afterwards; checked in this order
pub data Answers (bs : List ℕ) (p : ℕ) (area : List ℕ) : ℕ → List ℕ → Type 0 where
  -- the area is too short
  room : length area < area_bytes → Answers bs p area (refusal_code Room) area
  -- the bytes are refused
  unread : area_bytes ≤ length area → (r : Refusal) (at : ℕ) → reading bs ≡ refused r at → Answers bs p area (refusal_code r) area
  -- they are those of s, and the prefix number is not below its prefix count
  no_prefix : area_bytes ≤ length area → (s : Snapshot) → reading bs ≡ accepted s → length s.prefixes ≤ p → Answers bs p area (refusal_code NoPrefix) area
  -- they are those of s: how many routers differ (0 for settled), and the early and late rows of that prefix of s; all other bytes stay
  given : area_bytes ≤ length area → (s : Snapshot) → reading bs ≡ accepted s → p < length s.prefixes
      → (e l : List ℕ) → Between (mesh s p) e l
      → Answers bs p area (length (differing (mesh s p) e l)) (sets area 0 (rows_bytes (mesh s p) e l))
