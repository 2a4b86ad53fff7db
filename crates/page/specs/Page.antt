-- The printed forecast of a snapshot's bytes, and what rendering it answers and leaves.
use Rattle.std.specs.Prelude.{ℕ, ◌+◌, ◌*◌, ◌≤◌, ◌<◌, ◌≡◌, not, List, [], ◌∷◌, ◌++◌, map, eqb, length, get_or, Result}
use Rattle.std.proofs.lemmas.List.Edits.{sets}
use Rattle.refusal.specs.declared.Refusal.{Refusal}
use Rattle.refusal.specs.declared.Refusal.TheVariants.{Room}
use Rattle.refusal.specs.declared.Refused.{Refused}
use Rattle.refusal.specs.Numbers.{number_of, Said, refuses, gives, said_by}
use Rattle.model.specs.Rows.{span}
use Rattle.model.specs.Decision.{Mesh, none}
use Rattle.model.specs.Stability.{Between, differing}
use Rattle.snapshot.specs.Limits.{most_routers, most_prefixes}
use Rattle.snapshot.specs.Format.{Prefix, Snapshot}
use Rattle.snapshot.specs.Reading.{accepted, refused, reading}
use Rattle.snapshot.specs.Tables.{mesh}
use Rattle.text.specs.Text.{each}
use Rattle.lines.specs.Lines.{widest, heading_line, refused_line, prefix_line, router_line}

-- a prefix's line with the number of routers that differ, and below it router lines, for every router
abbrev pub block : ℕ → ℕ → ℕ → (ℕ → ℕ) → ℕ → List ℕ → List ℕ → List ℕ
block address bits number router routers early late =
    prefix_line address bits number
    ++ each (λ r. router_line (not (eqb number 0)) router r (get_or early r none) (get_or late r none)) (span 0 routers)

-- the block of these early and late rows of a mesh
abbrev pub mesh_text : Mesh → ℕ → ℕ → List ℕ → List ℕ → List ℕ
mesh_text M address bits early late = block address bits (length (differing M early late)) M.router M.routers early late

-- a field of the prefix of a number
abbrev pub field_of : (Prefix → ℕ) → Snapshot → ℕ → ℕ
field_of f s p = get_or (map f s.prefixes) p 0

-- the block of these early and late rows of the prefix of a number
abbrev pub prefix_text : Snapshot → ℕ → List ℕ → List ℕ → List ℕ
prefix_text s p early late = mesh_text (mesh s p) (field_of (λ q. q.address) s p) (field_of (λ q. q.bits) s p) early late

-- line 1, then each prefix in order, with these early and late rows of each
abbrev pub snapshot_text : Snapshot → (ℕ → List ℕ) → (ℕ → List ℕ) → List ℕ
snapshot_text s early late =
    heading_line (length s.ids) (length s.prefixes)
    ++ each (λ p. prefix_text s p (early p) (late p)) (span 0 (length s.prefixes))

-- the page of a snapshot's bytes
pub data Pages (bs : List ℕ) : List ℕ → Type 0 where
  -- the bytes are refused: one line
  unread : (r : Refusal) (at : ℕ) → reading bs ≡ refused r at → Pages bs (refused_line (number_of r) at)
  -- they are those of s: the early and the late assignment of each of its prefixes
  given : (s : Snapshot) → reading bs ≡ accepted s
      → (e l : ℕ → List ℕ) → ((p : ℕ) → p < length s.prefixes → Between (mesh s p) (e p) (l p))
      → Pages bs (snapshot_text s e l)

-- no block has more bytes: a prefix's line and one for each router
abbrev pub widest_block : ℕ
widest_block = widest * (1 + most_routers)

-- nor any page: line 1 and the blocks of all prefixes
abbrev pub widest_page : ℕ
widest_page = widest + widest_block * most_prefixes

-- an answer in numbers: how many bytes the page has, or a refusal with its place
abbrev pub said : Result ℕ Refused → Said
said = said_by (λ n. gives (n ∷ []))

-- what rendering these bytes into a buffer answers, and what the buffer holds afterwards
pub data Renders (bs out : List ℕ) : Said → List ℕ → Type 0 where
  -- not every page would fit
  room : length out < widest_page → Renders bs out (refuses Room 0) out
  -- the page stands at the start, all other bytes are as before
  text : widest_page ≤ length out → (page : List ℕ) → Pages bs page → Renders bs out (gives (length page ∷ [])) (sets out 0 page)
