-- What the code knows of lent tables, and the text that it makes of them. It decides a prefix by rounds; that these lead to the page of
-- Page.antt is proved in RenderLaws.antt.
use Rattle.std.specs.Prelude.{ℕ, ◌+◌, ◌≤◌, ◌<◌, ◌≡◌, ◌⊎◌, List, ◌++◌, length, get_or, replicate, Result, Ok, Err}
use Rattle.refusal.specs.declared.Refused.{Refused}
use Rattle.refusal.specs.Numbers.{number_of}
use Rattle.model.specs.Rows.{span, column, start}
use Rattle.model.specs.Columns.{lent_mesh}
use Rattle.model.specs.Decision.{Mesh, none}
use Rattle.model.specs.Contest.{early, late}
use Rattle.snapshot.specs.Limits.{most_routers, most_prefixes}
use Rattle.snapshot.specs.Tables.{Tables}
use Rattle.snapshot.specs.declared.Counts.{Counts}
use Rattle.rows.specs.Lent.{cut}
use Rattle.outlook.specs.Outlook.{whole, Part}
use Rattle.text.specs.Text.{each}
use Rattle.lines.specs.Lines.{heading_line, refused_line}
use Rattle.page.specs.Page.{mesh_text, widest_page}

-- every row that is held is none or a row of the prefix
pub record Rows (router held : List ℕ) : Type 0 where
  pub row : (r : ℕ) → r < length held → (get_or held r none ≡ none) ⊎ (get_or held r none < length router)

-- the block of the rows to which rounds lead
abbrev pub decided_text : ℕ → ℕ → Mesh → List ℕ
decided_text address bits M = mesh_text M address bits (early M) (late M)

-- the text of a prefix of lent tables
abbrev pub lent_text : ℕ → Tables → ℕ → List ℕ
lent_text routers t p =
    decided_text (column t.address p) (column t.bits p) (lent_mesh routers t.ids t.distances (cut (start t.routes p) (column t.routes p) (whole t)))

-- an area for the rows of the most routers
abbrev pub blank : List ℕ
blank = replicate most_routers 0

-- so many prefixes, each of which may be decided
pub record Blocks (routers prefixes : ℕ) (t : Tables) : Type 0 where
  pub few : prefixes ≤ most_prefixes
  pub addresses : prefixes ≤ length t.address
  pub lengths : prefixes ≤ length t.bits
  pub numbers : prefixes ≤ length t.routes
  pub part : (p first end : ℕ) → p < prefixes → first ≡ start t.routes p → end ≡ first + column t.routes p
      → Part routers first end t.ids t.distances (whole t) blank blank

-- the page of what was read into lent tables
abbrev pub lent_page : Result Counts Refused → Tables → List ℕ
lent_page (Ok n) t = heading_line n.routers n.prefixes ++ each (lent_text n.routers t) (span 0 n.prefixes)
lent_page (Err e) t = refused_line (number_of e.refusal) e.place

-- tables with the prefixes of a snapshot that was accepted, and a buffer in which any page fits
pub record Ready (answer : Result Counts Refused) (t : Tables) (room : ℕ) : Type 0 where
  pub blocks : (n : Counts) → answer ≡ Ok n → Blocks n.routers n.prefixes t
  pub out_long : widest_page ≤ room
