-- What is decided of one prefix: the early and the late rows, and the routers that differ.
use Rattle.std.specs.Prelude.{ℕ, ◌≡◌, List, length}
use Rattle.model.specs.Contest.{early, late}
use Rattle.model.specs.Decision.{Mesh}
use Rattle.model.specs.Stability.{differing}
use Rattle.word.specs.Word.{word}
use Rattle.decide.specs.declared.Differing.{Differing}

-- the word of the routers whose two rows differ, with the number of its ones
abbrev pub differing_of : Mesh → List ℕ → List ℕ → Differing
differing_of M early late = record { word = word (differing M early late); number = length (differing M early late) }

-- the rows to which rounds lead, and the routers that differ
pub record Decided (M : Mesh) (d : Differing) (earlies lates : List ℕ) : Type 0 where
  pub early_rows : earlies ≡ early M
  pub late_rows : lates ≡ late M
  pub differs : d ≡ differing_of M (early M) (late M)
