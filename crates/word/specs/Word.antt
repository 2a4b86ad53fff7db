-- A 64-bit word with one bit per router.
use Rattle.std.specs.Prelude.{ℕ, ◌+◌, ◌^◌, Bool, not, List, [], ◌∷◌, eqb, length, get_or}
use Rattle.model.specs.Rows.{keep, span}
use Rattle.model.specs.Decision.{none}

-- the word with bit r for each router r of a list
abbrev pub word : List ℕ → ℕ
word [] = 0
word (r ∷ rs) = 2 ^ r + word rs

-- the places at which two rows of a list differ from those of another, as long
abbrev pub differs : List ℕ → List ℕ → ℕ → Bool
differs early late r = not (eqb (get_or early r none) (get_or late r none))

-- the routers whose two rows differ
abbrev pub differing_in : List ℕ → List ℕ → List ℕ
differing_in early late = keep (differs early late) (span 0 (length early))
