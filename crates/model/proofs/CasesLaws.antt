-- The table of cases is computed once: the rows of every case are those that rounds lead to, and every case is sound.
use Rattle.std.specs.Prelude.{ℕ, ◌≡◌, refl, Bool, true, false, ◌&&◌, List, [], ◌∷◌, T, eqb}
use Rattle.std.proofs.Common.{ap₂, eqb→eq}
use Rattle.model.proofs.RowLaws.{and_left, and_right}
use Rattle.model.specs.Contest.{early, late}
use Rattle.model.specs.Cases.{Case, Every, cases}
use Rattle.model.proofs.SoundLaws.{sound_test, every}

-- the same numbers in the same order
abbrev same : List ℕ → List ℕ → Bool
same [] [] = true
same [] (b ∷ bs) = false
same (a ∷ as') [] = false
same (a ∷ as') (b ∷ bs) = eqb a b && same as' bs

pub same_is : (xs ys : List ℕ) → T (same xs ys) → xs ≡ ys
same_is [] [] t = refl
same_is [] (b ∷ bs) t = absurd t
same_is (a ∷ xs) [] t = absurd t
same_is (a ∷ xs) (b ∷ ys) t = ap₂ {C = List ℕ} ◌∷◌ (eqb→eq a b (and_left (eqb a b) (same xs ys) t)) (same_is xs ys (and_right (eqb a b) (same xs ys) t))

abbrev pub case_tests : Case → List Bool
case_tests c = same (early c.mesh) c.early ∷ same (late c.mesh) c.late ∷ sound_test c.mesh ∷ []

abbrev pub all_pass : List Case → Bool
all_pass [] = true
all_pass (c ∷ cs) = every (case_tests c) && all_pass cs

pub cases_pass : T (all_pass cases)
cases_pass = tt

-- a property that follows from a case's tests is had of every case
pub every_case : (good : Case → Type 0) → ((c : Case) → T (every (case_tests c)) → good c) → (cs : List Case) → T (all_pass cs) → Every good cs
every_case good from [] t = tt
every_case good from (c ∷ cs) t = (from c (and_left (every (case_tests c)) (all_pass cs) t), every_case good from cs (and_right (every (case_tests c)) (all_pass cs) t))
