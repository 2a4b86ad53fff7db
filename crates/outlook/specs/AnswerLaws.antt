-- What an answer in numbers tells, and that two promises of a forecast agree.
use Rattle.std.specs.Prelude.{ℕ, ◌≡◌, refl, List, length, Result}
use Rattle.std.proofs.Common.{arith, sym, ap, ap₂, subst, ◌∙◌, true≢false}
use Rattle.std.proofs.lemmas.List.Edits.{sets}
use Rattle.refusal.specs.Numbers.{Said, gives}
use Rattle.refusal.specs.declared.Refused.{Refused}
use Rattle.refusal.proofs.NumbersLaws.{value, answer_tells}
use Rattle.snapshot.specs.declared.Counts.{Counts}
use Rattle.snapshot.specs.Format.{Snapshot}
use Rattle.snapshot.specs.Tables.{Tables, mesh}
use Rattle.tables.specs.Theorems.{held_one, sound}
use Rattle.model.specs.Stability.{Between}
use Rattle.model.proofs.Theorems.{pair_determined}
use Rattle.decide.specs.declared.Differing.{Differing}
use Rattle.decide.specs.Decide.{differing_of}
use Rattle.outlook.specs.Outlook.{Forecasts, room, no_snapshot, no_prefix, given, values_of, said}
use Rattle.outlook.specs.OutlookLaws.{roomy}

-- numbers and values tell the answer
pub said_tells : (a b : Result Differing Refused) → said a ≡ said b → a ≡ b
said_tells = answer_tells values_of (λ d f e. ap (λ (s : Said). record { word = value s 0; number = value s 1 }) e)

-- the same answer and the same areas
pub record Same {A : Type 0} (a b : A) (early early' late late' : List ℕ) : Type 0 where
  pub answer : a ≡ b
  pub earlies : early ≡ early'
  pub lates : late ≡ late'

module _ {counts : Counts} {t : Tables} {p : ℕ} {early late : List ℕ} where
  -- two answers in numbers are one, and so are the areas
  pub same_said : {a b : Said} {e l e' l' : List ℕ}
      → Forecasts counts t p early late a e l → Forecasts counts t p early late b e' l' → Same a b e e' l l'
  same_said (room h) (room k) = record { answer = refl; earlies = refl; lates = refl }
  same_said (room h) (no_snapshot k n) = absurd (true≢false (sym h ∙ k))
  same_said (room h) (no_prefix k s v i m) = absurd (true≢false (sym h ∙ k))
  same_said (room h) (given k s v i m e l b) = absurd (true≢false (sym h ∙ k))
  same_said (no_snapshot h n) (room k) = absurd (true≢false (sym k ∙ h))
  same_said (no_snapshot h n) (no_snapshot k o) = record { answer = refl; earlies = refl; lates = refl }
  same_said (no_snapshot h n) (no_prefix k s v i m) = absurd (n s v i)
  same_said (no_snapshot h n) (given k s v i m e l b) = absurd (n s v i)
  same_said (no_prefix h s v i m) (room k) = absurd (true≢false (sym k ∙ h))
  same_said (no_prefix h s v i m) (no_snapshot k n) = absurd (n s v i)
  same_said (no_prefix h s v i m) (no_prefix k u w j o) = record { answer = refl; earlies = refl; lates = refl }
  same_said (no_prefix h s v i m) (given k u w j o e l b) =
      absurd (let same = ap (λ (x : Snapshot). length x.prefixes) (held_one (roomy t early late h) v i w j) in omega arith)
  same_said (given h s v i m e l b) (room k) = absurd (true≢false (sym k ∙ h))
  same_said (given h s v i m e l b) (no_snapshot k n) = absurd (n s v i)
  same_said (given h s v i m e l b) (no_prefix k u w j o) =
      absurd (let same = ap (λ (x : Snapshot). length x.prefixes) (held_one (roomy t early late h) v i w j) in omega arith)
  same_said (given h s v i m e l b) (given k u w j o e' l' b') =
      let same = held_one (roomy t early late h) w j v i in
      let there : Between (mesh s p) e' l' = subst (λ (x : Snapshot). Between (mesh x p) e' l') same b' in
      let pair = pair_determined (mesh s p) (sound v p m) e l e' l' b there in
      record {
        answer = ap₂ (λ (x y : List ℕ). gives (values_of (differing_of (mesh s p) x y))) pair.0 pair.1
            ∙ ap (λ (x : Snapshot). gives (values_of (differing_of (mesh x p) e' l'))) (sym same);
        earlies = ap (sets early 0) pair.0;
        lates = ap (sets late 0) pair.1;
      }
