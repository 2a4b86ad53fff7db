-- What is proved of the promise of a forecast, each theorem under the sentence of document 01 that it makes true.
use Rattle.std.specs.Prelude.{ℕ, ◌<◌, ◌≡◌, ◌↔◌, List, length, Result}
use Rattle.snapshot.specs.declared.Counts.{Counts}
use Rattle.snapshot.specs.Format.{Snapshot, Valid}
use Rattle.snapshot.specs.Tables.{Tables, mesh}
use Rattle.tables.specs.Theorems.{sound}
use Rattle.model.specs.Stability.{Between, Only}
use Rattle.model.proofs.Theorems.{settled_only}
use Rattle.refusal.specs.declared.Refused.{Refused}
use Rattle.decide.specs.declared.Differing.{Differing}
use Rattle.decide.specs.Decide.{differing_of}
use Rattle.outlook.specs.Outlook.{Forecasts, said}
use Rattle.outlook.specs.AnswerLaws.{Same, said_tells, same_said}

-- "Each public call's promise determines its result and the later contents of everything it was lent, for all inputs and refusals"
pub forecasts_one : {counts : Counts} {t : Tables} {p : ℕ} {early late : List ℕ} (a b : Result Differing Refused) {e l e' l' : List ℕ}
    → Forecasts counts t p early late (said a) e l → Forecasts counts t p early late (said b) e' l' → Same a b e e' l l'
forecasts_one a b f g = let same = same_said f g in record { answer = said_tells a b same.answer; earlies = same.earlies; lates = same.lates }

-- "The answer is settled exactly when that number is 0, and then no second stable assignment exists."
pub settled : (s : Snapshot) (p : ℕ) → Valid s → p < length s.prefixes → (e l : List ℕ) → Between (mesh s p) e l
    → ((differing_of (mesh s p) e l).number ≡ 0) ↔ Only (mesh s p)
settled s p v m e l b = settled_only (mesh s p) (sound v p m) e l b
