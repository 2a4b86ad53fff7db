-- The promise of applying a policy determines its answer and every table.
use Rattle.std.specs.Prelude.{◌≡◌, refl, List, [], ℕ, Result}
use Rattle.std.proofs.Common.{ap}
use Rattle.std.proofs.Math.Facts.{T_not}
use Rattle.refusal.specs.Numbers.{Said}
use Rattle.refusal.specs.declared.Refused.{Refused}
use Rattle.refusal.proofs.NumbersLaws.{answer_tells}
use Rattle.snapshot.specs.declared.Counts.{Counts}
use Rattle.snapshot.specs.Ranges.{any_of}
use Rattle.snapshot.specs.Format.{Snapshot}
use Rattle.snapshot.specs.Tables.{Tables, short}
use Rattle.snapshot.proofs.TablesLaws.{has_room}
use Rattle.tables.specs.Theorems.{held_one}
use Rattle.policy.specs.Reading.{reading}
use Rattle.apply.specs.Applying.{said, left, Applies, room, unheld, read}

-- an answer is told by its number and values
said_tells : (a b : Result (Unit {0}) Refused) → said a ≡ said b → a ≡ b
said_tells = answer_tells (λ _. []) (λ t u e. refl)

module _ {counts : Counts} {t : Tables} {bs : List ℕ} where
  pub same : {x y : Said} {u v : Tables} → Applies counts t bs x u → Applies counts t bs y v → (x ≡ y) × (u ≡ v)
  same (room h) (room k) = (refl, refl)
  same (room h) (unheld k f) = absurd (T_not (any_of (short t)) h k)
  same (room h) (read k s v w) = absurd (T_not (any_of (short t)) h k)
  same (unheld h f) (room k) = absurd (T_not (any_of (short t)) k h)
  same (unheld h f) (unheld k g) = (refl, refl)
  same (unheld h f) (read k s v w) = absurd (f (record { snapshot = s; valid = v; held = w }))
  same (read h s v w) (room k) = absurd (T_not (any_of (short t)) k h)
  same (read h s v w) (unheld k f) = absurd (f (record { snapshot = s; valid = v; held = w }))
  same (read h s v w) (read k u x y) = (refl, ap (λ (q : Snapshot). left (reading bs) q t) (held_one (has_room t h) v w x y))

  -- "that any two results meeting it are equal is proved"
  pub applies_one : (a b : Result (Unit {0}) Refused) {u v : Tables} → Applies counts t bs (said a) u → Applies counts t bs (said b) v → (a ≡ b) × (u ≡ v)
  applies_one a b p q = let (e, f) = same p q in (said_tells a b e, f)
