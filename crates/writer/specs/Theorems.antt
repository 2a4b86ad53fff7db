-- The promise of writing determines its answer and the output.
use Rattle.std.specs.Prelude.{◌≡◌, List, ℕ, Result}
use Rattle.snapshot.specs.declared.Counts.{Counts}
use Rattle.snapshot.specs.Tables.{Tables}
use Rattle.refusal.specs.declared.Refused.{Refused}
use Rattle.writer.specs.Writing.{said, Writes}
use Rattle.writer.specs.AnswerLaws.{said_tells, same}

-- Any two results that meet the promise are equal.
pub writes_one : {counts : Counts} {t : Tables} {before : List ℕ} {a b : Result ℕ Refused} {x y : List ℕ}
    → Writes counts t before (said a) x → Writes counts t before (said b) y → (a ≡ b) × (x ≡ y)
writes_one {a} {b} p q = let (e, f) = same p q in (said_tells a b e, f)
