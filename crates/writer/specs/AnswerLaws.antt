-- What an answer of writing tells: its numbers tell which it is, and where it wrote, what stands in the output.
use Rattle.std.specs.Prelude.{ℕ, ◌≤◌, ◌≡◌, refl, List, [], ◌∷◌, length, take, drop, T, Result}
use Rattle.std.proofs.Common.{arith, sym, ap, ◌∙◌}
use Rattle.std.proofs.lemmas.List.Edits.{sets}
use Rattle.std.proofs.Math.Seq.{take-append_seam}
use Rattle.std.proofs.Math.Facts.{T_not}
use Rattle.refusal.specs.Numbers.{Said}
use Rattle.refusal.specs.declared.Refused.{Refused}
use Rattle.refusal.proofs.NumbersLaws.{value, answer_tells}
use Rattle.model.proofs.ColumnLaws.{sets_front}
use Rattle.snapshot.specs.declared.Counts.{Counts}
use Rattle.snapshot.specs.Ranges.{any_of, none}
use Rattle.snapshot.specs.Format.{Snapshot, encode, Valid}
use Rattle.snapshot.specs.Tables.{Tables, short, Held}
use Rattle.snapshot.proofs.TablesLaws.{has_room}
use Rattle.tables.specs.Theorems.{held_one}
use Rattle.writer.specs.Writing.{wrote, said, Writes, room, unheld, full, done}

-- the numbers tell the answer
pub said_tells : (a b : Result ℕ Refused) → said a ≡ said b → a ≡ b
said_tells = answer_tells (λ n. n ∷ []) (λ n m e. ap (λ (s : Said). value s 0) e)

-- any two results say the same and leave the same
module _ {counts : Counts} {t : Tables} {before : List ℕ} where
  pub same : {p q : Said} {x y : List ℕ} → Writes counts t before p x → Writes counts t before q y → (p ≡ q) × (x ≡ y)
  same (room h) (room k) = (refl, refl)
  same (room h) (unheld n f) = absurd (T_not (any_of (short t)) h n)
  same (room h) (full n s v k l) = (refl, refl)
  same (room h) (done n s v k l) = absurd (T_not (any_of (short t)) h n)
  same (unheld n f) (room h) = absurd (T_not (any_of (short t)) h n)
  same (unheld n f) (unheld m g) = (refl, refl)
  same (unheld n f) (full m s v h l) = absurd (f (record { snapshot = s; valid = v; held = h }))
  same (unheld n f) (done m s v h l) = absurd (f (record { snapshot = s; valid = v; held = h }))
  same (full n s v k l) (room h) = (refl, refl)
  same (full m s v h l) (unheld n f) = absurd (f (record { snapshot = s; valid = v; held = h }))
  same (full n s v h l) (full m u w k j) = (refl, refl)
  same (full n s v h l) (done m u w k j) =
      absurd (let e = ap (λ (s : Snapshot). length (encode s)) (held_one (has_room t n) v h w k) in omega arith)
  same (done n s v k l) (room h) = absurd (T_not (any_of (short t)) h n)
  same (done m s v h l) (unheld n f) = absurd (f (record { snapshot = s; valid = v; held = h }))
  same (done n s v h l) (full m u w k j) =
      absurd (let e = ap (λ (s : Snapshot). length (encode s)) (held_one (has_room t n) v h w k) in omega arith)
  same (done n s v h l) (done m u w k j) =
      let e = held_one (has_room t n) v h w k in
      (ap (λ (s : Snapshot). wrote (length (encode s))) e, ap (λ (s : Snapshot). sets before 0 (encode s)) e)

-- the bytes written are those of a snapshot, which is the one that counts and tables hold
pub written_back : {counts : Counts} {t : Tables} {before after : List ℕ} {q : Said} (n : ℕ) → Writes counts t before q after → q ≡ wrote n
    → (s : Snapshot) × T (none (short t)) × Valid s × Held counts t s × (take n after ≡ encode s) × (n ≤ length before)
written_back n (room h) e = absurd (let z : 1 ≡ 0 = ap (λ (q : Said). q.number) e in omega arith)
written_back n (unheld m f) e = absurd (let z : 11 ≡ 0 = ap (λ (q : Said). q.number) e in omega arith)
written_back n (full m s v h l) e = absurd (let z : 1 ≡ 0 = ap (λ (q : Said). q.number) e in omega arith)
written_back {before} n (done m s v h l) e = (
  s,
  m,
  v,
  h,
  ap (λ (k : ℕ). take k (sets before 0 (encode s))) (sym (ap (λ (q : Said). value q 0) e))
      ∙ ap (take (length (encode s))) (sets_front before (encode s) l)
      ∙ take-append_seam (encode s) (drop (length (encode s)) before),
  omega (arith, ap (λ (q : Said). value q 0) e),
)
