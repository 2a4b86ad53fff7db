-- What is proved of the promises of the host calls, each theorem under the sentence of document 01 that it makes true.
use Rattle.std.specs.Prelude.{ℕ, ◌≤◌, ◌<◌, ◌≡◌, refl, ◌↔◌, List, length, T}
use Rattle.std.proofs.Common.{arith, sym, ap, ap₂, ◌∙◌, subst}
use Rattle.std.proofs.lemmas.List.Edits.{sets}
use Rattle.std.proofs.Math.Pow.{are_bytes}
use Rattle.refusal.specs.declared.Refusal.{Refusal}
use Rattle.model.specs.Stability.{Between, Only, differing}
use Rattle.model.proofs.Theorems.{pair_determined, settled_only}
use Rattle.snapshot.specs.Format.{Snapshot, Valid}
use Rattle.snapshot.proofs.ChecksLaws.{refused_not_accepted, accepted_injective}
use Rattle.snapshot.specs.Reading.{Answer, accepted, refused, reading}
use Rattle.snapshot.proofs.Theorems.{accepts}
use Rattle.snapshot.specs.Tables.{mesh}
use Rattle.tables.specs.Theorems.{sound}
use Rattle.reader.specs.TakenLaws.{one_refused}
use Rattle.revise.specs.Revising.{revised_answer, revised_out}
use Rattle.host.specs.Host.{area_bytes, refusal_code, rows_bytes, Answers, room, unread, no_prefix, given}

-- no bytes are both accepted and refused
apart : {a : Answer} {s : Snapshot} {r : Refusal} {at : ℕ} → a ≡ accepted s → a ≡ refused r at → ⊥
apart e f = refused_not_accepted (sym f ∙ e)

one_snapshot : {a : Answer} {s u : Snapshot} → a ≡ accepted s → a ≡ accepted u → u ≡ s
one_snapshot e f = accepted_injective (sym f ∙ e)

-- what is read from bytes is valid
valid_read : (bs : List ℕ) {s : Snapshot} → T (are_bytes bs) → reading bs ≡ accepted s → Valid s
valid_read bs {s} bytes e = ((accepts bs s bytes).0 e).1

-- the same number and the same area
pub record Same (r q : ℕ) (a b : List ℕ) : Type 0 where
  pub number : r ≡ q
  pub area : a ≡ b

module _ (bs : List ℕ) (bytes : T (are_bytes bs)) {p : ℕ} {area : List ℕ} where
  -- "Each public call's promise determines its result and the later contents of everything it was lent, for all inputs and refusals"
  pub answers_one : {r q : ℕ} {a b : List ℕ} → Answers bs p area r a → Answers bs p area q b → Same r q a b
  answers_one (room h) (room k) = record { number = refl; area = refl }
  answers_one (room h) (unread k r at e) = absurd (omega arith)
  answers_one (room h) (no_prefix k s e m) = absurd (omega arith)
  answers_one (room h) (given k s e m x y b) = absurd (omega arith)
  answers_one (unread h r at e) (room k) = absurd (omega arith)
  answers_one (unread h r at e) (unread k q place f) = record { number = ap refusal_code (one_refused e f).0; area = refl }
  answers_one (unread h r at e) (no_prefix k s f m) = absurd (apart f e)
  answers_one (unread h r at e) (given k s f m x y b) = absurd (apart f e)
  answers_one (no_prefix h s e m) (room k) = absurd (omega arith)
  answers_one (no_prefix h s e m) (unread k r at f) = absurd (apart e f)
  answers_one (no_prefix h s e m) (no_prefix k u f o) = record { number = refl; area = refl }
  answers_one (no_prefix h s e m) (given k u f o x y b) = absurd (let same = ap (λ (z : Snapshot). length z.prefixes) (one_snapshot e f) in omega arith)
  answers_one (given h s e m x y b) (room k) = absurd (omega arith)
  answers_one (given h s e m x y b) (unread k r at f) = absurd (apart e f)
  answers_one (given h s e m x y b) (no_prefix k u f o) = absurd (let same = ap (λ (z : Snapshot). length z.prefixes) (one_snapshot e f) in omega arith)
  answers_one (given h s e m x y b) (given k u f o x' y' b') =
      let same = one_snapshot e f in
      let there : Between (mesh s p) x' y' = subst (λ (z : Snapshot). Between (mesh z p) x' y') same b' in
      let pair = pair_determined (mesh s p) (sound (valid_read bs bytes e) p m) x y x' y' b there in
      record {
        number = ap₂ (λ (i j : List ℕ). length (differing (mesh s p) i j)) pair.0 pair.1
            ∙ ap (λ (z : Snapshot). length (differing (mesh z p) x' y')) (sym same);
        area = ap₂ (λ (i j : List ℕ). sets area 0 (rows_bytes (mesh s p) i j)) pair.0 pair.1
            ∙ ap (λ (z : Snapshot). sets area 0 (rows_bytes (mesh z p) x' y')) (sym same);
      }

  -- "The number returned is 0 for settled, 1 to 64 for open": where nothing is refused, 0 is returned exactly when there is only one
  -- stable assignment.
  pub answers_settled : {r : ℕ} {a : List ℕ} → Answers bs p area r a → area_bytes ≤ length area → (s : Snapshot) → reading bs ≡ accepted s → p < length s.prefixes
      → (r ≡ 0) ↔ Only (mesh s p)
  answers_settled (room h) k s e m = absurd (omega arith)
  answers_settled (unread h r at f) k s e m = absurd (apart e f)
  answers_settled (no_prefix h u f o) k s e m = absurd (let same = ap (λ (z : Snapshot). length z.prefixes) (one_snapshot e f) in omega arith)
  answers_settled (given h u f o x y b) k s e m =
      subst (λ (z : Snapshot). (length (differing (mesh u p) x y) ≡ 0) ↔ Only (mesh z p)) (one_snapshot e f) (settled_only (mesh u p) (sound (valid_read bs bytes f) p o) x y b)

-- The policy's call is determined too: number and output.
pub policy_one : (snapshot policy out : List ℕ) {r q : ℕ} {a b : List ℕ}
    → (r ≡ (revised_answer snapshot policy out).number) × (a ≡ revised_out snapshot policy out)
    → (q ≡ (revised_answer snapshot policy out).number) × (b ≡ revised_out snapshot policy out) → Same r q a b
policy_one snapshot policy out x y = record { number = x.0 ∙ sym y.0; area = x.1 ∙ sym y.1 }
