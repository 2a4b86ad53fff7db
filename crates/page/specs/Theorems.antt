-- What is proved of the promise of the printed forecast, each theorem under the sentence of document 01 that it makes true.
use Rattle.std.specs.Prelude.{ℕ, ◌<◌, ◌≡◌, ◌↔◌, List, ◌++◌, T, length, Result}
use Rattle.std.proofs.Common.{ap}
use Rattle.std.proofs.Math.Pow.{are_bytes}
use Rattle.refusal.specs.declared.Refused.{Refused}
use Rattle.model.specs.Stability.{Between, Only, differing}
use Rattle.model.proofs.Theorems.{settled_only}
use Rattle.snapshot.specs.Format.{Snapshot}
use Rattle.snapshot.specs.Reading.{accepted, reading}
use Rattle.snapshot.specs.Tables.{mesh}
use Rattle.snapshot.proofs.Theorems.{accepts}
use Rattle.tables.specs.Theorems.{sound}
use Rattle.text.specs.Text.{ascii, decimal}
use Rattle.lines.specs.Lines.{dotted, prefix_line}
use Rattle.page.specs.Page.{field_of, said, Renders}
use Rattle.page.specs.AnswerLaws.{said_tells, same_said, line_zero}

-- "Each public call's promise determines its result and the later contents of everything it was lent, for all inputs and refusals"
pub renders_one : (bs : List ℕ) → T (are_bytes bs) → (a b : Result ℕ Refused) {out x y : List ℕ} → Renders bs out (said a) x → Renders bs out (said b) y → (a ≡ b) × (x ≡ y)
renders_one bs bytes a b p q = let (e, f) = same_said bs bytes p q in (said_tells a b e, f)

-- the line with which the text of a prefix begins, for these early and late rows
abbrev pub line_of : Snapshot → ℕ → List ℕ → List ℕ → List ℕ
line_of s p early late = prefix_line (field_of (λ q. q.address) s p) (field_of (λ q. q.bits) s p) (length (differing (mesh s p) early late))

-- the line with the word `settled`
abbrev pub settled_line : Snapshot → ℕ → List ℕ
settled_line s p =
    ascii "prefix " ++ dotted (field_of (λ q. q.address) s p) ++ (ascii "/" ++ decimal (field_of (λ q. q.bits) s p)) ++ ascii " settled" ++ ascii "\n"

-- "Then for each prefix in order its line: the prefix, then `settled`, or `open` and the number of routers that differ": `settled` is
-- printed exactly when there is only one stable assignment.
pub settled_line_lem : (bs : List ℕ) → T (are_bytes bs) → (s : Snapshot) → reading bs ≡ accepted s → (p : ℕ) → p < length s.prefixes
    → (e l : List ℕ) → Between (mesh s p) e l → (line_of s p e l ≡ settled_line s p) ↔ Only (mesh s p)
settled_line_lem bs bytes s is p below e l b =
    let known = settled_only (mesh s p) (sound ((accepts bs s bytes).0 is).1 p below) e l b in
    let address = field_of (λ q. q.address) s p in
    let bits = field_of (λ q. q.bits) s p in
    (λ line. known.0 (line_zero address bits (length (differing (mesh s p) e l)) line), λ only. ap (prefix_line address bits) (known.1 only))
