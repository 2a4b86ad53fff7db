-- The promise of the public call determines its answer and every table.
use Rattle.std.specs.Prelude.{ℕ, ◌≡◌, List, Result}
use Rattle.std.proofs.Common.{sym, ◌∙◌}
use Rattle.snapshot.specs.Tables.{Tables}
use Rattle.refusal.specs.declared.Refused.{Refused}
use Rattle.snapshot.specs.declared.Counts.{Counts}
use Rattle.scan.specs.Scan.{said}
use Rattle.scan.specs.Theorems.{said_tells}
use Rattle.reader.specs.Read.{read_answer, read_tables}

-- "that any two results meeting it are equal is proved"
pub unique : (bs : List ℕ) (t : Tables) (r q : Result Counts Refused) (u v : Tables)
    → (said r ≡ read_answer bs t) × (u ≡ read_tables bs t) → (said q ≡ read_answer bs t) × (v ≡ read_tables bs t) → (r ≡ q) × (u ≡ v)
unique bs t r q u v a b = (said_tells r q (a.0 ∙ sym b.0), a.1 ∙ sym b.1)
