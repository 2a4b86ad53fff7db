-- What the code counts of the rows is what their number says.
use Rattle.std.specs.Prelude.{ℕ, ◌≡◌, List, length}
use Rattle.std.proofs.Common.{ap, ap₂, ◌∙◌}
use Rattle.std.specs.Int.Count.{ones}
use Rattle.word.specs.Word.{word, differs, differing_in}
use Rattle.word.specs.WordLaws.{ones_word}
use Rattle.model.specs.Rows.{keep, span, table}
use Rattle.model.specs.Decision.{Mesh, choice}
use Rattle.model.specs.Stability.{available, differing}
use Rattle.model.specs.Contest.{early, late, at_place, earliest, contest}
use Rattle.model.specs.Columns.{ForecastRows}
use Rattle.model.proofs.RowLaws.{table_length}
use Rattle.decide.specs.Decide.{Decided}

-- what the code counts of the rows of a mesh
pub decided : (M : Mesh) {e l : List ℕ} {bits number : ℕ} → ForecastRows M e l → bits ≡ word (differing_in e l) → number ≡ ones bits
    → Decided M (record { word = bits; number = number }) e l
decided M {e} {l} {bits} {number} rows w o = record {
  early_rows = rows.early_rows;
  late_rows = rows.late_rows;
  differs = ap₂ (λ (x y : ℕ). record { word = x; number = y }) (w ∙ ap word same) (o ∙ ap ones w ∙ ones_word (differs e l) (length e) ∙ ap length same);
}
  where
    size : length e ≡ M.routers
    size = ap length rows.early_rows ∙ table_length M.routers (λ r. choice M r (available M (table M.routers (at_place M (earliest (contest M)))) r))

    same : differing_in e l ≡ differing M (early M) (late M)
    same = ap (λ (n : ℕ). keep (differs e l) (span 0 n)) size ∙ ap₂ (λ (x y : List ℕ). differing M x y) rows.early_rows rows.late_rows
