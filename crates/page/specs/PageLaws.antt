-- What the code puts on the page is the text of the forecast.
use Rattle.std.specs.Prelude.{ℕ, ◌≤◌, ◌<◌, ◌≡◌, ◌⊎◌, List, length, get_or, take, drop}
use Rattle.std.proofs.Common.{arith, sym, ap, ap₂, subst, ◌∙◌, inl, inr, take_at}
use Rattle.std.proofs.lemmas.List.Edits.{sets}
use Rattle.model.specs.Rows.{table}
use Rattle.model.proofs.RowLaws.{first_cases, table_at, table_length}
use Rattle.model.proofs.ColumnLaws.{sets_front}
use Rattle.model.specs.Decision.{Mesh, none, decided, choice}
use Rattle.model.proofs.DecisionLaws.{in_all, decided_in}
use Rattle.model.specs.Stability.{available, differing}
use Rattle.model.proofs.StabilityLaws.{available_all}
use Rattle.model.specs.Contest.{early, late, at_place, holding, earliest, latest, contest}
use Rattle.decide.specs.declared.Differing.{Differing}
use Rattle.outlook.specs.Outlook.{Shown}
use Rattle.page.specs.Page.{block}
use Rattle.page.specs.Lent.{Rows, decided_text}

-- ---- rows that are held

module _ (M : Mesh) (x : List ℕ) where
  abbrev own : List ℕ
  own = table M.routers (at_place M x)

  pub size : length (holding M x) ≡ M.routers
  size = table_length M.routers (λ r. choice M r (available M own r))

  -- a router holds none or a row of the prefix
  pub held_row : (r : ℕ) → r < M.routers → (get_or (holding M x) r none ≡ none) ⊎ (get_or (holding M x) r none < M.rows)
  held_row r l =
      subst (λ (row : ℕ). (row ≡ none) ⊎ (row < M.rows)) (sym (table_at (λ r. choice M r (available M own r)) none M.routers r l))
      (elim (first_cases (decided M r (available M own r)) none) [
        | inl m ↦ inr (in_all M (available_all M own r (choice M r (available M own r)) (decided_in M r (available M own r) m)))
        | inr e ↦ inl e
      ])

-- ---- rows at the start of an area

front : (area rows : List ℕ) {n : ℕ} → length rows ≡ n → n ≤ length area → take n (sets area 0 rows) ≡ rows
front area rows {n} e l =
    ap (take n) (sets_front area rows (omega arith)) ∙ take_at rows (drop (length rows) area) n e

module _ (M : Mesh) {d : Differing} {early₀ early₁ late₀ late₁ : List ℕ} (shown : Shown M d early₀ early₁ late₀ late₁)
    (e : M.routers ≤ length early₀) (l : M.routers ≤ length late₀) where
  pub early_front : take M.routers early₁ ≡ early M
  early_front = ap (take M.routers) shown.early_area ∙ front early₀ (early M) (size M (earliest (contest M))) e

  pub late_front : take M.routers late₁ ≡ late M
  late_front = ap (take M.routers) shown.late_area ∙ front late₀ (late M) (size M (latest (contest M))) l

  pub early_long : length (take M.routers early₁) ≡ M.routers
  early_long = ap length early_front ∙ size M (earliest (contest M))

  pub late_long : length (take M.routers late₁) ≡ M.routers
  late_long = ap length late_front ∙ size M (latest (contest M))

  rows_of : (router : List ℕ) (held : List ℕ) (x : List ℕ) → held ≡ holding M x → length router ≡ M.rows → Rows router held
  rows_of router held x h n = record {
    row = λ r k. subst (λ (z : List ℕ). (get_or z r none ≡ none) ⊎ (get_or z r none < length router)) (sym h)
        (subst (λ (m : ℕ). (get_or (holding M x) r none ≡ none) ⊎ (get_or (holding M x) r none < m)) (sym n)
        (held_row M x r (omega (arith, ap length h, size M x))));
  }

  pub early_rows : (router : List ℕ) → length router ≡ M.rows → Rows router (take M.routers early₁)
  early_rows router = rows_of router (take M.routers early₁) (earliest (contest M)) early_front

  pub late_rows : (router : List ℕ) → length router ≡ M.rows → Rows router (take M.routers late₁)
  late_rows router = rows_of router (take M.routers late₁) (latest (contest M)) late_front

  -- the block of what the areas hold is the block of the mesh
  pub block_is : (address bits : ℕ)
      → block address bits d.number M.router (length (take M.routers early₁)) (take M.routers early₁) (take M.routers late₁) ≡ decided_text address bits M
  block_is address bits =
      ap (λ (n : ℕ). block address bits n M.router (length (take M.routers early₁)) (take M.routers early₁) (take M.routers late₁)) (ap (λ (x : Differing). x.number) shown.differs)
      ∙ ap₂ (λ (x y : List ℕ). block address bits (length (differing M (early M) (late M))) M.router (length x) x y) early_front late_front
      ∙ ap (λ (n : ℕ). block address bits (length (differing M (early M) (late M))) M.router n (early M) (late M)) (size M (earliest (contest M)))
