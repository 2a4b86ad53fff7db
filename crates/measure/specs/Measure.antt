-- What the benchmarks' calls answer: the library's answers, as one number each.
use Rattle.std.specs.Prelude.{ℕ, ◌+◌, ◌≡◌, cond, List, eqb, get_or}
use Rattle.refusal.specs.Numbers.{Said}
use Rattle.snapshot.specs.declared.Counts.{Counts}
use Rattle.snapshot.specs.Tables.{Tables}
use Rattle.reader.specs.Read.{read_answer, read_tables}
use Rattle.writer.specs.Writing as writing
use Rattle.outlook.specs.Outlook as forecasting
use Rattle.apply.specs.Applying as applying

-- what reading answers, its number alone, and leaves
pub record Reads (bs : List ℕ) (before after : Tables) (r : ℕ) : Type 0 where
  pub tables : after ≡ read_tables bs before
  pub number : r ≡ (read_answer bs before).number

-- these counts
abbrev pub counted : ℕ → ℕ → ℕ → Counts
counted routers prefixes routes = record { routers = routers; prefixes = prefixes; routes = routes }

-- the k-th of the values given, or so much plus the number of the refusal
abbrev pub value_or : ℕ → ℕ → Said → ℕ
value_or k above q = cond (eqb q.number 0) (get_or q.values k 0) (above + q.number)

-- how many bytes, or 1,000,000 plus the number of the refusal
abbrev pub write_number : Said → ℕ
write_number = value_or 0 1000000

-- what writing answers and leaves
pub record Writes (routers prefixes routes : ℕ) (t : Tables) (out₀ out₁ : List ℕ) (r : ℕ) : Type 0 where
  pub said : Said
  pub writes : writing.Writes (counted routers prefixes routes) t out₀ said out₁
  pub number : r ≡ write_number said

-- how many routers differ, or 100 plus the number of the refusal
abbrev pub outlook_number : Said → ℕ
outlook_number = value_or 1 100

-- what a forecast answers and leaves
pub record Forecasts (routers prefixes routes : ℕ) (t : Tables) (p : ℕ) (early₀ late₀ early₁ late₁ : List ℕ) (r : ℕ) : Type 0 where
  pub said : Said
  pub forecasts : forecasting.Forecasts (counted routers prefixes routes) t p early₀ late₀ said early₁ late₁
  pub number : r ≡ outlook_number said

-- what a policy's call answers, its number alone, and leaves
pub record Policies (routers prefixes routes : ℕ) (before : Tables) (policy : List ℕ) (after : Tables) (r : ℕ) : Type 0 where
  pub said : Said
  pub applies : applying.Applies (counted routers prefixes routes) before policy said after
  pub number : r ≡ said.number
