-- "Each public call's promise determines its result and the later contents of everything it was lent, for all inputs and refusals":
-- the number that each call answers, and everything lent to it.
use Rattle.std.specs.Prelude.{ℕ, ◌≡◌, List}
use Rattle.std.proofs.Common.{sym, ap, ◌∙◌}
use Rattle.refusal.specs.Numbers.{Said}
use Rattle.snapshot.specs.Tables.{Tables}
use Rattle.writer.specs.AnswerLaws as writing
use Rattle.outlook.specs.AnswerLaws as forecasting
use Rattle.apply.specs.Theorems as applying
use Rattle.outlook.specs.AnswerLaws.{Same}
use Rattle.measure.specs.Measure.{Reads, Writes, Forecasts, Policies, write_number, outlook_number}

pub reads_one : {bs : List ℕ} {before u v : Tables} {r q : ℕ} → Reads bs before u r → Reads bs before v q → (r ≡ q) × (u ≡ v)
reads_one a b = (a.number ∙ sym b.number, a.tables ∙ sym b.tables)

module _ {routers prefixes routes : ℕ} {t : Tables} where
  pub writes_one : {out x y : List ℕ} {r q : ℕ}
      → Writes routers prefixes routes t out x r → Writes routers prefixes routes t out y q → (r ≡ q) × (x ≡ y)
  writes_one a b =
      let (e, f) = writing.same a.writes b.writes in
      (a.number ∙ ap write_number e ∙ sym b.number, f)

  pub forecasts_one : {p : ℕ} {early late e l e' l' : List ℕ} {r q : ℕ}
      → Forecasts routers prefixes routes t p early late e l r → Forecasts routers prefixes routes t p early late e' l' q → Same r q e e' l l'
  forecasts_one a b =
      let same = forecasting.same_said a.forecasts b.forecasts in
      record { answer = a.number ∙ ap outlook_number same.answer ∙ sym b.number; earlies = same.earlies; lates = same.lates }

  pub policies_one : {policy : List ℕ} {u v : Tables} {r q : ℕ}
      → Policies routers prefixes routes t policy u r → Policies routers prefixes routes t policy v q → (r ≡ q) × (u ≡ v)
  policies_one a b =
      let (e, f) = applying.same a.applies b.applies in
      (a.number ∙ ap (λ (s : Said). s.number) e ∙ sym b.number, f)
