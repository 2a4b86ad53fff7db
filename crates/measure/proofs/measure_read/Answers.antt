-- What reading leaves in the lent tables. Assumes nothing.
use Rattle.std.proofs.Common.{◌∙◌, ap, [], ◌∷◌, rules}
use Rattle.refusal.specs.Numbers.{Said}
use Rattle.measure.specs.MeasureLaws.{lent_in, number_alone}
use Rattle.measure.proofs.measure_read.Goals as goal

pub returns : goal.returns
returns c = record {
  tables = lent_in c.read_snapshot.new.tables (search rules) (search rules) (search rules) (search rules) (search rules) (search rules) (search rules)
      (search rules) (search rules) (search rules) (search rules) (search rules) (search rules) (search rules) ∙ c.read_snapshot.ensures.read.1;
  number = c.refusal_number.ensures ∙ number_alone (λ n. n.routers ∷ n.prefixes ∷ n.routes ∷ []) c.read_snapshot.result ∙ ap (λ (s : Said). s.number) c.read_snapshot.ensures.read.0;
}
