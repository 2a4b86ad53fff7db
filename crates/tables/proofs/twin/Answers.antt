-- All ids are looked at. Assumes nothing.
use Rattle.std.proofs.Common.{◌∙◌, ap, eqb, rules}
use Rattle.model.specs.Rows.{some}
use Rattle.tables.specs.ListsLaws.{some_over}
use Rattle.tables.proofs.twin.Goals as goal

pub returns : goal.returns
returns c = some_over (eqb c.args.id) c.iter.result c.fold.ensures.ran (λ found id next f called. search rules) ∙ ap (some (eqb c.args.id)) c.iter.ensures.rest
