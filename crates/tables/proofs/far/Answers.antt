-- All distances are looked at. Assumes nothing.
use Rattle.std.proofs.Common.{◌∙◌, ap, ltb, rules}
use Rattle.model.specs.Rows.{some}
use Rattle.snapshot.specs.Limits.{farthest}
use Rattle.tables.specs.ListsLaws.{some_over}
use Rattle.tables.proofs.far.Goals as goal

pub returns : goal.returns
returns c = some_over (ltb farthest) c.iter.result c.fold.ensures.ran (λ found distance next f called. search rules) ∙ ap (some (ltb farthest)) c.iter.ensures.rest
