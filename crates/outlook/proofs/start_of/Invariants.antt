use Rattle.std.proofs.Common.{◌≡◌}
use Rattle.model.specs.Rows.{start}
use Rattle.outlook.proofs.start_of.Given as goal

-- the routes of the prefixes so far
abbrev pub invariant-loop-many : goal.invariant-loop-many
invariant-loop-many l = l.sum ≡ start l.routes l.many-index
