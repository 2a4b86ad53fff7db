use Rattle.decide.specs.DecideLaws.{decided}
use Rattle.decide.proofs.decided.Goals as goal

pub returns : goal.returns
returns c = decided _ c.forecast_rows.ensures c.differing-bits.ensures c.ones.ensures
