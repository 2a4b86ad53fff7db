-- What applying leaves in the lent tables. Assumes nothing.
use Rattle.std.proofs.Common.{subst, rules}
use Rattle.apply.specs.Applying.{said, Applies}
use Rattle.measure.specs.Measure.{counted}
use Rattle.measure.specs.MeasureLaws.{rewritten_in}
use Rattle.measure.proofs.measure_policy.Goals as goal

pub returns : goal.returns
returns c = record {
  said = said c.apply_policy.result;
  applies = subst (Applies (counted c.args.routers c.args.prefixes c.args.of_routes) _ c.args.policy.now (said c.apply_policy.result))
      (rewritten_in c.apply_policy.ensures.kept (search rules) (search rules) (search rules)) c.apply_policy.ensures.rewritten;
  number = c.refusal_number.ensures;
}
