-- Each way out is a law of ApplyLaws.antt.
use Rattle.std.proofs.Common.{refl, subst}
use Rattle.std.proofs.lemmas.Result.{err_from_is_err_and}
use Rattle.wire.specs.NumbersLaws.{slice_bytes}
use Rattle.refusal.specs.Numbers.{number_of}
use Rattle.snapshot.specs.Tables.{Tables}
use Rattle.tables.specs.Judging.{Verdicts}
use Rattle.tables.specs.Theorems.{verdict_good}
use Rattle.passes.specs.Passes.{rewrite_tables}
use Rattle.apply.specs.ApplyLaws.{applies_no, applies_refused, applies_lent, applies_few, applies_done}
use Rattle.apply.proofs.apply_policy.Goals as goal

pub returns-in-Err-clause-rewritten : goal.returns-in-Err-clause-rewritten
returns-in-Err-clause-rewritten c =
    let r = c.in-Err.refusal in
    applies_no c.args.counts (rewrite_tables c.args.tables.now) c.args.policy.now r (subst (λ (t : Tables). Verdicts c.args.counts t (number_of r)) c.view.ensures c.in-Err.ensures)

pub returns-in_err-judge-clause-rewritten : goal.returns-in_err-judge-clause-rewritten
returns-in_err-judge-clause-rewritten c =
    let v = verdict_good (subst (λ (t : Tables). Verdicts c.args.counts t 0) c.view.ensures c.in_default.ensures) refl in
    let p = err_from_is_err_and c.from_residual.result c.from_residual.ensures.1 in
    rw (p.1, p.2) (applies_refused c.args.counts (rewrite_tables c.args.tables.now) c.args.policy.now v.0 v.1 c.in_err-judge.field-0.0 c.in_err-judge.ensures)

pub apply-requires-clause-lent : goal.apply-requires-clause-lent
apply-requires-clause-lent c =
    let v = verdict_good (subst (λ (t : Tables). Verdicts c.args.counts t 0) c.view.ensures c.in_default.ensures) refl in
    applies_lent c.args.counts (rewrite_tables c.args.tables.now) c.args.policy.now v.0 v.1

pub apply-requires-clause-few : goal.apply-requires-clause-few
apply-requires-clause-few c =
    let v = verdict_good (subst (λ (t : Tables). Verdicts c.args.counts t 0) c.view.ensures c.in_default.ensures) refl in
    applies_few c.args.counts (rewrite_tables c.args.tables.now) c.args.policy.now v.0 v.1

pub returns-clause-rewritten : goal.returns-clause-rewritten
returns-clause-rewritten c =
    let v = verdict_good (subst (λ (t : Tables). Verdicts c.args.counts t 0) c.view.ensures c.in_default.ensures) refl in
    let bytes = slice_bytes c.args.policy.now (λ k. (c.type_inv.policy k).fits) in
    applies_done c.args.counts (rewrite_tables c.args.tables.now) c.args.policy.now v.0 v.1 bytes c.in_ok-judge.ensures c.apply.ensures.rewritten
