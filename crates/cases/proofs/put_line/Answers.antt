use Rattle.std.proofs.Common.{ℕ, arith, sym, ap, ◌∙◌}
use Rattle.text.specs.TextLaws.{puts_then, puts_as}
use Rattle.lines.specs.Lines.{refused_line}
use Rattle.cases.specs.Cases.{finding_line}
use Rattle.cases.proofs.put_line.Goals as goal

pub returns-in-Ok-clause-puts : goal.returns-in-Ok-clause-puts
returns-in-Ok-clause-puts c =
    record { puts = puts_then (puts_then c.put_text.ensures c.put_text-2.ensures) (puts_as c.put_accepted.ensures.puts (ap finding_line (sym c.in-Ok.is ∙ c.examined.ensures.finds))); short = omega arith }

pub returns-in-Err-clause-puts : goal.returns-in-Err-clause-puts
returns-in-Err-clause-puts c =
    record { puts = puts_then (puts_then c.put_text.ensures c.put_text-2.ensures) (puts_as c.put_refused.ensures.puts (ap (λ (n : ℕ). refused_line n c.in-Err.e.place) c.number.ensures ∙ ap finding_line (sym c.in-Err.is ∙ c.examined.ensures.finds))); short = omega arith }
