use Rattle.std.proofs.Common.{sym, ap, Result}
use Rattle.refusal.specs.declared.Refused.{Refused}
use Rattle.snapshot.specs.declared.Counts.{Counts}
use Rattle.snapshot.specs.Lent.{tables_of}
use Rattle.text.specs.TextLaws.{puts_as, puts_then}
use Rattle.page.specs.Lent.{lent_page}
use Rattle.page.proofs.put_read.Goals as goal

-- the page of the answer that was read is that of its counts
pub returns-in-Ok : goal.returns-in-Ok
returns-in-Ok c =
    puts_as (puts_then c.put_heading.ensures.puts c.put_prefixes.ensures.puts)
    (ap (λ (r : Result Counts Refused). lent_page r (tables_of c.args.tables.now)) (sym c.in-Ok.is))
