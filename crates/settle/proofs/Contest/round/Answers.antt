-- The lowest MED of what is passed tells where each router goes, since no MED is above what the table starts with.
use Rattle.std.proofs.Common.{ℕ, List, eqb, length, ap, ◌∙◌}
use Rattle.std.proofs.Math.ListN.{get_or-replicate}
use Rattle.model.specs.Rows.{keep, column}
use Rattle.model.specs.Contest.{least_or}
use Rattle.model.specs.Columns.{most_rows, past_keys}
use Rattle.model.specs.Listing.{own_places, passed_rows}
use Rattle.model.proofs.RoundLaws.{round_low}
use Rattle.settle.proofs.Contest.round.Goals as goal

pub returns-clause-places : goal.returns-clause-places
returns-clause-places c =
    let t = c.args.self.now in
    let seen = passed_rows (own_places t.ends.now) c.args.state.now (length t.ends.now) in
    c.advance.ensures.places
    ∙ round_low t.ready c.args.state.now c.pass.new.low t.meds_fit
    (λ k l. c.pass.ensures k
    ∙ ap (λ (past : ℕ). least_or past (column t.med.now) (keep (λ q. eqb (column t.group.now q) k) seen))
    (ap (λ (low : List ℕ). column low k) c.past-low.ensures ∙ get_or-replicate most_rows k past_keys 0 l))
