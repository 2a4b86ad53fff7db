use Rattle.std.proofs.Common.{ℕ, rules, ap, ◌∙◌, sym, eqb}
use Rattle.model.specs.Rows.{keep}
use Rattle.model.specs.Columns.{past_keys}
use Rattle.model.proofs.ListLaws.{packed_is}
use Rattle.rows.proofs.KeepLaws.{keep_least_is}
use Rattle.rows.proofs.keep_lowest.Goals as goal

pub keep-requires : goal.keep-requires
keep-requires g c = record { each = λ i l. let h = c.requires.each i l in search rules }

pub returns : goal.returns
returns g c = λ k h.
    let low = c.least_key-low.ensures k h in
    let kept = c.keep.ensures (λ q. eqb (k q) c.least_key-low.result) (record { each = λ i l a p. p.2 ∙ ap (λ (v : ℕ). eqb v c.least_key-low.result) (h.each i l p.0 p.1) }) in
    packed_is kept (ap (λ (value : ℕ). keep (λ q. eqb (k q) value) c.args.rows.now) low.0 ∙ sym (keep_least_is past_keys k c.args.rows.now low.1))
