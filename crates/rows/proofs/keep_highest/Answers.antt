use Rattle.std.proofs.Common.{ℕ, rules, ap, ◌∙◌, eqb}
use Rattle.model.specs.Rows.{keep}
use Rattle.model.proofs.ListLaws.{packed_is}
use Rattle.rows.proofs.keep_highest.Goals as goal

pub keep-requires : goal.keep-requires
keep-requires g c = record { each = λ i l. let h = c.requires.each i l in search rules }

pub returns : goal.returns
returns g c = λ k h.
    packed_is
    (c.keep.ensures (λ q. eqb (k q) c.greatest_key-high.result) (record { each = λ i l a p. p.2 ∙ ap (λ (v : ℕ). eqb v c.greatest_key-high.result) (h.each i l p.0 p.1) }))
    (ap (λ (value : ℕ). keep (λ q. eqb (k q) value) c.args.rows.now) (c.greatest_key-high.ensures k h))
