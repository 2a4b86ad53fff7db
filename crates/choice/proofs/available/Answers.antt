-- All rows are listed, and then those that are offered are kept.
use Rattle.std.proofs.Common.{ℕ, ◌≡◌, ◌<◌, List, rules, arith, length, ap, ◌∙◌, eqb, get_or, ◌||◌}
use Rattle.model.specs.Rows.{column, span, keep}
use Rattle.model.specs.Decision.{none}
use Rattle.model.proofs.RowLaws.{length_span}
use Rattle.model.proofs.ListLaws.{span_at, packed_front, front_is}
use Rattle.choice.proofs.available.Goals as goal

pub keep-requires : goal.keep-requires
keep-requires c = record {
  each = λ i l.
      let m : i < length c.args.router.now = omega (arith, ap length c.keep_all.ensures, length_span 0 (length c.args.rows.now)) in
      let e : column c.keep_all.new.rows i ≡ i = ap (λ (rows : List ℕ). column rows i) c.keep_all.ensures ∙ span_at (length c.args.rows.now) i (omega arith) in
      λ κs _ _ _ _ _ _ _ _. rw e (m, c.requires.2 i m);
}

pub returns : goal.returns
returns c =
    let t = λ (q : ℕ). eqb (column c.args.router.now q) c.args.r || eqb (get_or c.args.held.now (column c.args.router.now q) none) q in
    front_is (packed_front (c.keep.ensures t (record { each = λ i l b p. search rules })))
    (ap (keep t) c.keep_all.ensures ∙ ap (λ (n : ℕ). keep t (span 0 n)) c.requires.1)
