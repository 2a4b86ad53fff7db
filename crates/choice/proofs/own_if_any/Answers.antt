-- Where no row is the router's own, none is written.
use Rattle.std.proofs.Common.{ℕ, ◌≡◌, ◌⊎◌, inl, inr, ◌<◌, rules, arith, refl, Bool, true, false, cond, List, [], ◌∷◌, length, ap, ◌∙◌, eqb}
use Rattle.model.specs.Rows.{column, keep, some}
use Rattle.model.specs.Lent.{Front, Packed}
use Rattle.model.proofs.RowLaws.{by}
use Rattle.model.proofs.ListLaws.{packed_front, packed_is, front_all}
use Rattle.choice.proofs.own_if_any.Goals as goal

-- some member passes a test, or none is kept
some_kept : (t : ℕ → Bool) (rows : List ℕ) → (some t rows ≡ true) × (0 < length (keep t rows)) ⊎ (some t rows ≡ false) × (keep t rows ≡ [])
some_kept t [] = inr (refl, refl)
some_kept t (q ∷ rows) = by (t q) (λ e. rw e (inl (refl, omega arith))) (λ e. rw e (some_kept t rows))

module _ (t : ℕ → Bool) {n : ℕ} {rows after : List ℕ} (p : Packed n rows after (keep t rows)) where
  -- those that pass, if there are any
  kept_some : (n ≡ 0 → ⊥) → Front n after (cond (some t rows) (keep t rows) rows)
  kept_some h = elim (some_kept t rows) [
    | inl k ↦ rw k.0 (packed_front p)
    | inr k ↦ absurd (h (p.many ∙ ap length k.1))
  ]

  kept_none : n ≡ 0 → Front (length after) after (cond (some t rows) (keep t rows) rows)
  kept_none h = elim (some_kept t rows) [
    | inl k ↦ absurd (omega (arith, p.many))
    | inr k ↦ (let e = (packed_is p k.1).all in rw (k.0, e) (front_all rows))
  ]

pub keep-own-requires : goal.keep-own-requires
keep-own-requires c = record { each = λ i l. let h = c.requires.below i l in search rules }

pub returns-then-own-eq0 : goal.returns-then-own-eq0
returns-then-own-eq0 c =
    kept_none (λ q. eqb (column c.args.router.now q) c.args.r) (c.keep-own.ensures _ (record { each = λ i l b p. search rules })) c.if-own-eq0.true

pub returns-else-own-eq0 : goal.returns-else-own-eq0
returns-else-own-eq0 c =
    kept_some (λ q. eqb (column c.args.router.now q) c.args.r) (c.keep-own.ensures _ (record { each = λ i l b p. search rules })) c.if-own-eq0.false
