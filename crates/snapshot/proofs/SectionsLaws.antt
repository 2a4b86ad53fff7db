-- The equations of the sections of reading.
use Rattle.std.specs.Prelude.{ℕ, zero, suc, ◌+◌, ◌≤◌, ◌≡◌, refl, ◌≢◌, Bool, true, false, not, List, [], ◌∷◌, length, drop, T, eqb}
use Rattle.std.proofs.Common.{le_refl, not-suc-le-zero, arith, ap₂, ◌∙◌, length-drop, eqb→eq}
use Rattle.std.proofs.Math.Path.{fun_ext}
use Rattle.std.proofs.Math.Facts.{no_eqb}
use Rattle.snapshot.specs.Records.{route_forms, form_of, stands, forms, kind, sum, form_in, size_in}
use Rattle.snapshot.proofs.RecordsLaws.{of_routes}
use Rattle.snapshot.specs.Format.{Snapshot, judged, records}
use Rattle.snapshot.specs.Reading.{Answer, record_checks, unless, either, with_prefix, with_route, prefix_record, route_record, end_record, tail, item, items_within, items}

-- ---- the count of `items_within` does not matter

pub drop_shorter : (m : ℕ) (bs : List ℕ) (f : ℕ) → suc (length bs) ≤ suc f → length (drop m bs) ≤ f
drop_shorter m bs f h = simp length-drop (omega arith)

-- the bytes of a route's body
abbrev body_at : List ℕ → ℕ
body_at bs = sum (form_in route_forms bs).widths

within_same : (f g : ℕ) (s : Snapshot) (at : ℕ) (bs : List ℕ) → length bs ≤ f → length bs ≤ g → items_within f s at bs ≡ items_within g s at bs
unfolding items_within item judged either end_record record_checks
within_same zero zero s at bs hf hg = refl
within_same zero (suc g) s at [] hf hg = refl
within_same zero (suc g) s at (b ∷ bs) hf hg = absurd (not-suc-le-zero hf)
within_same (suc f) zero s at [] hf hg = refl
within_same (suc f) zero s at (b ∷ bs) hf hg = absurd (not-suc-le-zero hg)
within_same (suc f) (suc g) s at [] hf hg = refl
within_same (suc f) (suc g) s at (b ∷ bs) hf hg =
    ap₂ (item s at (b ∷ bs))
    (fun_ext λ _. within_same f g (with_prefix s (b ∷ bs)) (at + 6) (drop 5 bs) (drop_shorter 5 bs f hf) (drop_shorter 5 bs g hg))
    (fun_ext λ _. let k : ℕ = body_at (b ∷ bs) in within_same f g (with_route s (b ∷ bs)) (at + suc k) (drop k bs) (drop_shorter k bs f hf) (drop_shorter k bs g hg))

pub items_step : (s : Snapshot) (at : ℕ) (bs : List ℕ)
    → items s at bs ≡ item s at bs (λ _. items (with_prefix s bs) (at + 6) (drop 6 bs)) (λ _. items (with_route s bs) (at + size_in route_forms bs) (drop (size_in route_forms bs) bs))
unfolding items items_within item judged either end_record record_checks
items_step s at [] = refl
items_step s at (b ∷ bs) =
    ap₂ (item s at (b ∷ bs))
    (fun_ext λ _. within_same (length bs) (length (drop 5 bs)) (with_prefix s (b ∷ bs)) (at + 6) (drop 5 bs) (drop_shorter 5 bs (length bs) (le_refl _)) (le_refl _))
    (fun_ext λ _. let k : ℕ = body_at (b ∷ bs) in within_same (length bs) (length (drop k bs)) (with_route s (b ∷ bs)) (at + suc k) (drop k bs) (drop_shorter k bs (length bs) (le_refl _)) (le_refl _))

-- ---- one more record of each section

either_no : (b : Bool) (yea nay : Unit {0} → Answer) → T (not b) → either b yea nay ≡ nay tt
unfolding either
either_no true yea nay t = absurd t
either_no false yea nay t = refl

either_yes : (b : Bool) (yea nay : Unit {0} → Answer) → T b → either b yea nay ≡ yea tt
unfolding either
either_yes true yea nay t = refl
either_yes false yea nay t = absurd t

-- no form of a route is a prefix's
route_no_prefix : (k : ℕ) → T (stands route_forms k) → T (not (eqb k 4))
route_no_prefix k h =
    of_routes (λ f. k ≡ f.kind → T (not (eqb k 4))) (λ e. rw e tt) (λ e. rw e tt) (eqb k 7) (eqb→eq k (form_of route_forms k).kind h)

module _ (s : Snapshot) (at : ℕ) (bs : List ℕ) where
  pub items_prefix : kind bs ≡ 4 → items s at bs ≡ unless (prefix_record s bs) at (λ _. items (with_prefix s bs) (at + 6) (drop 6 bs))
  unfolding item
  items_prefix k = items_step s at bs ∙ either_yes (eqb (kind bs) 4) _ _ (rw k tt)

  pub items_route : T (stands route_forms (kind bs))
      → items s at bs ≡ unless (route_record s bs) at (λ _. items (with_route s bs) (at + size_in route_forms bs) (drop (size_in route_forms bs) bs))
  unfolding item
  items_route k = items_step s at bs ∙ either_no (eqb (kind bs) 4) _ _ (route_no_prefix (kind bs) k) ∙ either_yes (stands route_forms (kind bs)) _ _ k

  pub items_end : kind bs ≢ 4 → T (not (stands route_forms (kind bs))) → items s at bs ≡ unless (end_record forms (records s) bs) at (λ _. tail s (at + 5) (drop 5 bs))
  unfolding item
  items_end k l = items_step s at bs ∙ either_no (eqb (kind bs) 4) _ _ (no_eqb k) ∙ either_no (stands route_forms (kind bs)) _ _ l
