-- Laws of the first place of a list whose entry passes: what std's `position` gives, told in the words of the definitions.
use Rattle.std.specs.Prelude.{ℕ, zero, suc, ◌+◌, ◌≤◌, ◌<◌, ◌≡◌, refl, Bool, cond, List, [], ◌∷◌, Option, Some, None, unwrap_or, eqb, ltb, length, get_or}
use Rattle.std.specs.List.{position_or_len}
use Rattle.std.proofs.Common.{zero-le, arith, ap, ◌∙◌, ltb-false}
use Rattle.model.specs.Rows.{keep, span}
use Rattle.model.specs.Listing.{first_place, group_by}
use Rattle.model.specs.Lent.{Inside}
use Rattle.model.proofs.ColumnLaws.{get_or_inside}
use Rattle.model.proofs.RowLaws.{by}

-- the first place that passes is none of those behind the list
pub place_le : {A : Type 0} (test : A → Bool) (xs : List A) → position_or_len test xs ≤ length xs
place_le test [] = zero-le
place_le test (x ∷ xs) = by (test x) (λ e. rw e zero-le) (λ e. let m = place_le test xs in rw e (omega arith))

-- what `position` gives, or else the end of the list
pub place_found : {A : Type 0} (test : A → Bool) (xs : List A) {r : Option ℕ} {n : ℕ}
    → r ≡ cond (ltb (position_or_len test xs) (length xs)) (Some (position_or_len test xs)) None → length xs ≡ n → unwrap_or r n ≡ position_or_len test xs
place_found test xs {r} {n} e l =
    ap (λ (o : Option ℕ). unwrap_or o n) e
    ∙ by (ltb (position_or_len test xs) (length xs)) (λ h. rw h) (λ h. rw h (omega (arith, place_le test xs, ltb-false (position_or_len test xs) (length xs) h)))

-- entries that pass by their place are found by it
pub place_span : {A : Type 0} (test : A → Bool) (at : ℕ → Bool) (d : A) (a : ℕ) (xs : List A)
    → ((i : ℕ) → i < length xs → test (get_or xs i d) ≡ at (a + i)) → position_or_len test xs ≡ first_place at (span a (length xs))
place_span test at d a [] f = refl
place_span test at d a (x ∷ xs) f =
    let ih = place_span test at d (suc a) xs (λ i l. f (suc i) (omega arith) ∙ ap at (omega arith)) in
    let e : test x ≡ at a = f 0 (omega arith) ∙ ap at (omega arith) in
    by (at a) (λ h. rw (e, h)) (λ h. rw (e, h) (omega (arith, ih)))

-- the first of the rows that are kept, or else their end
pub place_kept : (at : ℕ → Bool) (a n : ℕ) → get_or (keep at (span a n)) 0 (a + n) ≡ a + first_place at (span a n)
place_kept at a zero = refl
place_kept at a (suc n) =
    by (at a)
    (λ h. rw h (omega arith))
    (λ h. rw h (ap (get_or (keep at (span (suc a) n)) 0) (omega arith) ∙ place_kept at (suc a) n ∙ omega arith))

-- the group of k is the first place before k that has what k has
pub place_group : (key : ℕ → ℕ) (k : ℕ) → first_place (λ p. eqb (key p) (key k)) (span 0 k) ≡ group_by key k
place_group key k =
    let z : 0 + k ≡ k = omega arith in
    let e = rw z at (place_kept (λ p. eqb (key p) (key k)) 0 k) in
    omega (arith, e)

-- a row of a list that is inside is inside, by whatever place it has
pub inside_at : {n i q : ℕ} {rows : List ℕ} → Inside n rows → i < length rows → q ≡ get_or rows i q → q < n
inside_at {i} {q} {rows} h l e = omega (arith, h.below i l, e, get_or_inside rows i q 0 l)
