-- Laws of columns: a column that code stores, which is 0 past its end, stands for the function that it was computed by.
use Rattle.std.specs.Prelude.{ℕ, zero, suc, ◌+◌, ◌≤◌, ◌<◌, ◌≡◌, refl, List, [], ◌∷◌, ◌++◌, length, get_or, set, drop}
use Rattle.std.proofs.Common.{not-suc-le-zero, arith, sym, ap, ◌∙◌, ext_get_or}
use Rattle.std.proofs.lemmas.List.Edits.{sets, sets-eq}
use Rattle.model.specs.Rows.{table, column}
use Rattle.model.proofs.RowLaws.{table_at, table_length}

-- inside a list it does not matter what stands for the entries past its end
pub get_or_inside : {A : Type 0} (xs : List A) (k : ℕ) (d e : A) → k < length xs → get_or xs k d ≡ get_or xs k e
get_or_inside [] k d e l = absurd (not-suc-le-zero l)
get_or_inside (x ∷ xs) zero d e l = refl
get_or_inside (x ∷ xs) (suc k) d e l = get_or_inside xs k d e (omega arith)

-- a list is the table of its entries
pub column_is : (xs : List ℕ) (f : ℕ → ℕ) → ((k : ℕ) → k < length xs → column xs k ≡ f k) → xs ≡ table (length xs) f
column_is xs f h = ext_get_or 0 xs (table (length xs) f) (sym (table_length (length xs) f)) (λ k l. h k l ∙ sym (table_at f 0 (length xs) k l))

-- what is stored behind what was stored is stored with it
pub sets_append : {A : Type 0} (l : List A) (i : ℕ) (xs ys : List A) → sets (sets l i xs) (i + length xs) ys ≡ sets l i (xs ++ ys)
sets_append l i [] ys = ap (λ (k : ℕ). sets l k ys) (omega arith)
sets_append l i (x ∷ xs) ys = ap (λ (k : ℕ). sets (sets (set l i x) (suc i) xs) k ys) (omega arith) ∙ sets_append (set l i x) (suc i) xs ys

-- what is stored from the first entry on stands ahead of the entries behind it
pub sets_front : (l xs : List ℕ) → length xs ≤ length l → sets l 0 xs ≡ xs ++ drop (length xs) l
sets_front l xs h = let e : 0 + length xs ≡ length xs = omega arith in sets-eq xs l 0 (omega arith) ∙ ap (λ (k : ℕ). xs ++ drop k l) e
