-- Lists of rows, by tests that compute. A row is a number: the place of a route among the routes of its prefix, from 0.
use Rattle.std.specs.Prelude.{ℕ, zero, suc, ◌+◌, min, max, Bool, false, cond, ◌||◌, List, [], ◌∷◌, map, eqb, get_or}

-- the members that pass a test, in their order
abbrev pub keep : (ℕ → Bool) → List ℕ → List ℕ
keep test [] = []
keep test (q ∷ rows) = cond (test q) (q ∷ keep test rows) (keep test rows)

-- whether some member passes a test
abbrev pub some : (ℕ → Bool) → List ℕ → Bool
some test [] = false
some test (q ∷ rows) = test q || some test rows

-- how many members pass a test
abbrev pub count : (ℕ → Bool) → List ℕ → ℕ
count test [] = 0
count test (q ∷ rows) = cond (test q) (suc (count test rows)) (count test rows)

-- so many numbers: from, from + 1, ..
abbrev pub span : ℕ → ℕ → List ℕ
span from zero = []
span from (suc n) = from ∷ span (suc from) n

-- f at each number below n
abbrev pub table : {A : Type 0} → ℕ → (ℕ → A) → List A
table n f = map f (span 0 n)

-- the least key among the members; 0 where there is none
abbrev pub least : (ℕ → ℕ) → List ℕ → ℕ
least key [] = 0
least key (q ∷ []) = key q
least key (q ∷ p ∷ rows) = min (key q) (least key (p ∷ rows))

-- the greatest key among the members; 0 where there is none
abbrev pub greatest : (ℕ → ℕ) → List ℕ → ℕ
greatest key [] = 0
greatest key (q ∷ rows) = max (key q) (greatest key rows)

-- the members whose key is the least
abbrev pub keep_least : (ℕ → ℕ) → List ℕ → List ℕ
keep_least key rows = let low = least key rows in keep (λ q. eqb (key q) low) rows

-- the members whose key is the greatest
abbrev pub keep_greatest : (ℕ → ℕ) → List ℕ → List ℕ
keep_greatest key rows = let high = greatest key rows in keep (λ q. eqb (key q) high) rows

-- the entries of a list as a function; 0 past its end
abbrev pub column : List ℕ → ℕ → ℕ
column xs q = get_or xs q 0

-- where part r begins in a list of parts, one after the other, that are so long: behind the parts below it
unfoldable pub start : List ℕ → ℕ → ℕ
start lengths zero = 0
start lengths (suc r) = start lengths r + column lengths r
