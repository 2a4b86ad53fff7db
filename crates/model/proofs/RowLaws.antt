-- Laws of the lists of rows: membership, what filters keep, what agrees on the members, counts, tables, and the pointwise order of lists of numbers.
use Rattle.std.specs.Prelude.{ℕ, zero, suc, ◌+◌, ◌≤◌, ◌<◌, ◌≡◌, refl, ◌⊎◌, Bool, true, false, cond, ◌&&◌, ◌||◌, not, List, [], ◌∷◌, ◌++◌, map, T, eqb, length, get_or, replicate}
use Rattle.std.proofs.Common.{zero-le, not-suc-le-zero, arith, sym, ap, ap₂, subst, ◌∙◌, inl, inr, ⊎_elim, true≢false, eqb→eq, T_not, ext_get_or, add-one, eqb-true}
use Rattle.std.proofs.lemmas.Bool.{false≢true, eqb-false}
use Rattle.std.proofs.Math.Dec.{eqb_refl, not_T}
use Rattle.std.proofs.lemmas.List.{length-map}
use Rattle.std.proofs.Math.ListN.{get_or-eq_default}
use Rattle.model.proofs.NumberLaws.{le_or_lt}
use Rattle.model.specs.Rows.{keep, some, count, span, table, column, start}

-- ---- tests

-- by cases on a test, with its value
pub by : {P : Type 0} (b : Bool) → (b ≡ true → P) → (b ≡ false → P) → P
by true f g = f refl
by false f g = g refl

pub or_cases : (a b : Bool) → T (a || b) → T a ⊎ T b
or_cases true b h = inl tt
or_cases false b h = inr h

pub or_false : (a b : Bool) → (a || b) ≡ false → (a ≡ false) × (b ≡ false)
or_false true b e = absurd (true≢false e)
or_false false b e = (refl, e)

pub or_left : (a b : Bool) → T a → T (a || b)
or_left true b h = tt
or_left false b h = absurd h

pub or_right : (a b : Bool) → T b → T (a || b)
or_right true b h = tt
or_right false b h = h

pub and_left : (a b : Bool) → T (a && b) → T a
and_left true b h = tt
and_left false b h = h

pub and_right : (a b : Bool) → T (a && b) → T b
and_right true b h = h
and_right false b h = absurd h

pub and_both : (a b : Bool) → T a → T b → T (a && b)
and_both true b h k = k
and_both false b h k = h

pub both : (a b : Bool) → (a && b) ≡ true → (a ≡ true) × (b ≡ true)
both true b e = (refl, e)
both false b e = absurd (false≢true e)

pub bool_ext : (a b : Bool) → (T a → T b) → (T b → T a) → a ≡ b
bool_ext true true f g = refl
bool_ext true false f g = absurd (f tt)
bool_ext false true f g = absurd (g tt)
bool_ext false false f g = refl

pub test_true : (b : Bool) → T b → b ≡ true
test_true true h = refl
test_true false h = absurd h

pub test_false : (b : Bool) → (T b → ⊥) → b ≡ false
test_false true h = absurd (h tt)
test_false false h = refl

pub decide : (b : Bool) → T b ⊎ (T b → ⊥)
decide true = inl tt
decide false = inr (λ h. h)

pub eq→eqb : {m n : ℕ} → m ≡ n → T (eqb m n)
eq→eqb {m} {n} e = subst (λ (k : ℕ). T (eqb m k)) e (eqb_refl m)

-- ---- membership

pub record In (q : ℕ) (rows : List ℕ) : Type 0 where
  pub found : T (some (eqb q) rows)

pub here : {q p : ℕ} {rows : List ℕ} → q ≡ p → In q (p ∷ rows)
here {q} {p} {rows} e = record { found = or_left (eqb q p) (some (eqb q) rows) (eq→eqb e) }

pub there : {q p : ℕ} {rows : List ℕ} → In q rows → In q (p ∷ rows)
there {q} {p} {rows} h = record { found = or_right (eqb q p) (some (eqb q) rows) h.found }

pub nowhere : {q : ℕ} → In q [] → ⊥
nowhere h = h.found

pub in_cases : {q p : ℕ} {rows : List ℕ} → In q (p ∷ rows) → (q ≡ p) ⊎ In q rows
in_cases {q} {p} {rows} h = elim (or_cases (eqb q p) (some (eqb q) rows) h.found) [ inl e ↦ inl (eqb→eq q p e) | inr m ↦ inr (record { found = m }) ]

pub record Some (test : ℕ → Type 0) (rows : List ℕ) : Type 0 where
  pub row : ℕ
  pub member : In row rows
  pub passes : test row

pub some_in : (test : ℕ → Bool) (rows : List ℕ) → T (some test rows) → Some (λ q. T (test q)) rows
some_in test [] h = absurd h
some_in test (p ∷ rows) h = go (or_cases (test p) (some test rows) h) (some_in test rows)
  where
    go : T (test p) ⊎ T (some test rows) → (T (some test rows) → Some (λ q. T (test q)) rows) → Some (λ q. T (test q)) (p ∷ rows)
    go (inl t) below = record { row = p; member = here refl; passes = t }
    go (inr s) below = let w = below s in record { row = w.row; member = there w.member; passes = w.passes }

pub in_some : (test : ℕ → Bool) {q : ℕ} (rows : List ℕ) → In q rows → T (test q) → T (some test rows)
in_some test {q} [] m t = absurd (nowhere m)
in_some test {q} (p ∷ rows) m t = elim (in_cases m) [
  | inl e ↦ or_left (test p) (some test rows) (subst (λ (k : ℕ). T (test k)) e t)
  | inr n ↦ or_right (test p) (some test rows) (in_some test rows n t)
]

pub not_some : (test : ℕ → Bool) (rows : List ℕ) → ((q : ℕ) → In q rows → T (test q) → ⊥) → T (not (some test rows))
not_some test rows f = not_T (some test rows) (λ s. let w = some_in test rows s in f w.row w.member w.passes)

pub none_some : (test : ℕ → Bool) {q : ℕ} (rows : List ℕ) → T (not (some test rows)) → In q rows → T (test q) → ⊥
none_some test rows n m t = T_not (some test rows) n (in_some test rows m t)

-- a list has a member, or it is empty
pub member_or_empty : (rows : List ℕ) → Some (λ q. Unit {0}) rows ⊎ (rows ≡ [])
member_or_empty [] = inr refl
member_or_empty (p ∷ rows) = inl (record { row = p; member = here refl; passes = tt })

pub empty_of : (rows : List ℕ) → ((q : ℕ) → In q rows → ⊥) → rows ≡ []
empty_of [] f = refl
empty_of (p ∷ rows) f = absurd (f p (here refl))

-- the first of a list, or else what is said
pub first_in : {q : ℕ} (rows : List ℕ) (d : ℕ) → In q rows → In (get_or rows 0 d) rows
first_in [] d m = absurd (nowhere m)
first_in (p ∷ rows) d m = here refl

pub first_cases : (rows : List ℕ) (d : ℕ) → In (get_or rows 0 d) rows ⊎ (get_or rows 0 d ≡ d)
first_cases [] d = inr refl
first_cases (p ∷ rows) d = inl (here refl)

-- ---- what `keep` keeps

in_cond : (b : Bool) {q p : ℕ} {rows : List ℕ} → In q (cond b (p ∷ rows) rows) → (T b × (q ≡ p)) ⊎ In q rows
in_cond true m = elim (in_cases m) [ inl e ↦ inl (tt, e) | inr n ↦ inr n ]
in_cond false m = inr m

cond_here : (b : Bool) {q p : ℕ} (rows : List ℕ) → T b → q ≡ p → In q (cond b (p ∷ rows) rows)
cond_here true rows t e = here e
cond_here false rows t e = absurd t

cond_there : (b : Bool) {q : ℕ} (p : ℕ) {rows : List ℕ} → In q rows → In q (cond b (p ∷ rows) rows)
cond_there true p m = there m
cond_there false p m = m

pub in_keep : (test : ℕ → Bool) {q : ℕ} (rows : List ℕ) → In q rows → T (test q) → In q (keep test rows)
in_keep test {q} [] m t = absurd (nowhere m)
in_keep test {q} (p ∷ rows) m t = elim (in_cases m) [
  | inl e ↦ cond_here (test p) (keep test rows) (subst (λ (k : ℕ). T (test k)) e t) e
  | inr n ↦ cond_there (test p) p (in_keep test rows n t)
]

pub keep_in : (test : ℕ → Bool) {q : ℕ} (rows : List ℕ) → In q (keep test rows) → In q rows × T (test q)
keep_in test {q} [] m = absurd (nowhere m)
keep_in test {q} (p ∷ rows) m = go (in_cond (test p) m) (keep_in test rows)
  where
    go : (T (test p) × (q ≡ p)) ⊎ In q (keep test rows) → (In q (keep test rows) → In q rows × T (test q)) → In q (p ∷ rows) × T (test q)
    go (inl h) below = (here h.1, subst (λ (k : ℕ). T (test k)) (sym h.1) h.0)
    go (inr n) below = (there (below n).0, (below n).1)

pub keep_keep : (t u : ℕ → Bool) (rows : List ℕ) → keep t (keep u rows) ≡ keep (λ q. u q && t q) rows
keep_keep t u [] = refl
keep_keep t u (q ∷ rows) =
    let ih = keep_keep t u rows in
    by (u q) (λ e. simp (e, ih)) (λ e. simp (e, ih))

pub keep_all : (rows : List ℕ) → keep (λ q. true) rows ≡ rows
keep_all [] = refl
keep_all (p ∷ rows) = ap (λ (l : List ℕ). p ∷ l) (keep_all rows)

pub keep_append : (test : ℕ → Bool) (rows more : List ℕ) → keep test (rows ++ more) ≡ keep test rows ++ keep test more
keep_append test [] more = refl
keep_append test (q ∷ rows) more =
    let ih = keep_append test rows more in
    by (test q) (λ e. simp (e, ih)) (λ e. simp (e, ih))

pub some_append : (test : ℕ → Bool) (rows more : List ℕ) → some test (rows ++ more) ≡ (some test rows || some test more)
some_append test [] more = refl
some_append test (p ∷ rows) more = let ih = some_append test rows more in by (test p) (λ e. rw e) (λ e. rw (e, ih))

pub some_snoc : (test : ℕ → Bool) (rows : List ℕ) (p : ℕ) → some test (rows ++ (p ∷ [])) ≡ (some test rows || test p)
some_snoc test rows p = some_append test rows (p ∷ []) ∙ by (test p) (λ e. rw e) (λ e. rw e)

-- a test on what is kept is one test
pub some_kept : (kept test : ℕ → Bool) (rows : List ℕ) → some test (keep kept rows) ≡ some (λ q. kept q && test q) rows
some_kept kept test [] = refl
some_kept kept test (q ∷ rows) =
    let ih = some_kept kept test rows in
    by (kept q) (λ e. simp (e, ih)) (λ e. simp (e, ih))

pub count_kept : (kept test : ℕ → Bool) (rows : List ℕ) → count test (keep kept rows) ≡ count (λ q. kept q && test q) rows
count_kept kept test [] = refl
count_kept kept test (q ∷ rows) =
    let ih = count_kept kept test rows in
    by (kept q) (λ e. simp (e, ih)) (λ e. simp (e, ih))

-- ---- what agrees on the members

abbrev pub Agree : {A : Type 0} → (f g : ℕ → A) → List ℕ → Type 0
Agree f g rows = (q : ℕ) → In q rows → f q ≡ g q

pub agree_keep : {A : Type 0} (f g : ℕ → A) (test : ℕ → Bool) (rows : List ℕ) → Agree f g rows → Agree f g (keep test rows)
agree_keep f g test rows h = λ q m. h q (keep_in test rows m).0

module _ (t u : ℕ → Bool) where
  pub keep_agree : (rows : List ℕ) → Agree t u rows → keep t rows ≡ keep u rows
  keep_agree [] h = refl
  keep_agree (p ∷ rows) h = rw (h p (here refl), keep_agree rows (λ q m. h q (there m)))

  pub some_agree : (rows : List ℕ) → Agree t u rows → some t rows ≡ some u rows
  some_agree [] h = refl
  some_agree (p ∷ rows) h = rw (h p (here refl), some_agree rows (λ q m. h q (there m)))

pub in_append : {q : ℕ} (a b : List ℕ) → In q (a ++ b) → In q a ⊎ In q b
in_append [] b m = inr m
in_append (p ∷ a) b m = elim (in_cases m) [
  | inl e ↦ inl (here e)
  | inr n ↦ elim (in_append a b n) [ inl k ↦ inl (there k) | inr k ↦ inr k ]
]

-- what filters leave of a list
pub record Filtered (rows whole : List ℕ) : Type 0 where
  pub test : ℕ → Bool
  pub kept : rows ≡ keep test whole

pub filtered : (t : ℕ → Bool) (whole : List ℕ) → Filtered (keep t whole) whole
filtered t whole = record { test = t; kept = refl }

pub filtered_keep : (u : ℕ → Bool) {rows whole : List ℕ} → Filtered rows whole → Filtered (keep u rows) whole
filtered_keep u {rows} {whole} f = record { test = λ q. f.test q && u q; kept = ap (keep u) f.kept ∙ keep_keep u f.test whole }

-- it is what the test for its members leaves
pub filtered_self : {rows whole : List ℕ} → Filtered rows whole → rows ≡ keep (λ q. some (eqb q) rows) whole
filtered_self {rows} {whole} f = f.kept ∙ keep_agree f.test (λ q. some (eqb q) rows) whole
    (λ q m. bool_ext (f.test q) (some (eqb q) rows) (λ h. (subst (In q) (sym f.kept) (in_keep f.test whole m h)).found)
    (λ h. (keep_in f.test whole (subst (In q) f.kept (record { found = h }))).1))

pub within : {q : ℕ} {rows whole : List ℕ} → Filtered rows whole → In q rows → In q whole
within {q} {rows} {whole} f m = (keep_in f.test whole (subst (In q) f.kept m)).0

-- ---- counts

pub count_length : (t : ℕ → Bool) (rows : List ℕ) → count t rows ≡ length (keep t rows)
count_length t [] = refl
count_length t (p ∷ rows) = go (t p) (count_length t rows)
  where
    go : (b : Bool) → count t rows ≡ length (keep t rows) → cond b (suc (count t rows)) (count t rows) ≡ length (cond b (p ∷ keep t rows) (keep t rows))
    go true e = ap suc e
    go false e = e

step_le : (a b : Bool) (m n : ℕ) → (T a → T b) → m ≤ n → cond a (suc m) m ≤ cond b (suc n) n
step_le true true m n f h = omega arith
step_le true false m n f h = absurd (f tt)
step_le false true m n f h = omega arith
step_le false false m n f h = h

step_lt : (a b : Bool) (m n : ℕ) → (T a → T b) → m < n → cond a (suc m) m < cond b (suc n) n
step_lt true true m n f h = omega arith
step_lt true false m n f h = absurd (f tt)
step_lt false true m n f h = omega arith
step_lt false false m n f h = h

here_lt : (a b : Bool) (m n : ℕ) → (T a → ⊥) → T b → m ≤ n → cond a (suc m) m < cond b (suc n) n
here_lt true b m n f t h = absurd (f tt)
here_lt false true m n f t h = omega arith
here_lt false false m n f t h = absurd t

pub count_le : (t u : ℕ → Bool) (rows : List ℕ) → ((q : ℕ) → In q rows → T (t q) → T (u q)) → count t rows ≤ count u rows
count_le t u [] f = zero-le
count_le t u (p ∷ rows) f = step_le (t p) (u p) (count t rows) (count u rows) (f p (here refl)) (count_le t u rows (λ q m. f q (there m)))

pub count_lt : (t u : ℕ → Bool) {p : ℕ} (rows : List ℕ) → ((q : ℕ) → In q rows → T (t q) → T (u q)) → In p rows → (T (t p) → ⊥) → T (u p) → count t rows < count u rows
count_lt t u [] f m nt tu = absurd (nowhere m)
count_lt t u {p} (a ∷ rows) f m nt tu = elim (in_cases m) [
  | inl e ↦ here_lt (t a) (u a) (count t rows) (count u rows) (subst (λ (k : ℕ). T (t k) → ⊥) e nt) (subst (λ (k : ℕ). T (u k)) e tu) (count_le t u rows (λ q n. f q (there n)))
  | inr n ↦ step_lt (t a) (u a) (count t rows) (count u rows) (f a (here refl)) (count_lt t u rows (λ q k. f q (there k)) n nt tu)
]

pub count_all : (rows : List ℕ) → count (λ q. true) rows ≡ length rows
count_all [] = refl
count_all (p ∷ rows) = ap suc (count_all rows)

-- ---- spans

pub in_span : {q : ℕ} (a n : ℕ) → In q (span a n) → q < a + n
in_span {q} a zero m = absurd (nowhere m)
in_span {q} a (suc n) m = elim (in_cases m) [ inl e ↦ omega arith | inr k ↦ (let h : q < suc a + n = in_span (suc a) n k in omega arith) ]

pub span_low : {q : ℕ} (a n : ℕ) → In q (span a n) → a ≤ q
span_low a zero m = absurd (nowhere m)
span_low {q} a (suc n) m = elim (in_cases m) [ inl e ↦ omega arith | inr k ↦ (let h : suc a ≤ q = span_low (suc a) n k in omega arith) ]

pub span_in : {q : ℕ} (a n : ℕ) → a ≤ q → q < a + n → In q (span a n)
span_in {q} a zero l h = absurd (omega arith)
span_in {q} a (suc n) l h = elim (decide (eqb q a)) [
  | inl t ↦ here (eqb→eq q a t)
  | inr f ↦ (let ne : ¬ (q ≡ a) = (λ e. f (eq→eqb e)) in there (span_in (suc a) n (omega arith) (omega arith)))
]

-- a number stands once in a span
pub span_once : {q : ℕ} (a n : ℕ) → In q (span a n) → keep (eqb q) (span a n) ≡ q ∷ []
span_once a zero m = absurd (nowhere m)
span_once {q} a (suc n) m = go (in_cases m) (span_once (suc a) n)
  where
    cell : Bool → List ℕ
    cell b = cond b (a ∷ keep (eqb q) (span (suc a) n)) (keep (eqb q) (span (suc a) n))

    go : (q ≡ a) ⊎ In q (span (suc a) n) → (In q (span (suc a) n) → keep (eqb q) (span (suc a) n) ≡ q ∷ []) → cell (eqb q a) ≡ q ∷ []
    go (inl e) below = ap cell (test_true (eqb q a) (eq→eqb e))
        ∙ ap₂ (λ (x : ℕ) (l : List ℕ). x ∷ l) (sym e) (empty_of (keep (eqb q) (span (suc a) n))
        (λ p k. let z = keep_in (eqb q) (span (suc a) n) k in omega (arith, span_low (suc a) n z.0, eqb→eq q p z.1)))
    go (inr k) below = ap cell (test_false (eqb q a) (λ t. omega (arith, span_low (suc a) n k, eqb→eq q a t))) ∙ below k

-- what filters leave of a span, where it has one member
pub one_left : {h : ℕ} {rows : List ℕ} (a n : ℕ) → Filtered rows (span a n) → In h rows → ((q : ℕ) → In q rows → h ≡ q) → rows ≡ h ∷ []
one_left {h} {rows} a n f m one = filtered_self f
    ∙ keep_agree (λ q. some (eqb q) rows) (eqb h) (span a n)
    (λ q k. bool_ext (some (eqb q) rows) (eqb h q) (λ t. eq→eqb (one q (record { found = t }))) (λ t. (subst (λ (z : ℕ). In z rows) (eqb→eq h q t) m).found))
    ∙ span_once a n (keep_in f.test (span a n) (subst (In h) f.kept m)).0

-- ---- tables

pub length_span : (a n : ℕ) → length (span a n) ≡ n
length_span a zero = refl
length_span a (suc n) = ap suc (length_span (suc a) n)

get_or_table : {A : Type 0} (f : ℕ → A) (d : A) (from n k : ℕ) → k < n → get_or (map f (span from n)) k d ≡ f (from + k)
get_or_table f d from zero k l = absurd (not-suc-le-zero l)
get_or_table f d from (suc n) zero l = ap f (omega arith)
get_or_table f d from (suc n) (suc k) l = get_or_table f d (suc from) n k (omega arith) ∙ ap f (omega arith)

pub table_length : {A : Type 0} (n : ℕ) (f : ℕ → A) → length (table n f) ≡ n
table_length n f = length-map (span 0 n) f ∙ length_span 0 n

pub table_at : {A : Type 0} (f : ℕ → A) (d : A) (n k : ℕ) → k < n → get_or (table n f) k d ≡ f k
table_at f d n k l = get_or_table f d 0 n k l ∙ ap f (omega arith)

pub table_same : {A : Type 0} (f g : ℕ → A) (n : ℕ) → ((k : ℕ) → k < n → f k ≡ g k) → table n f ≡ table n g
table_same f g n h = go 0 n (λ k l. h k (omega arith))
  where
    go : (from m : ℕ) → ((k : ℕ) → k < from + m → f k ≡ g k) → map f (span from m) ≡ map g (span from m)
    go from zero h = refl
    go from (suc m) h = rw (h from (omega arith), go (suc from) m (λ k l. h k (omega arith)))

-- one value everywhere
pub table_const : {A : Type 0} (n : ℕ) (v : A) → replicate n v ≡ table n (λ r. v)
table_const n v = go 0 n
  where
    go : (from m : ℕ) → replicate m v ≡ map (λ r. v) (span from m)
    go from zero = refl
    go from (suc m) = ap (λ xs. v ∷ xs) (go (suc from) m)

-- ---- the pointwise order

infix 20 ◌⊑◌
-- x is at or below y at every place; past a list's end stands 0
abbrev pub ◌⊑◌ : List ℕ → List ℕ → Type 0
x ⊑ y = (i : ℕ) → get_or x i 0 ≤ get_or y i 0

pub table-⊑ : (f : ℕ → ℕ) (n : ℕ) (y : List ℕ) → ((r : ℕ) → r < n → f r ≤ get_or y r 0) → table n f ⊑ y
table-⊑ f n y h i =
    ⊎_elim
    (λ l. omega (arith, get_or-eq_default (table n f) 0 {n = i} (omega (arith, table_length n f))))
    (λ l. omega (arith, table_at f 0 n i l, h i l))
    (le_or_lt n i)

abbrev pub total : List ℕ → ℕ
total [] = 0
total (a ∷ x) = a + total x

pub total_mono : (x y : List ℕ) → x ⊑ y → total x ≤ total y
total_mono [] y h = omega arith
total_mono (a ∷ x) [] h = omega (arith, h 0, total_mono x [] (λ i. h (suc i)))
total_mono (a ∷ x) (b ∷ y) h = omega (arith, h 0, total_mono x y (λ i. h (suc i)))

pub ⊑-antisym : (x y : List ℕ) → length x ≡ length y → x ⊑ y → y ⊑ x → x ≡ y
⊑-antisym x y e h k = ext_get_or 0 x y e (λ i l. omega (arith, h i, k i))

-- in order, and no less in all: the same
pub total_eq : (x y : List ℕ) → length x ≡ length y → x ⊑ y → total y ≤ total x → x ≡ y
total_eq x y e h t = ⊑-antisym x y e h (back x y h t)
  where
    back : (x y : List ℕ) → x ⊑ y → total y ≤ total x → y ⊑ x
    back x [] h t i = omega arith
    back [] (b ∷ y) h t zero = omega arith
    back [] (b ∷ y) h t (suc i) = back [] y (λ j. omega arith) (omega arith) i
    back (a ∷ x) (b ∷ y) h t zero = omega (arith, h 0, total_mono x y (λ j. h (suc j)))
    back (a ∷ x) (b ∷ y) h t (suc i) = back x y (λ j. h (suc j)) (omega (arith, h 0)) i

-- ---- every member has one key, so the counts by key add up to no more than the length

one_more : (b : Bool) (n : ℕ) → cond b (suc n) n ≤ suc n
one_more true n = omega arith
one_more false n = omega arith

no_more : (b : Bool) (n : ℕ) → (T b → ⊥) → cond b (suc n) n ≤ n
no_more true n h = absurd (h tt)
no_more false n h = omega arith

module _ (key : ℕ → ℕ) where
  abbrev tally : List ℕ → ℕ → ℕ
  tally rows r = count (λ q. eqb (key q) r) rows

  tally_out : (q : ℕ) (rows : List ℕ) (from n : ℕ) → key q < from → total (map (tally (q ∷ rows)) (span from n)) ≤ total (map (tally rows) (span from n))
  tally_out q rows from zero h = omega arith
  tally_out q rows from (suc n) h =
      omega (
        arith,
        no_more (eqb (key q) from) (tally rows from) (λ t. omega (arith, eqb→eq (key q) from t)),
        tally_out q rows (suc from) n (omega arith),
      )

  tally_in : (q : ℕ) (rows : List ℕ) (from n : ℕ) → total (map (tally (q ∷ rows)) (span from n)) ≤ suc (total (map (tally rows) (span from n)))
  tally_in q rows from zero = omega arith
  tally_in q rows from (suc n) =
      ⊎_elim
      (λ t. omega (
        arith,
        one_more (eqb (key q) from) (tally rows from),
        tally_out q rows (suc from) n (omega (arith, eqb→eq (key q) from t)),
      ))
      (λ t. omega (
        arith,
        no_more (eqb (key q) from) (tally rows from) t,
        tally_in q rows (suc from) n,
      ))
      (decide (eqb (key q) from))

  none : (from n : ℕ) → total (map (tally []) (span from n)) ≤ 0
  none from zero = omega arith
  none from (suc n) = omega (arith, none (suc from) n)

  pub tallies : (rows : List ℕ) (n : ℕ) → total (table n (tally rows)) ≤ length rows
  tallies [] n = none 0 n
  tallies (q ∷ rows) n = omega (arith, tally_in q rows 0 n, tallies rows n)

-- ---- tables joined

module _ {A : Type 0} (f : ℕ → A) where
  span_append : (from m n : ℕ) → map f (span from (m + n)) ≡ map f (span from m) ++ map f (span (from + m) n)
  span_append from zero n =
      ap (λ (k : ℕ). map f (span from k)) (let e : 0 + n ≡ n = omega arith in e) ∙ ap (λ (k : ℕ). map f (span k n)) (let e : from ≡ from + 0 = omega arith in e)
  span_append from (suc m) n =
      ap (λ (k : ℕ). map f (span from k)) (let e : suc m + n ≡ suc (m + n) = omega arith in e)
      ∙ ap (λ (l : List A). f from ∷ l) (span_append (suc from) m n)
      ∙ ap (λ (k : ℕ). f from ∷ (map f (span (suc from) m) ++ map f (span k n))) (let e : suc from + m ≡ from + suc m = omega arith in e)

  span_shift : (m from n : ℕ) → map f (span (m + from) n) ≡ map (λ k. f (m + k)) (span from n)
  span_shift m from zero = refl
  span_shift m from (suc n) =
      ap (λ (l : List A). f (m + from) ∷ l)
      (ap (λ (k : ℕ). map f (span k n)) (let e : suc (m + from) ≡ m + suc from = omega arith in e) ∙ span_shift m (suc from) n)

  pub table_append : (m n : ℕ) → table (m + n) f ≡ table m f ++ table n (λ k. f (m + k))
  table_append m n =
      span_append 0 m n
      ∙ ap (λ (k : ℕ). table m f ++ map f (span k n)) (let e : 0 + m ≡ m + 0 = omega arith in e)
      ∙ ap (λ (l : List A). table m f ++ l) (span_shift m 0 n)

  pub table_snoc : (n : ℕ) → table (suc n) f ≡ table n f ++ (f n ∷ [])
  table_snoc n =
      ap (λ (k : ℕ). table k f) (let e : suc n ≡ n + 1 = omega arith in e) ∙ table_append n 1
      ∙ ap (λ (k : ℕ). table n f ++ (f k ∷ [])) (let e : n + 0 ≡ n = omega arith in e)

-- ---- where the parts of a list begin

pub start_first : (lengths : List ℕ) → start lengths 0 ≡ 0
unfolding start
start_first lengths = refl

pub start_next : (lengths : List ℕ) (r : ℕ) → start lengths (r + 1) ≡ start lengths r + column lengths r
unfolding start
start_next lengths r = rw add-one

-- a part ends before those behind it
pub start_within : (lengths : List ℕ) (r n : ℕ) → r < n → start lengths r + column lengths r ≤ start lengths n
unfolding start
start_within lengths r zero l = absurd (omega arith)
start_within lengths r (suc n) l = by (eqb r n)
    (λ e. let k = eqb-true r n e in rw k (omega arith))
    (λ e. let h = start_within lengths r n (let k = eqb-false r n e in omega (arith, k)) in omega arith)
