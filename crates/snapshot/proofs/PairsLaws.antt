-- The pairs of routers: how many they are, that each is of two routers, and which place each has.
use Rattle.std.specs.Prelude.{ℕ, zero, suc, ◌+◌, ◌-◌, ◌*◌, ◌≤◌, ◌<◌, ◌≡◌, refl, ◌≢◌, ◌⊎◌, Bool, true, false, cond, List, [], ◌∷◌, ◌++◌, length, get_or, eqb}
use Rattle.std.proofs.Common.{suc-mul, zero-mul, eq-or-lt_of_le, not-suc-le-zero, le_of_suc-le-suc, arith, sym, ap, ◌∙◌, subst, subst₂, inl, inr, length-append, eq-eqb, ne_eqb, eqb-true, le-leb}
use Rattle.std.proofs.Math.Decide.{dec_le, ℕ_discrete}
use Rattle.std.proofs.lemmas.Bool.{eqb-false, lt-leb}
use Rattle.model.proofs.RowLaws.{by}
use Rattle.snapshot.specs.Format.{Pair, row, rows, pairs, pairs_before}

-- one more of a row: left out, or a pair
pub row_equal : (from to left : ℕ) → from ≡ to → row from to (suc left) ≡ row from (suc to) left
row_equal from to left h = ap (λ (b : Bool). cond b (row from (suc to) left) (record { from = from; to = to } ∷ row from (suc to) left)) (eq-eqb from to h)

pub row_other : (from to left : ℕ) → from ≢ to → row from to (suc left) ≡ record { from = from; to = to } ∷ row from (suc to) left
row_other from to left h = ap (λ (b : Bool). cond b (row from (suc to) left) (record { from = from; to = to } ∷ row from (suc to) left)) (ne_eqb from to h)

-- the same for a program that counts up: `rows n from (n - from)` are due before the row of `from`,
-- `row from to (n - to) ++ rows n (suc from) (n - suc from)` within it
pub due_row : (n from : ℕ) → from < n → rows n from (n - from) ≡ row from 0 n ++ rows n (suc from) (n - suc from)
due_row n from h = ap (rows n from) (let e : n - from ≡ suc (n - suc from) = omega arith in e)

pub due_equal : (n from to : ℕ) → to < n → from ≡ to → row from to (n - to) ≡ row from (suc to) (n - suc to)
due_equal n from to h e = ap (row from to) (let q : n - to ≡ suc (n - suc to) = omega arith in q) ∙ row_equal from to (n - suc to) e

pub due_other : (n from to : ℕ) → to < n → from ≢ to → row from to (n - to) ≡ record { from = from; to = to } ∷ row from (suc to) (n - suc to)
due_other n from to h e = ap (row from to) (let q : n - to ≡ suc (n - suc to) = omega arith in q) ∙ row_other from to (n - suc to) e

pub due_row_end : (n from : ℕ) → row from n (n - n) ≡ []
due_row_end n from = ap (row from n) (let q : n - n ≡ 0 = omega arith in q)

pub due_end : (n : ℕ) → rows n n (n - n) ≡ []
due_end n = ap (rows n n) (let q : n - n ≡ 0 = omega arith in q)

-- a row past its own router leaves out none, and one before it leaves out one
row_past : (from to left : ℕ) → from < to → length (row from to left) ≡ left
row_past from to zero h = refl
row_past from to (suc left) h = ap length (row_other from to left (omega arith)) ∙ ap suc (row_past from (suc to) left (omega arith))

row_length : (from to left : ℕ) → to ≤ from → from < to + left → suc (length (row from to left)) ≡ left
row_length from to zero h k = absurd (omega arith)
row_length from to (suc left) h k = go (eq-or-lt_of_le h) (row_length from (suc to) left)
  where
    go : (to ≡ from) ⊎ (to < from) → (suc to ≤ from → from < suc to + left → suc (length (row from (suc to) left)) ≡ left)
        → suc (length (row from to (suc left))) ≡ suc left
    go (inl e) ih = ap (λ (l : List Pair). suc (length l)) (row_equal from to left (sym e)) ∙ ap suc (row_past from (suc to) left (omega arith))
    go (inr l) ih = ap (λ (l : List Pair). suc (length l)) (row_other from to left (omega arith)) ∙ ap suc (ih l (omega arith))

rows_length : (n from left : ℕ) → from + left ≤ n → length (rows n from left) ≡ left * (n - 1)
rows_length n from zero h = sym (zero-mul (n - 1))
rows_length n from (suc left) h =
    let one : suc (length (row from 0 n)) ≡ n = row_length from 0 n (omega arith) (omega arith) in
    let others : length (rows n (suc from) left) ≡ left * (n - 1) = rows_length n (suc from) left (omega arith) in
    rw (length-append, suc-mul) (omega arith)

pub pairs_length : (n : ℕ) → length (pairs n) ≡ n * (n - 1)
pairs_length n = rows_length n 0 n (omega arith)

-- a pair of two routers, not one
pub record Two (n : ℕ) (p : Pair) : Type 0 where
  pub from : p.from < n
  pub to : p.to < n
  pub apart : p.from ≢ p.to

abbrev pub AllTwo : ℕ → List Pair → Type 0
AllTwo n [] = Unit {0}
AllTwo n (p ∷ ps) = Two n p × AllTwo n ps

two_append : (n : ℕ) (ps qs : List Pair) → AllTwo n ps → AllTwo n qs → AllTwo n (ps ++ qs)
two_append n [] qs h k = k
two_append n (p ∷ ps) qs h k = (h.0, two_append n ps qs h.1 k)

two_row : (n from to left : ℕ) → from < n → to + left ≤ n → AllTwo n (row from to left)
two_row n from to zero h k = tt
two_row n from to (suc left) h k =
    let later = two_row n from (suc to) left h (omega arith) in
    by (eqb from to)
    (λ e. subst (AllTwo n) (sym (row_equal from to left (eqb-true from to e))) later)
    (λ e. subst (AllTwo n) (sym (row_other from to left (eqb-false from to e))) (record { from = h; to = omega arith; apart = eqb-false from to e }, later))

two_rows : (n from left : ℕ) → from + left ≤ n → AllTwo n (rows n from left)
two_rows n from zero h = tt
two_rows n from (suc left) h = two_append n (row from 0 n) (rows n (suc from) left) (two_row n from 0 n (omega arith) (omega arith)) (two_rows n (suc from) left (omega arith))

-- each pair is of two routers
pub pairs_two : (n : ℕ) → AllTwo n (pairs n)
pairs_two n = two_rows n 0 n (omega arith)

two_at : (n : ℕ) (d : Pair) (ps : List Pair) → AllTwo n ps → (k : ℕ) → k < length ps → Two n (get_or ps k d)
two_at n d [] h k l = absurd (not-suc-le-zero l)
two_at n d (p ∷ ps) h zero l = h.0
two_at n d (p ∷ ps) h (suc k) l = two_at n d ps h.1 k (omega arith)

pub pair_two : (n : ℕ) (d : Pair) (k : ℕ) → k < length (pairs n) → Two n (get_or (pairs n) k d)
pair_two n d k l = two_at n d (pairs n) (pairs_two n) k l

-- ---- how many pairs come before one

before_first : (n : ℕ) → pairs_before n 0 0 ≡ 0
before_first n = omega arith

pub before_equal : (n from to : ℕ) → from ≡ to → pairs_before n from (suc to) ≡ pairs_before n from to
before_equal n from to h = rw (lt-leb (suc to) from (omega arith), le-leb to from (omega arith)) (omega arith)

pub before_other : (n from to : ℕ) → from ≢ to → pairs_before n from (suc to) ≡ suc (pairs_before n from to)
before_other n from to h = go (dec_le to from)
  where
    go : Dec (to ≤ from) → pairs_before n from (suc to) ≡ suc (pairs_before n from to)
    go (yes l) = rw (le-leb (suc to) from (omega arith), le-leb to from l) (omega arith)
    go (no l) = rw (lt-leb (suc to) from (omega arith), lt-leb to from (omega arith)) (omega arith)

pub before_row : (n from : ℕ) → from < n → pairs_before n (suc from) 0 ≡ pairs_before n from n
before_row n from h = rw (le-leb 0 (suc from) (omega arith), lt-leb n from h) (let z = suc-mul from (n - 1) in omega arith)

-- the k-th pair is the one with k before it
abbrev pub Counted : ℕ → ℕ → List Pair → Type 0
Counted n k [] = Unit {0}
Counted n k (p ∷ ps) = (pairs_before n p.from p.to ≡ k) × Counted n (suc k) ps

row_counted : (n from to left : ℕ) (more : List Pair) → to + left ≡ n → Counted n (pairs_before n from n) more → Counted n (pairs_before n from to) (row from to left ++ more)
row_counted n from to zero more e h = rw (let q : to ≡ n = omega arith in q) h
row_counted n from to (suc left) more e h = go (ℕ_discrete from to) (row_counted n from (suc to) left more (omega arith) h)
  where
    go : Dec (from ≡ to) → Counted n (pairs_before n from (suc to)) (row from (suc to) left ++ more) → Counted n (pairs_before n from to) (row from to (suc left) ++ more)
    go (yes q) ih = subst₂ (λ (k : ℕ) (l : List Pair). Counted n k (l ++ more)) (before_equal n from to q) (sym (row_equal from to left q)) ih
    go (no q) ih =
        subst (λ (l : List Pair). Counted n (pairs_before n from to) (l ++ more)) (sym (row_other from to left q))
        (refl, subst (λ (k : ℕ). Counted n k (row from (suc to) left ++ more)) (before_other n from to q) ih)

rows_counted : (n from left : ℕ) → from + left ≡ n → Counted n (pairs_before n from 0) (rows n from left)
rows_counted n from zero e = tt
rows_counted n from (suc left) e =
    row_counted n from 0 n (rows n (suc from) left) (omega arith) (rw (← before_row n from (omega arith)) (rows_counted n (suc from) left (omega arith)))

pub pairs_counted : (n : ℕ) → Counted n 0 (pairs n)
pairs_counted n = rw before_first at (rows_counted n 0 n (omega arith))

-- so the distance of the k-th pair is the k-th distance
counted_at : (n k : ℕ) (ps : List Pair) (i : ℕ) (d : Pair) → i < length ps → Counted n k ps → pairs_before n (get_or ps i d).from (get_or ps i d).to ≡ k + i
counted_at n k [] i d h c = absurd (not-suc-le-zero h)
counted_at n k (p ∷ ps) zero d h c = c.0 ∙ (let q : k ≡ k + 0 = omega arith in q)
counted_at n k (p ∷ ps) (suc i) d h c = counted_at n (suc k) ps i d (le_of_suc-le-suc h) c.1 ∙ (let q : suc k + i ≡ k + suc i = omega arith in q)

pub pair_at : (n i : ℕ) (d : Pair) → i < n * (n - 1) → pairs_before n (get_or (pairs n) i d).from (get_or (pairs n) i d).to ≡ i
pair_at n i d h = counted_at n 0 (pairs n) i d (rw pairs_length h) (pairs_counted n) ∙ (let q : 0 + i ≡ i = omega arith in q)

-- and each pair of two routers is there, at its place
data In (p : Pair) : List Pair → Type 0 where
  here : {ps : List Pair} → In p (p ∷ ps)
  there : {q : Pair} {ps : List Pair} → In p ps → In p (q ∷ ps)

in_left : {p : Pair} {ps : List Pair} (qs : List Pair) → In p ps → In p (ps ++ qs)
in_left qs here = here
in_left qs (there h) = there (in_left qs h)

in_right : {p : Pair} (ps : List Pair) {qs : List Pair} → In p qs → In p (ps ++ qs)
in_right [] h = h
in_right (q ∷ ps) h = there (in_right ps h)

in_row : (from to t left : ℕ) → t ≤ to → to < t + left → from ≢ to → In (record { from = from; to = to }) (row from t left)
in_row from to t zero h l ne = absurd (omega arith)
in_row from to t (suc left) h l ne = go (eq-or-lt_of_le h) (in_row from to (suc t) left)
  where
    p : Pair
    p = record { from = from; to = to }

    later : (b : Bool) → In p (row from (suc t) left) → In p (cond b (row from (suc t) left) (record { from = from; to = t } ∷ row from (suc t) left))
    later true ih = ih
    later false ih = there ih

    go : (t ≡ to) ⊎ (t < to) → (suc t ≤ to → to < suc t + left → from ≢ to → In p (row from (suc t) left)) → In p (row from t (suc left))
    go (inl e) ih = rw e (subst (In p) (sym (row_other from to left ne)) here)
    go (inr lt) ih = later (eqb from t) (ih lt (omega arith) ne)

in_rows : (n from to f left : ℕ) → f ≤ from → from < f + left → to < n → from ≢ to → In (record { from = from; to = to }) (rows n f left)
in_rows n from to f zero h l t ne = absurd (omega arith)
in_rows n from to f (suc left) h l t ne = go (eq-or-lt_of_le h) (in_rows n from to (suc f) left)
  where
    p : Pair
    p = record { from = from; to = to }

    go : (f ≡ from) ⊎ (f < from) → (suc f ≤ from → from < suc f + left → to < n → from ≢ to → In p (rows n (suc f) left)) → In p (row f 0 n ++ rows n (suc f) left)
    go (inl e) ih = rw e (in_left (rows n (suc from) left) (in_row from to 0 n (omega arith) (omega arith) ne))
    go (inr lt) ih = in_right (row f 0 n) (ih lt (omega arith) t ne)

in_at : (n : ℕ) (p : Pair) (k : ℕ) (d : Pair) (ps : List Pair) → In p ps → Counted n k ps
    → (k ≤ pairs_before n p.from p.to) × (pairs_before n p.from p.to < k + length ps) × (get_or ps (pairs_before n p.from p.to - k) d ≡ p)
in_at n p k d ps (here {ps = rest}) c =
    let e : pairs_before n p.from p.to ≡ k = c.0 in
    let z : pairs_before n p.from p.to - k ≡ 0 = omega arith in
    (omega arith, omega arith, ap (λ (i : ℕ). get_or (p ∷ rest) i d) z)
in_at n p k d ps (there {q} {ps = rest} h) c =
    let (low, high, is) = in_at n p (suc k) d rest h c.1 in
    let z : pairs_before n p.from p.to - k ≡ suc (pairs_before n p.from p.to - suc k) = omega arith in
    (omega arith, omega arith, ap (λ (i : ℕ). get_or (q ∷ rest) i d) z ∙ is)

pub pair_of : (n from to : ℕ) (d : Pair) → from < n → to < n → from ≢ to
    → (pairs_before n from to < n * (n - 1)) × (get_or (pairs n) (pairs_before n from to) d ≡ record { from = from; to = to })
pair_of n from to d hf ht ne =
    let (low, high, is) = in_at n (record { from = from; to = to }) 0 d (pairs n) (in_rows n from to 0 n (omega arith) (omega arith) ht ne) (pairs_counted n) in
    let l = pairs_length n in
    (omega arith, ap (λ (i : ℕ). get_or (pairs n) i d) (let e : pairs_before n from to ≡ pairs_before n from to - 0 = omega arith in e) ∙ is)
