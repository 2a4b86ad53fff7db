-- Laws of lists that are f at each number below n, and of lists that are stored into others.
use Rattle.std.specs.Prelude.{ℕ, zero, suc, ◌+◌, ◌≤◌, ◌<◌, ◌≡◌, refl, Bool, true, false, ◌||◌, List, [], ◌∷◌, ◌++◌, map, length, get_or, take, drop}
use Rattle.std.proofs.Common.{not-suc-le-zero, arith, sym, ap, ◌∙◌, subst, subst₂, append-nil, append_assoc, take-append-drop, ext_get_or, get_or-drop, get_or-take, length-take, length-drop}
use Rattle.std.proofs.lemmas.Bool.{false≢true}
use Rattle.std.proofs.Math.ListN.{get_or-append}
use Rattle.std.proofs.lemmas.List.Edits.{sets}
use Rattle.std.proofs.Math.Seq.{length-sets, drop-append_seam}
use denote.Param.Members.{Mut}
use denote.Ref.{Bor}
use Rattle.std.specs.Fn.{Called}
use Rattle.std.specs.Iterator.{Drains}
use Rattle.std.specs.declared.slice.Iter.{Iter}
use Rattle.std.specs.List.{FoldsTo}
use Rattle.std.proofs.lemmas.Fn.{fold_over, fronts, slice_gives}
use Rattle.model.specs.Rows.{some, span, table, column}
use Rattle.model.proofs.RowLaws.{table_length, table_at, table_same, by, some_snoc, table_snoc}
use Rattle.model.proofs.ColumnLaws.{sets_front}
use Rattle.snapshot.specs.Format.{Each, latest}
use Rattle.snapshot.proofs.ChecksLaws.{latest_snoc}
use Rattle.tables.specs.Judging.{Below}

-- ---- tables seen as lists

module _ {A : Type 0} (f : ℕ → A) where
  pub latest_table : (test : A → Bool) (n : ℕ) → latest test (table (suc n) f) ≡ test (f n)
  latest_table test n = ap (latest test) (table_snoc f n) ∙ latest_snoc test (table n f) (f n)

-- a list is the table of its members
pub as_table : {A : Type 0} (d : A) (xs : List A) → xs ≡ table (length xs) (λ k. get_or xs k d)
as_table d xs =
    ext_get_or d xs (table (length xs) (λ k. get_or xs k d)) (sym (table_length (length xs) (λ k. get_or xs k d)))
    (λ k l. sym (table_at (λ k. get_or xs k d) d (length xs) k l))

pub map_at : {A B : Type 0} (f : A → B) (xs : List A) (d : A) (e : B) (k : ℕ) → k < length xs → get_or (map f xs) k e ≡ f (get_or xs k d)
map_at f [] d e k l = absurd (not-suc-le-zero l)
map_at f (x ∷ xs) d e zero l = refl
map_at f (x ∷ xs) d e (suc k) l = map_at f xs d e k (omega arith)

-- a part of a column is the table of its entries
pub table_part : (xs : List ℕ) (at n : ℕ) → at + n ≤ length xs → table n (λ k. column xs (at + k)) ≡ take n (drop at xs)
table_part xs at n h =
    let f : ℕ → ℕ = λ k. column xs (at + k) in
    let e = table_length n f in
    let d : length (take n (drop at xs)) ≡ n = simp (length-take, length-drop) (omega arith) in
    ext_get_or 0 (table n f) (take n (drop at xs)) (omega arith)
    (λ k l. let m : k < n = omega arith in table_at f 0 n k m ∙ sym (get_or-take n (drop at xs) k 0 m ∙ get_or-drop at xs k 0))

pub table_take : (xs : List ℕ) (n : ℕ) → n ≤ length xs → table n (column xs) ≡ take n xs
table_take xs n h =
    table_same (column xs) (λ k. column xs (0 + k)) n (λ k l. ap (column xs) (let e : k ≡ 0 + k = omega arith in e))
    ∙ table_part xs 0 n (omega arith)

-- ---- each member, given those before it

module _ {A : Type 0} (good : List A → A → Type 0) (f : ℕ → A) where
  each_from : (before : List A) (from n : ℕ) → Each good before (map f (span from n)) → Below n (λ k. good (before ++ map f (span from k)) (f (from + k)))
  each_from before from zero e k l = absurd (not-suc-le-zero l)
  each_from before from (suc n) e zero l = subst₂ good (sym (append-nil before)) (ap f (let z : from ≡ from + 0 = omega arith in z)) e.0
  each_from before from (suc n) e (suc k) l =
      subst₂ good (append_assoc before (f from ∷ []) (map f (span (suc from) k))) (ap f (let z : suc from + k ≡ from + suc k = omega arith in z))
      (each_from (before ++ (f from ∷ [])) (suc from) n e.1 k (omega arith))

  from_each : (before : List A) (from n : ℕ) → Below n (λ k. good (before ++ map f (span from k)) (f (from + k))) → Each good before (map f (span from n))
  from_each before from zero h = tt
  from_each before from (suc n) h = (
    subst₂ good (append-nil before) (ap f (let z : from + 0 ≡ from = omega arith in z)) (h 0 (omega arith)),
    from_each (before ++ (f from ∷ [])) (suc from) n
        (λ k l.
        subst₂ good (sym (append_assoc before (f from ∷ []) (map f (span (suc from) k)))) (ap f (let z : from + suc k ≡ suc from + k = omega arith in z))
        (h (suc k) (omega arith))),
  )

  pub each_below : (n : ℕ) → Each good [] (table n f) → Below n (λ k. good (table k f) (f k))
  each_below n e k l = subst (λ (x : A). good (table k f) x) (ap f (let z : 0 + k ≡ k = omega arith in z)) (each_from [] 0 n e k l)

  pub below_each : (n : ℕ) → Below n (λ k. good (table k f) (f k)) → Each good [] (table n f)
  below_each n h = from_each [] 0 n (λ k l. subst (λ (x : A). good (table k f) x) (ap f (let z : k ≡ 0 + k = omega arith in z)) (h k l))

-- ---- whether some member passes a test

module _ (test : ℕ → Bool) (f : ℕ → ℕ) where
  none_from : (from n : ℕ) → ((k : ℕ) → k < n → test (f (from + k)) ≡ false) → some test (map f (span from n)) ≡ false
  none_from from zero h = refl
  none_from from (suc n) h =
      let here : test (f from) ≡ false = ap (λ (k : ℕ). test (f k)) (let z : from ≡ from + 0 = omega arith in z) ∙ h 0 (omega arith) in
      let later = none_from (suc from) n (λ k l. ap (λ (k : ℕ). test (f k)) (let z : suc from + k ≡ from + suc k = omega arith in z) ∙ h (suc k) (omega arith)) in
      rw (here, later)

  pub none_table : (n : ℕ) → Below n (λ k. test (f k) ≡ false) → some test (table n f) ≡ false
  none_table n h = none_from 0 n (λ k l. ap (λ (k : ℕ). test (f k)) (let z : 0 + k ≡ k = omega arith in z) ∙ h k l)

  some_from : (from n k : ℕ) → k < n → test (f (from + k)) ≡ true → some test (map f (span from n)) ≡ true
  some_from from zero k l e = absurd (not-suc-le-zero l)
  some_from from (suc n) zero l e = rw (ap (λ (k : ℕ). test (f k)) (let z : from ≡ from + 0 = omega arith in z) ∙ e)
  some_from from (suc n) (suc k) l e =
      let later = some_from (suc from) n k (omega arith) (ap (λ (k : ℕ). test (f k)) (let z : suc from + k ≡ from + suc k = omega arith in z) ∙ e) in
      or_true (test (f from)) later
    where
      or_true : (a : Bool) {b : Bool} → b ≡ true → (a || b) ≡ true
      or_true true e = refl
      or_true false e = e

  some_table : (n k : ℕ) → k < n → test (f k) ≡ true → some test (table n f) ≡ true
  some_table n k l e = some_from 0 n k l (ap (λ (k : ℕ). test (f k)) (let z : 0 + k ≡ k = omega arith in z) ∙ e)

  pub table_none : (n : ℕ) → some test (table n f) ≡ false → Below n (λ k. test (f k) ≡ false)
  table_none n e k l = by (test (f k)) (λ t. absurd (false≢true (sym e ∙ some_table n k l t))) (λ t. t)

-- what a fold answers that looks at every member
module _ {F : Type 0} {g : Mut F (Bool × (Bor ℕ × Unit {0})) Bool} {f : F} where
  pub some_over : (test : ℕ → Bool) (s : Iter ℕ) {answer : Bool}
      → (xs : List (Bor ℕ)) × (h : F) × Drains fronts s xs × FoldsTo {P = F × Bool} (λ p x q. Called g p.0 (p.1, (x, tt)) q.1 q.0) (f, false) xs (h, answer)
      → ((found : Bool) (x : Bor ℕ) (next : Bool) (h : F) → Called g f (found, (x, tt)) next h → (next ≡ (found || test x.now)) × (h ≡ f))
      → answer ≡ some test s.rest.now
  some_over test s ran step =
      fold_over fronts (λ x. x.now) g (λ xs found. found ≡ some test xs) f
      (λ xs found x next h so called. let (e, same) = step found x next h called in (e ∙ ap (λ (b : Bool). b || test x.now) so ∙ sym (some_snoc test xs x.now), same))
      s s.rest.now false _ (slice_gives s) refl ran

-- ---- a list that stands at the front of another

-- where to store it would change nothing, it is there
pub stands : (xs vs : List ℕ) → length vs ≤ length xs → sets xs 0 vs ≡ xs → (k : ℕ) → k < length vs → get_or vs k 0 ≡ column xs k
stands xs vs long e k l = sym (get_or-append vs (drop (length vs) xs) 0 k l) ∙ ap (λ (l : List ℕ). get_or l k 0) (sym (sets_front xs vs long) ∙ e)

-- to store it twice is to store it once
pub sets_twice : (xs vs : List ℕ) → length vs ≤ length xs → sets (sets xs 0 vs) 0 vs ≡ sets xs 0 vs
sets_twice xs vs h =
    let long = length-sets xs 0 vs in
    let once = sets_front xs vs h in
    sets_front (sets xs 0 vs) vs (omega arith)
    ∙ ap (λ (d : List ℕ). vs ++ drop (length vs) d) once
    ∙ ap (λ (d : List ℕ). vs ++ d) (drop-append_seam vs (drop (length vs) xs))
    ∙ sym once

-- and what is there is stored with no change
pub stays : (xs : List ℕ) (n : ℕ) → n ≤ length xs → sets xs 0 (table n (column xs)) ≡ xs
stays xs n h =
    let e = table_length n (column xs) in
    sets_front xs (table n (column xs)) (omega arith)
    ∙ ap (λ (k : ℕ). table n (column xs) ++ drop k xs) e
    ∙ ap (λ (l : List ℕ). l ++ drop n xs) (table_take xs n h)
    ∙ take-append-drop n xs
