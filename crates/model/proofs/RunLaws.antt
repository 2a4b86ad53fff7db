-- A list that has the items of a contest owner after owner, each owner's by place: rounds along it are rounds of the contest.
use Prim.Native.Nat.{ℕ, zero, suc, ◌+◌, ◌≤◌, ◌<◌}
use Rattle.std.proofs.Common.{arith, ap, subst, ◌∙◌, eqb→eq, leb→le, drop-cons, eqb-true, leb-true, leb-false, eq-eqb, ne_eqb, lt-ltb, le-leb}
use Rattle.std.specs.Prelude.{◌≡◌, Bool, true, cond, ◌&&◌, ◌||◌, not, T, eqb, ltb, leb, length, get_or, drop}
use Rattle.std.proofs.Math.Path.{refl, sym, ap₂}
use Rattle.std.proofs.Math.Logic.{inl, inr}
use mathlib.Core.List.{List, [], ◌∷◌, ◌++◌, map, append_assoc, append-nil}
use Rattle.std.proofs.Math.ListN.{take}
use Rattle.std.proofs.lemmas.Bool.{eqb-false, lt-leb}
use Rattle.model.specs.Rows.{keep, some, count, span, column, start}
use Rattle.model.proofs.RowLaws.{by, In, here, there, nowhere, in_cases, empty_of, in_append, in_keep, keep_in, keep_keep, keep_all, keep_append, some_kept, Agree, keep_agree, some_agree, count_all, count_length, in_span, table_same, start_within}
use Rattle.model.specs.Contest.{Contest, least_or, end, passed, first_free, refine}
use Rattle.model.proofs.LeastLaws.{least_or_past, least_or_le, le_least_or}
use Rattle.model.proofs.OrderLaws.{Ordered, ordered_first, ordered_later}
use Rattle.model.specs.Listing.{own_rows, own_places, passed_rows, first_place, round_by}

-- ---- two lists with the same members

-- as many members of each kind
abbrev pub Same : List ℕ → List ℕ → Type 0
Same a b = (test : ℕ → Bool) → count test a ≡ count test b

some_count : (test : ℕ → Bool) (rows : List ℕ) → some test rows ≡ ltb 0 (count test rows)
some_count test [] = refl
some_count test (q ∷ rows) =
    let ih = some_count test rows in
    by (test q) (λ e. rw e (sym (lt-ltb 0 (suc (count test rows)) (omega arith)))) (λ e. rw e ih)

least_or_part : (past : ℕ) (key : ℕ → ℕ) (a b : List ℕ) → ((q : ℕ) → In q b → In q a) → least_or past key a ≤ least_or past key b
least_or_part past key a b f = le_least_or past key b (least_or_past past key a) (λ q m. least_or_le past key a (f q m))

module _ (a b : List ℕ) (same : Same a b) where
  pub some_same : (test : ℕ → Bool) → some test a ≡ some test b
  some_same test = some_count test a ∙ ap (ltb 0) (same test) ∙ sym (some_count test b)

  pub in_same : (q : ℕ) → In q a → In q b
  in_same q m = record { found = subst T (some_same (eqb q)) m.found }

  pub length_same : length a ≡ length b
  length_same = sym (count_all a) ∙ same (λ q. true) ∙ count_all b

  keep_same : (test : ℕ → Bool) (q : ℕ) → In q (keep test a) → In q (keep test b)
  keep_same test q m = let k = keep_in test a m in in_keep test b (in_same q k.0) k.1

pub least_or_same : (past : ℕ) (key : ℕ → ℕ) (test : ℕ → Bool) (a b : List ℕ) → Same a b → least_or past key (keep test a) ≡ least_or past key (keep test b)
least_or_same past key test a b same =
    omega (
      arith,
      least_or_part past key (keep test a) (keep test b) (keep_same b a (λ t. sym (same t)) test),
      least_or_part past key (keep test b) (keep test a) (keep_same a b same test),
    )

-- ---- a list by place

-- the keys of the members are from, from + 1, ..
abbrev pub Places : (ℕ → ℕ) → ℕ → List ℕ → Type 0
Places key from [] = Unit {0}
Places key from (q ∷ rows) = (key q ≡ from) × Places key (suc from) rows

module _ (key : ℕ → ℕ) where
  places_low : {q : ℕ} (from : ℕ) (rows : List ℕ) → Places key from rows → In q rows → from ≤ key q
  places_low from [] p m = absurd (nowhere m)
  places_low from (z ∷ rows) p m = elim (in_cases m) [
    | inl e ↦ (let k = ap key e in omega (arith, p.0))
    | inr n ↦ omega (arith, places_low (suc from) rows p.1 n)
  ]

  -- a test for what is before a list by place keeps nothing of it
  places_none : (test : ℕ → Bool) (from : ℕ) (rows : List ℕ) → Places key from rows → ((q : ℕ) → T (test q) → key q < from) → keep test rows ≡ []
  places_none test from rows p f = empty_of (keep test rows) (λ q m. let k = keep_in test rows m in omega (arith, f q k.1, places_low from rows p k.0))

  -- the first place of a list is the least place
  first_least : (test : ℕ → Bool) (from : ℕ) (rows : List ℕ) → Places key from rows → from + first_place test rows ≡ least_or (from + length rows) key (keep test rows)
  first_least test from [] p = refl
  first_least test from (q ∷ rows) p =
      let past = from + suc (length rows) in
      let low : from ≤ least_or past key (keep test rows) = le_least_or past key (keep test rows) (omega arith) (λ z m. omega (arith, places_low (suc from) rows p.1 (keep_in test rows m).0)) in
      let ih = first_least test (suc from) rows p.1 in
      let e : suc from + length rows ≡ past = omega arith in
      let next = ih ∙ ap (λ (n : ℕ). least_or n key (keep test rows)) e in
      by (test q) (λ h. rw h (omega (arith, p.0))) (λ h. rw h (omega arith))

  -- the front of it is told by place
  take_places : (k from : ℕ) (rows : List ℕ) → Places key from rows → take (suc k) rows ≡ keep (λ q. leb (key q) (from + k)) rows
  take_places k from [] p = refl
  take_places zero from (q ∷ rows) p =
      rw (le-leb (key q) (from + 0) (omega (arith, p.0)), places_none (λ z. leb (key z) (from + 0)) (suc from) rows p.1 (λ z t. omega (arith, leb→le (key z) (from + 0) t)))
  take_places (suc k) from (q ∷ rows) p =
      let e : suc from + k ≡ from + suc k = omega arith in
      rw (le-leb (key q) (from + suc k) (omega (arith, p.0)))
      (ap (λ (xs : List ℕ). q ∷ xs) (take_places k (suc from) rows p.1 ∙ ap (λ (n : ℕ). keep (λ z. leb (key z) n) rows) e))

  -- and so is the row at a place
  pub at_places : (past k from : ℕ) (rows : List ℕ) → Places key from rows → ((q : ℕ) → In q rows → q ≤ past)
      → get_or rows k past ≡ least_or past (λ q. q) (keep (λ q. eqb (key q) (from + k)) rows)
  at_places past k from [] p f = refl
  at_places past zero from (q ∷ rows) p f =
      let l = f q (here refl) in
      rw (eq-eqb (key q) (from + 0) (omega (arith, p.0)), places_none (λ z. eqb (key z) (from + 0)) (suc from) rows p.1 (λ z t. omega (arith, eqb→eq (key z) (from + 0) t)))
      (omega arith)
  at_places past (suc k) from (q ∷ rows) p f =
      let e : suc from + k ≡ from + suc k = omega arith in
      rw (ne_eqb (key q) (from + suc k) (λ h. omega (arith, p.0)))
      (at_places past k (suc from) rows p.1 (λ z m. f z (there m)) ∙ ap (λ (n : ℕ). least_or past (λ z. z) (keep (λ z. eqb (key z) n) rows)) e)

  -- a list in order is a list by place where the key of each is the number of those before it
  module _ (less : ℕ → ℕ → Bool) (chains : (a b c : ℕ) → T (less a b) → T (less b c) → T (less a c)) (irrefl : (a : ℕ) → T (less a a) → ⊥) where
    pub ordered_places : (from : ℕ) (rows : List ℕ) → Ordered less rows → ((q : ℕ) → In q rows → key q ≡ from + count (λ p. less p q) rows) → Places key from rows
    ordered_places from [] o f = tt
    ordered_places from (p ∷ rows) o f = (
      omega (arith, f p (here refl), ordered_first less chains irrefl p rows o),
      ordered_places (suc from) rows o.1 (λ q m. omega (arith, f q (there m), ordered_later less p rows o m)),
    )

-- ---- the runs of a list, key after key

-- the members with key 0, those with key 1, .. , each in their order
abbrev pub runs_below : (ℕ → ℕ) → List ℕ → ℕ → List ℕ
runs_below key rows zero = []
runs_below key rows (suc n) = runs_below key rows n ++ keep (λ q. eqb (key q) n) rows

module _ (key : ℕ → ℕ) (less : ℕ → ℕ → Bool) (rises : (p q : ℕ) → T (less p q) → key p ≤ key q) where
  run_none : (n p : ℕ) (rows : List ℕ) → Ordered less (p ∷ rows) → n < key p → keep (λ q. eqb (key q) n) rows ≡ []
  run_none n p rows o l = empty_of (keep (λ q. eqb (key q) n) rows)
      (λ q m. let k = keep_in (λ q. eqb (key q) n) rows m in omega (arith, rises p q (o.0 q k.0), eqb→eq (key q) n k.1))

  -- in order the keys rise, so of those from n on the ones with n come first
  pub run_next : (n : ℕ) (rows : List ℕ) → Ordered less rows → keep (λ q. leb n (key q)) rows ≡ keep (λ q. eqb (key q) n) rows ++ keep (λ q. leb (suc n) (key q)) rows
  run_next n [] o = refl
  run_next n (p ∷ rows) o =
      let ih = run_next n rows o.1 in
      let on = ap (λ (xs : List ℕ). p ∷ xs) ih in
      by (eqb (key p) n)
      (λ e. let k = eqb-true (key p) n e in rw (e, le-leb n (key p) (omega arith), lt-leb (suc n) (key p) (omega arith)) on)
      (λ e. let k = eqb-false (key p) n e in
      by (leb n (key p))
      (λ l. let h : n < key p = omega (arith, k, leb-true n (key p) l) in
      rw (e, l, le-leb (suc n) (key p) h, run_none n p rows o h) (rw (run_none n p rows o h) at on))
      (λ l. rw (e, l, lt-leb (suc n) (key p) (omega (arith, leb-false n (key p) l))) ih))

  pub runs_split : (n : ℕ) (rows : List ℕ) → Ordered less rows → rows ≡ runs_below key rows n ++ keep (λ q. leb n (key q)) rows
  runs_split zero rows o = sym (keep_agree (λ q. leb 0 (key q)) (λ q. true) rows (λ q m. le-leb 0 (key q) (omega arith)) ∙ keep_all rows)
  runs_split (suc n) rows o =
      runs_split n rows o
      ∙ ap (λ (xs : List ℕ). runs_below key rows n ++ xs) (run_next n rows o)
      ∙ sym (append_assoc (runs_below key rows n) (keep (λ q. eqb (key q) n) rows) (keep (λ q. leb (suc n) (key q)) rows))

  -- where every key is below n the runs are the whole list
  pub runs_whole : (n : ℕ) (rows : List ℕ) → Ordered less rows → ((q : ℕ) → In q rows → key q < n) → rows ≡ runs_below key rows n
  runs_whole n rows o f =
      runs_split n rows o
      ∙ ap (λ (xs : List ℕ). runs_below key rows n ++ xs)
      (empty_of (keep (λ q. leb n (key q)) rows) (λ q m. let k = keep_in (λ q. leb n (key q)) rows m in omega (arith, f q k.0, leb→le n (key q) k.1)))
      ∙ append-nil (runs_below key rows n)

-- ---- rounds

-- `own` lists the items of each owner by place, and `order` all of them, owner after owner
pub record Listed (C : Contest) (own : ℕ → List ℕ) (order : List ℕ) : Type 0 where
  pub same : Same order C.items
  pub whole : order ≡ runs_below C.owner order C.owners
  pub runs : (r : ℕ) → r < C.owners → own r ≡ keep (λ q. eqb (C.owner q) r) order
  pub places : (r : ℕ) → r < C.owners → Places C.place 0 (own r)

module _ (C : Contest) (own : ℕ → List ℕ) (order : List ℕ) (s : Listed C own order) where
  -- q is an item of r's
  abbrev mine : ℕ → ℕ → Bool
  mine r q = eqb (C.owner q) r

  -- q is at or before the place that its owner has
  abbrev is_passed : List ℕ → ℕ → Bool
  is_passed x q = leb (C.place q) (column x (C.owner q))

  own_length : (r : ℕ) → r < C.owners → length (own r) ≡ end C r
  own_length r l = ap length (s.runs r l) ∙ sym (count_length (mine r) order) ∙ s.same (mine r)

  run_passed : (x : List ℕ) (n : ℕ) → n < C.owners → take (suc (column x n)) (own n) ≡ keep (is_passed x) (keep (mine n) order)
  run_passed x n l =
      take_places C.place (column x n) 0 (own n) (s.places n l)
      ∙ ap₂ (λ (k : ℕ) (rows : List ℕ). keep (λ q. leb (C.place q) k) rows) (omega arith) (s.runs n l)
      ∙ keep_agree (λ q. leb (C.place q) (column x n)) (is_passed x) (keep (mine n) order)
      (λ q m. ap (λ (o : ℕ). leb (C.place q) (column x o)) (sym (eqb→eq (C.owner q) n (keep_in (mine n) order m).1)))

  passed_runs : (x : List ℕ) (n : ℕ) → n ≤ C.owners → passed_rows own x n ≡ keep (is_passed x) (runs_below C.owner order n)
  unfolding passed_rows
  passed_runs x zero l = refl
  passed_runs x (suc n) l =
      ap₂ (λ (a b : List ℕ). a ++ b) (passed_runs x n (omega arith)) (run_passed x n l)
      ∙ sym (keep_append (is_passed x) (runs_below C.owner order n) (keep (mine n) order))

  -- the rows passed are the items passed
  passed_listed : (x : List ℕ) (test : ℕ → Bool) → some test (passed_rows own x C.owners) ≡ some test (passed C x)
  passed_listed x test =
      ap (some test) (passed_runs x C.owners (omega arith) ∙ ap (keep (is_passed x)) (sym s.whole))
      ∙ some_kept (is_passed x) test order
      ∙ some_same order C.items s.same (λ q. is_passed x q && test q)
      ∙ sym (some_kept (is_passed x) test C.items)

  -- a round along the lists is a round of the contest, with any test that agrees on what beats what
  pub round_listed : (beat : ℕ → ℕ → Bool) → ((q : ℕ) → In q C.items → Agree (λ p. beat p q) (λ p. C.beats p q) C.items) → (x : List ℕ) → round_by beat own C.owners x ≡ refine C x
  round_listed beat agree x = table_same (λ r. first_place free (own r)) (first_free C (passed C x)) C.owners each
    where
      free : ℕ → Bool
      free q = not (some (λ p. beat p q) (passed_rows own x C.owners))

      free' : ℕ → Bool
      free' q = not (some (λ p. C.beats p q) (passed C x))

      free_is : Agree free free' C.items
      free_is q m = ap not (passed_listed x (λ p. beat p q) ∙ some_agree (λ p. beat p q) (λ p. C.beats p q) (passed C x) (λ p n. agree q m p (keep_in (is_passed x) C.items n).0))

      each : (r : ℕ) → r < C.owners → first_place free (own r) ≡ first_free C (passed C x) r
      each r l =
          let place = C.place in
          let e : 0 + first_place free (own r) ≡ least_or (0 + length (own r)) place (keep free (own r)) = first_least place free 0 (own r) (s.places r l) in
          let d : 0 + length (own r) ≡ end C r = omega (arith, own_length r l) in
          omega arith
          ∙ e
          ∙ ap₂ (λ (n : ℕ) (rows : List ℕ). least_or n place rows) d (ap (keep free) (s.runs r l) ∙ keep_keep free (mine r) order)
          ∙ least_or_same (end C r) place (λ q. mine r q && free q) order C.items s.same
          ∙ ap (least_or (end C r) place) (keep_agree (λ q. mine r q && free q) (λ q. mine r q && free' q) C.items (λ q m. ap (λ (b : Bool). mine r q && b) (free_is q m)))

-- ---- rounds along the places of a list are rounds along its rows

module _ (f : ℕ → ℕ) where
  some_map : (test : ℕ → Bool) (rows : List ℕ) → some test (map f rows) ≡ some (λ q. test (f q)) rows
  some_map test [] = refl
  some_map test (q ∷ rows) = ap (λ (b : Bool). test (f q) || b) (some_map test rows)

  first_map : (test : ℕ → Bool) (rows : List ℕ) → first_place test (map f rows) ≡ first_place (λ q. test (f q)) rows
  first_map test [] = refl
  first_map test (q ∷ rows) = ap (λ (n : ℕ). cond (test (f q)) 0 (suc n)) (first_map test rows)

  take_map : (n : ℕ) (rows : List ℕ) → take n (map f rows) ≡ map f (take n rows)
  take_map zero rows = refl
  take_map (suc n) [] = refl
  take_map (suc n) (q ∷ rows) = ap (λ (xs : List ℕ). f q ∷ xs) (take_map n rows)

  append_map : (a b : List ℕ) → map f (a ++ b) ≡ map f a ++ map f b
  append_map [] b = refl
  append_map (q ∷ a) b = ap (λ (xs : List ℕ). f q ∷ xs) (append_map a b)

  passed_map : (own : ℕ → List ℕ) (x : List ℕ) (n : ℕ) → passed_rows (λ r. map f (own r)) x n ≡ map f (passed_rows own x n)
  unfolding passed_rows
  passed_map own x zero = refl
  passed_map own x (suc n) =
      ap₂ (λ (a b : List ℕ). a ++ b) (passed_map own x n) (take_map (suc (column x n)) (own n))
      ∙ sym (append_map (passed_rows own x n) (take (suc (column x n)) (own n)))

pub first_agree : (t u : ℕ → Bool) (rows : List ℕ) → Agree t u rows → first_place t rows ≡ first_place u rows
first_agree t u [] h = refl
first_agree t u (q ∷ rows) h = ap₂ (λ (b : Bool) (n : ℕ). cond b 0 (suc n)) (h q (here refl)) (first_agree t u rows (λ z m. h z (there m)))

take_in : {q : ℕ} (n : ℕ) (rows : List ℕ) → In q (take n rows) → In q rows
take_in zero rows m = absurd (nowhere m)
take_in (suc n) [] m = m
take_in (suc n) (p ∷ rows) m = elim (in_cases m) [ inl e ↦ here e | inr k ↦ there (take_in n rows k) ]

-- a part of a list is what stands at its places
part_at : (rows : List ℕ) (from n : ℕ) → from + n ≤ length rows → take n (drop from rows) ≡ map (column rows) (span from n)
part_at rows from zero l = refl
part_at rows from (suc n) l =
    ap (take (suc n)) (drop-cons rows from 0 (omega arith))
    ∙ ap (λ (xs : List ℕ). column rows from ∷ xs) (part_at rows (suc from) n (omega arith))

-- the rows of each router stand within the list
module _ (order ends : List ℕ) (whole : start ends (length ends) ≡ length order) where
  own_within : (r : ℕ) → r < length ends → start ends r + column ends r ≤ length order
  own_within r l = omega (arith, start_within ends r (length ends) l, whole)

  own_map : (r : ℕ) → r < length ends → own_rows order ends r ≡ map (column order) (own_places ends r)
  own_map r l = part_at order (start ends r) (column ends r) (own_within r l)

  passed_own : (x : List ℕ) (n : ℕ) → n ≤ length ends → passed_rows (own_rows order ends) x n ≡ passed_rows (λ r. map (column order) (own_places ends r)) x n
  unfolding passed_rows
  passed_own x zero l = refl
  passed_own x (suc n) l = ap₂ (λ (a b : List ℕ). a ++ take (suc (column x n)) b) (passed_own x n (omega arith)) (own_map n l)

  passed_within : (x : List ℕ) (n : ℕ) → n ≤ length ends → (q : ℕ) → In q (passed_rows (own_places ends) x n) → q < length order
  unfolding passed_rows
  passed_within x zero l q m = absurd (nowhere m)
  passed_within x (suc n) l q m = elim (in_append (passed_rows (own_places ends) x n) (take (suc (column x n)) (own_places ends n)) m) [
    | inl k ↦ passed_within x n (omega arith) q k
    | inr k ↦ omega (arith, in_span (start ends n) (column ends n) (take_in (suc (column x n)) (own_places ends n) k), own_within n l)
  ]

  pub round_places : (beat beat' : ℕ → ℕ → Bool) → ((p q : ℕ) → p < length order → q < length order → beat p q ≡ beat' (column order p) (column order q))
      → (x : List ℕ) → round_by beat (own_places ends) (length ends) x ≡ round_by beat' (own_rows order ends) (length ends) x
  round_places beat beat' agree x = table_same (λ r. first_place free (own_places ends r)) (λ r. first_place free' (own_rows order ends r)) (length ends) (λ r l.
      first_agree free (λ q. free' (column order q)) (own_places ends r) (λ q m. free_is q (omega (arith, in_span (start ends r) (column ends r) m, own_within r l)))
      ∙ sym (first_map (column order) free' (own_places ends r))
      ∙ ap (first_place free') (sym (own_map r l)))
    where
      seen : List ℕ
      seen = passed_rows (own_places ends) x (length ends)

      free : ℕ → Bool
      free q = not (some (λ p. beat p q) seen)

      free' : ℕ → Bool
      free' q = not (some (λ p. beat' p q) (passed_rows (own_rows order ends) x (length ends)))

      free_is : (q : ℕ) → q < length order → free q ≡ free' (column order q)
      free_is q l = ap not (
          some_agree (λ p. beat p q) (λ p. beat' (column order p) (column order q)) seen (λ p m. agree p q (passed_within x (length ends) (omega arith) p m) l)
          ∙ sym (some_map (column order) (λ p. beat' p (column order q)) seen)
          ∙ ap (some (λ p. beat' p (column order q))) (sym (passed_own x (length ends) (omega arith) ∙ passed_map (column order) (own_places ends) x (length ends))))
