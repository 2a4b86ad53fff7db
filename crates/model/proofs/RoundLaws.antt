-- Laws of rounds: how a step is repeated until it changes nothing; and loops over routers, whose rows stand in one list, one router's
-- after the other's.
use Rattle.std.specs.Prelude.{ℕ, zero, suc, ◌+◌, ◌-◌, ◌≤◌, ◌<◌, min, ◌≡◌, Bool, cond, eqb, ltb, length, take, drop}
use Rattle.std.proofs.Common.{zero-le, arith, sym, ap, ap₂, ◌∙◌, length-drop, drop-drop, get_or-take, get_or-drop, length-take-le}
use Rattle.std.proofs.Math.Nat.{sub-zero}
use Rattle.std.proofs.Math.Numerals.{add-one}
use Rattle.std.proofs.Math.Path.{refl}
use Rattle.std.proofs.Math.Bool.{not}
use mathlib.Core.List.{List, ◌∷◌, ◌++◌}
use Rattle.std.proofs.Math.ListN.{length-take}
use Rattle.model.specs.Rows.{keep, some, span, table, column, start}
use Rattle.model.proofs.RowLaws.{by, keep_append, in_span, table_same, start_first, start_next, start_within}
use Rattle.model.specs.Decision.{beats_by, unbeaten_by}
use Rattle.model.specs.Contest.{times, least_or}
use Rattle.model.proofs.ContestLaws.{times_stays}
use Rattle.model.proofs.LeastLaws.{least_or_append}
use Rattle.model.specs.Columns.{most_rows, past_keys}
use Rattle.model.specs.Listing.{own_rows, unbeaten_runs, own_places, passed_rows, first_place, round_by, Ready}
use Rattle.model.specs.Lent.{Packed}
use Rattle.model.proofs.ListLaws.{packed_is, packed_append, keep_short}
use Rattle.model.proofs.RunLaws.{first_agree}
use Rattle.model.proofs.ListingLaws.{beaten_low}

-- so many steps are done, and x is where they led
pub record Rounds (step : List ℕ → List ℕ) (n : ℕ) (x₀ : List ℕ) (i : ℕ) (x : List ℕ) : Type 0 where
  pub within : i ≤ n
  pub left : times step n x₀ ≡ times step (n - i) x

module _ {step : List ℕ → List ℕ} {n : ℕ} {x₀ : List ℕ} where
  pub rounds : Rounds step n x₀ 0 x₀
  rounds = record { within = zero-le; left = rw sub-zero }

  module _ {i : ℕ} {x : List ℕ} (s : Rounds step n x₀ i x) where
    pub rounds_end : n ≤ i → x ≡ times step n x₀
    rounds_end l =
        let e : n - i ≡ 0 = omega arith in
        sym (rw e at s.left)

    module _ {x' : List ℕ} (l : i < n) (e : x' ≡ step x) where
      pub rounds_next : Rounds step n x₀ (i + 1) x'
      rounds_next =
          let d : n - i ≡ suc (n - (i + 1)) = omega arith in
          record { within = omega arith; left = (rw d at s.left) ∙ ap (times step (n - (i + 1))) (sym e) }

      pub rounds_still : x' ≡ x → x' ≡ times step n x₀
      rounds_still h = h ∙ sym (s.left ∙ times_stays step (n - i) x (sym h ∙ e))

-- ---- the rows of each router in one list

-- a loop over routers, at r: so many rows are of the routers before it, of n in all
pub record Turn (n : ℕ) (ends : List ℕ) (r from : ℕ) : Type 0 where
  pub within : r ≤ length ends
  pub whole : start ends (length ends) ≡ n
  pub here : from ≡ start ends r

module _ {n : ℕ} {ends : List ℕ} where
  pub turn : start ends (length ends) ≡ n → Turn n ends 0 0
  turn e = record { within = zero-le; whole = e; here = sym (start_first ends) }

  module _ {r from : ℕ} (t : Turn n ends r from) where
    pub turn_next : r < length ends → Turn n ends (r + 1) (from + column ends r)
    turn_next l = record { within = omega arith; whole = t.whole; here = ap (λ (k : ℕ). k + column ends r) t.here ∙ sym (start_next ends r) }

    pub turn_room : r < length ends → from + column ends r ≤ n
    turn_room l = omega (arith, t.here, t.whole, start_within ends r (length ends) l)

-- the same where the rows of the routers before it are taken off the list
pub record Left (rows ends : List ℕ) (r : ℕ) (rest : List ℕ) : Type 0 where
  pub within : r ≤ length ends
  pub whole : start ends (length ends) ≡ length rows
  pub here : rest ≡ drop (start ends r) rows

module _ {rows ends : List ℕ} where
  pub left : start ends (length ends) ≡ length rows → Left rows ends 0 rows
  left e = record { within = zero-le; whole = e; here = sym (ap (λ (n : ℕ). drop n rows) (start_first ends)) }

  module _ {r : ℕ} {rest : List ℕ} (t : Left rows ends r rest) where
    pub left_next : {others : List ℕ} → r < length ends → others ≡ drop (column ends r) rest → Left rows ends (r + 1) others
    left_next l e = record {
      within = omega arith;
      whole = t.whole;
      here = e ∙ ap (drop (column ends r)) t.here ∙ drop-drop (column ends r) (start ends r) rows ∙ ap (λ (n : ℕ). drop n rows) (sym (start_next ends r));
    }

    pub left_room : r < length ends → column ends r ≤ length rest
    left_room l = omega (arith, t.whole, start_within ends r (length ends) l, ap length t.here, length-drop (start ends r) rows)

    -- the router's own are the first that are left
    pub left_own : take (column ends r) rest ≡ own_rows rows ends r
    left_own = ap (take (column ends r)) t.here

-- ---- a loop that packs the unbeaten rows of each router into the front of a list, and has done so for the routers before r
pub record Packing (beat : ℕ → ℕ → Bool) (rows counts order₀ : List ℕ) (r : ℕ) (rest : List ℕ) (m : ℕ) (order : List ℕ) : Type 0 where
  pub at : Left rows counts r rest
  pub few : m ≤ start counts r
  pub packed : Packed m order₀ order (unbeaten_runs beat (own_rows rows counts) r)

module _ {beat : ℕ → ℕ → Bool} {rows counts order₀ : List ℕ} where
  pub packing : start counts (length counts) ≡ length rows → Packing beat rows counts order₀ 0 rows 0 order₀
  unfolding unbeaten_runs
  packing e = record { at = left e; few = zero-le; packed = record { many = refl; room = zero-le; all = refl } }

  module _ {r m : ℕ} {rest order : List ℕ} (s : Packing beat rows counts order₀ r rest m order) where
    pub packing_next : {n j : ℕ} {own others lent : List ℕ} (k : ℕ) → j ≡ r + 1 → r < length counts → own ≡ take (column counts r) rest → others ≡ drop (column counts r) rest
        → Packed n (take k (drop m order)) lent (unbeaten_by beat own own)
        → Packing beat rows counts order₀ j others (m + n) (take m order ++ (lent ++ drop k (drop m order)))
    unfolding unbeaten_runs
    packing_next {n} {own} {lent} k j_is l own_is others_are p =
        let mine = own_rows rows counts r in
        let q : Packed n (take k (drop m order)) lent (unbeaten_by beat mine mine) = packed_is p (ap (λ (part : List ℕ). unbeaten_by beat part part) (own_is ∙ left_own s.at)) in
        rw j_is (record {
          at = left_next s.at l others_are;
          few = omega (arith, s.few, q.many, start_next counts r, keep_short (λ q. not (some (λ p. beat p q) mine)) mine, length-take (column counts r) (drop (start counts r) rows));
          packed = rw add-one (packed_append k s.packed q);
        })

    pub packing_end : length counts ≤ r → Packed m order₀ order (unbeaten_runs beat (own_rows rows counts) (length counts))
    packing_end l = let e : r ≡ length counts = omega (arith, s.at.within) in rw e at s.packed

-- ---- part of a column

-- n entries of a column, from one on
abbrev pub slice : ℕ → ℕ → List ℕ → List ℕ
slice from n xs = take (from + n - from) (drop from xs)

pub slice_long : (from n : ℕ) (xs : List ℕ) → from + n ≤ length xs → length (slice from n xs) ≡ n
slice_long from n xs l = let e : from + n - from ≡ n = omega arith in rw e (length-take-le n (drop from xs) (omega (arith, length-drop from xs)))

slice_at : (from n : ℕ) (xs : List ℕ) (i : ℕ) → i < n → column (slice from n xs) (0 + i) ≡ column xs (from + i)
slice_at from n xs i l =
    let e : from + n - from ≡ n = omega arith in
    let z : 0 + i ≡ i = omega arith in
    rw (e, z) (get_or-take n (drop from xs) i 0 l ∙ get_or-drop from xs i 0)

-- what is found of numbers from a on is what is found of those from b on, where keys and tests agree
shift_least : (past : ℕ) (key key' : ℕ → ℕ) (test test' : ℕ → Bool) (a b n : ℕ) → ((i : ℕ) → i < n → key (a + i) ≡ key' (b + i)) → ((i : ℕ) → i < n → test (a + i) ≡ test' (b + i))
    → least_or past key (keep test (span a n)) ≡ least_or past key' (keep test' (span b n))
shift_least past key key' test test' a b zero f g = refl
shift_least past key key' test test' a b (suc n) f g =
    let ih = shift_least past key key' test test' (suc a) (suc b) n (λ i l. after key key' i (f (suc i) (omega arith))) (λ i l. after test test' i (g (suc i) (omega arith))) in
    let k : key a ≡ key' b = first key key' (f 0 (omega arith)) in
    let t : test a ≡ test' b = first test test' (g 0 (omega arith)) in
    by (test' b) (λ e. rw (t, e) (ap₂ min k ih)) (λ e. rw (t, e) ih)
  where
    after : {A : Type 0} (h h' : ℕ → A) (i : ℕ) → h (a + suc i) ≡ h' (b + suc i) → h (suc a + i) ≡ h' (suc b + i)
    after h h' i e = ap h (omega arith) ∙ e ∙ ap h' (omega arith)

    first : {A : Type 0} (h h' : ℕ → A) → h (a + 0) ≡ h' (b + 0) → h a ≡ h' b
    first h h' e = ap h (omega arith) ∙ e ∙ ap h' (omega arith)

shift_first : (test test' : ℕ → Bool) (a b n : ℕ) → ((i : ℕ) → i < n → test (a + i) ≡ test' (b + i)) → first_place test (span a n) ≡ first_place test' (span b n)
shift_first test test' a b zero g = refl
shift_first test test' a b (suc n) g =
    ap₂ (λ (t : Bool) (k : ℕ). cond t 0 (suc k)) (ap test (omega arith) ∙ g 0 (omega arith) ∙ ap test' (omega arith))
    (shift_first test test' (suc a) (suc b) n (λ i l. ap test (omega arith) ∙ g (suc i) (omega arith) ∙ ap test' (omega arith)))

take_span : (k from n : ℕ) → take k (span from n) ≡ span from (min k n)
take_span zero from n = let e : min 0 n ≡ 0 = omega arith in rw e
take_span (suc k) from zero = let e : min (suc k) 0 ≡ 0 = omega arith in rw e
take_span (suc k) from (suc n) =
    let e : min (suc k) (suc n) ≡ suc (min k n) = omega arith in
    rw e (ap (λ (rows : List ℕ). from ∷ rows) (take_span k (suc from) n))

passed_next : (own : ℕ → List ℕ) (state : List ℕ) (r : ℕ) → passed_rows own state (r + 1) ≡ passed_rows own state r ++ take (suc (column state r)) (own r)
unfolding passed_rows
passed_next own state r = rw add-one

-- ---- a loop that lowers the number of each group by the rows that the routers have passed, and has done so for the routers before r
pub record Passing (group key ends state low₀ : List ℕ) (r from : ℕ) (low : List ℕ) : Type 0 where
  pub at : Turn (length group) ends r from
  pub long : length low ≡ length low₀
  pub done : (k : ℕ) → column low k ≡ least_or (column low₀ k) (column key) (keep (λ q. eqb (column group q) k) (passed_rows (own_places ends) state r))

module _ {group key ends state low₀ : List ℕ} where
  pub passing : start ends (length ends) ≡ length group → Passing group key ends state low₀ 0 0 low₀
  unfolding passed_rows
  passing e = record { at = turn e; long = refl; done = λ k. refl }

  module _ {r from : ℕ} {low : List ℕ} (s : Passing group key ends state low₀ r from low) where
    pub passing_end : length ends ≤ r → (k : ℕ) → column low k ≡ least_or (column low₀ k) (column key) (keep (λ q. eqb (column group q) k) (passed_rows (own_places ends) state (length ends)))
    passing_end l k = s.done k ∙ ap (λ (n : ℕ). least_or (column low₀ k) (column key) (keep (λ q. eqb (column group q) k) (passed_rows (own_places ends) state n))) (omega (arith, s.at.within))

    pub passing_next : {n : ℕ} {low' : List ℕ} → r < length ends → n ≡ min (suc (column state r)) (column ends r) → length low' ≡ length low
        → ((k : ℕ) → column low' k ≡ least_or (column low k) (column (slice from n key)) (keep (λ q. eqb (column (slice from n group) q) k) (span 0 (length (slice from n group)))))
        → Passing group key ends state low₀ (r + 1) (from + column ends r) low'
    passing_next {n} m e l h = record {
      at = turn_next s.at m;
      long = l ∙ s.long;
      done = λ k. let test : ℕ → Bool = λ q. eqb (column group q) k in
          let seen = passed_rows (own_places ends) state r in
          let part = take (suc (column state r)) (own_places ends r) in
          h k
          ∙ ap (λ (z : ℕ). least_or (column low k) (column (slice from n key)) (keep (λ q. eqb (column (slice from n group) q) k) (span 0 z))) (slice_long from n group (omega (arith, turn_room s.at m)))
          ∙ shift_least (column low k) (column (slice from n key)) (column key) (λ q. eqb (column (slice from n group) q) k) test 0 from n
          (λ i j. slice_at from n key i j) (λ i j. ap (λ (g : ℕ). eqb g k) (slice_at from n group i j))
          ∙ ap (λ (rows : List ℕ). least_or (column low k) (column key) (keep test rows)) part_is
          ∙ ap (λ (past : ℕ). least_or past (column key) (keep test part)) (s.done k)
          ∙ sym (least_or_append (column low₀ k) (column key) (keep test seen) (keep test part))
          ∙ ap (least_or (column low₀ k) (column key)) (sym (keep_append test seen part) ∙ ap (keep test) (sym (passed_next (own_places ends) state r)));
    }
      where
        part_is : span from n ≡ take (suc (column state r)) (own_places ends r)
        part_is = ap₂ span s.at.here e ∙ sym (take_span (suc (column state r)) (start ends r) (column ends r))

-- the first place of a router's part that passes is the first of its places
pub slice_first : {n r from : ℕ} {ends : List ℕ} (group med low : List ℕ) → Turn n ends r from → from + column ends r ≤ length group
    → first_place (λ q. not (ltb (column low (column (slice from (column ends r) group) q)) (column (slice from (column ends r) med) q))) (span 0 (length (slice from (column ends r) group)))
    ≡ first_place (λ q. not (ltb (column low (column group q)) (column med q))) (own_places ends r)
slice_first {r} {from} {ends} group med low t l =
    let n = column ends r in
    let g = slice from n group in
    let d = slice from n med in
    let spared : ℕ → Bool = λ q. not (ltb (column low (column group q)) (column med q)) in
    ap (λ (z : ℕ). first_place (λ q. not (ltb (column low (column g q)) (column d q))) (span 0 z)) (slice_long from n group l)
    ∙ shift_first (λ q. not (ltb (column low (column g q)) (column d q))) spared 0 from n
    (λ i j. ap₂ (λ (x y : ℕ). not (ltb (column low x) y)) (slice_at from n group i j) (slice_at from n med i j))
    ∙ ap (λ (s : ℕ). first_place spared (span s n)) t.here

-- ---- the lowest number of each group tells the first place that nothing passed beats

pub round_low : {group med ends : List ℕ} → Ready group med ends → (state low : List ℕ)
    → ((q : ℕ) → column med q ≤ past_keys)
    → ((k : ℕ) → k < most_rows → column low k ≡ least_or past_keys (column med) (keep (λ q. eqb (column group q) k) (passed_rows (own_places ends) state (length ends))))
    → table (length ends) (λ r. first_place (λ q. not (ltb (column low (column group q)) (column med q))) (own_places ends r))
    ≡ round_by (beats_by (column group) (column med)) (own_places ends) (length ends) state
round_low {group} {med} {ends} ready state low high lows =
    table_same (λ r. first_place spared (own_places ends r)) (λ r. first_place free (own_places ends r)) (length ends)
    (λ r l. first_agree spared free (own_places ends r) (λ q m.
    ap not (ap (λ (k : ℕ). ltb k (column med q)) (lows (column group q) (ready.grouped q (omega (
      arith,
      in_span (start ends r) (column ends r) m,
      start_within ends r (length ends) l,
      ready.whole,
    ))))
    ∙ sym (beaten_low (column group) (column med) past_keys q (high q) seen))))
  where
    seen : List ℕ
    seen = passed_rows (own_places ends) state (length ends)

    spared : ℕ → Bool
    spared q = not (ltb (column low (column group q)) (column med q))

    free : ℕ → Bool
    free q = not (some (λ p. beats_by (column group) (column med) p q) seen)
