-- How passes alter columns row by row, and how they come together.
use Rattle.std.specs.Prelude.{ℕ, zero, suc, ◌+◌, ◌-◌, ◌≤◌, ◌<◌, ◌≡◌, ◌≢◌, refl, Bool, true, false, cond, List, [], ◌∷◌, ◌++◌, length, get_or, set, take, drop, leb, ltb}
use borrow.Rule.Slice.PartMut.{mid_of, post_of, put_mid}
use Rattle.std.proofs.lemmas.List.{get_or-append_right, get_or-take, get_or-replicate, length-take, length-take-le, length-replicate}
use Rattle.std.proofs.Math.ListN.{get_or-append}
use Rattle.std.proofs.Common.{not-suc-le-zero, add-one, arith, replicate, sym, ap, ap₂, ◌∙◌, subst, length-set, length-append, length-drop, get_or-drop, ext_get_or, get_or-set_same, get_or-set_other, lt-ltb, le-ltb, le-leb}
use Rattle.std.proofs.Math.Decide.{dec_le, ℕ_discrete}
use Rattle.std.proofs.lemmas.Bool.{lt-leb}
use Rattle.model.specs.Rows.{table, column, start}
use Rattle.model.proofs.RowLaws.{table_length, table_at, table_same, start_first, start_next, start_within}
use Rattle.model.specs.Decision.{Route}
use Rattle.snapshot.specs.Tables.{Columns, columns, Tables}
use Rattle.tables.specs.Judging.{route_at}
use Rattle.tables.specs.PartsLaws.{columns_are}
use Rattle.policy.specs.Policy.{Session, Policy}
use Rattle.policy.specs.Rewriting.{usual, with, by_session, with_rows}
use Rattle.policy.specs.Passing.{unruled, pass, passes}
use Rattle.passes.specs.Passes.{entry, entries, altered, owner_of, Owned, of_row, prefix_field, ruled_row, passed_all, applied, Long, Told, Lent}

-- ---- a field altered row by row

pub entry_new : (n : ℕ) (new : ℕ → ℕ) (xs : List ℕ) (q : ℕ) → q < n → entry n new xs q ≡ new q
entry_new n new xs q l = ap (λ (b : Bool). cond b (new q) (column xs q)) (lt-ltb q n l)

pub entry_old : (n : ℕ) (new : ℕ → ℕ) (xs : List ℕ) (q : ℕ) → n ≤ q → entry n new xs q ≡ column xs q
entry_old n new xs q l = ap (λ (b : Bool). cond b (new q) (column xs q)) (le-ltb q n l)

-- rows from n on are as they were, also where one more is new
entry_step : (n : ℕ) (new : ℕ → ℕ) (xs : List ℕ) (q : ℕ) → q ≢ n → entry n new xs q ≡ entry (n + 1) new xs q
entry_step n new xs q ne = go (dec_le n q)
  where
    go : Dec (n ≤ q) → entry n new xs q ≡ entry (n + 1) new xs q
    go (yes h) = entry_old n new xs q h ∙ sym (entry_old (n + 1) new xs q (omega arith))
    go (no h) = entry_new n new xs q (omega arith) ∙ sym (entry_new (n + 1) new xs q (omega arith))

entries_at : (n : ℕ) (new : ℕ → ℕ) (xs : List ℕ) (q : ℕ) → q < length xs → column (entries n new xs) q ≡ entry n new xs q
entries_at n new xs q l = table_at (entry n new xs) 0 (length xs) q l

entries_length : (n : ℕ) (new : ℕ → ℕ) (xs : List ℕ) → length (entries n new xs) ≡ length xs
entries_length n new xs = table_length (length xs) (entry n new xs)

-- a list of which no entry is new
entries_none : (new : ℕ → ℕ) (xs : List ℕ) → entries 0 new xs ≡ xs
entries_none new xs = ext_get_or 0 (entries 0 new xs) xs (entries_length 0 new xs) (λ k l. entries_at 0 new xs k (omega (arith, entries_length 0 new xs)) ∙ entry_old 0 new xs k (omega arith))

-- one entry more
entries_next : {n v : ℕ} (new : ℕ → ℕ) (xs : List ℕ) → n < length xs → v ≡ new n → set (entries n new xs) n v ≡ entries (n + 1) new xs
entries_next {n} {v} new xs h e =
    let a = length-set (entries n new xs) n v in
    let b = entries_length n new xs in
    ext_get_or 0 (set (entries n new xs) n v) (entries (n + 1) new xs) (a ∙ b ∙ sym (entries_length (n + 1) new xs))
    (λ k l. at k (omega arith) (ℕ_discrete k n))
  where
    at : (k : ℕ) → k < length xs → Dec (k ≡ n) → get_or (set (entries n new xs) n v) k 0 ≡ get_or (entries (n + 1) new xs) k 0
    at k l (yes is) =
        ap (λ (m : ℕ). get_or (set (entries n new xs) n v) m 0) is
        ∙ get_or-set_same (entries n new xs) n v 0 (omega (arith, entries_length n new xs))
        ∙ e
        ∙ sym (ap (λ (m : ℕ). get_or (entries (n + 1) new xs) m 0) is ∙ entries_at (n + 1) new xs n h ∙ entry_new (n + 1) new xs n (omega arith))
    at k l (no ne) =
        get_or-set_other (entries n new xs) n k v 0 ne
        ∙ entries_at n new xs k l ∙ entry_step n new xs k ne ∙ sym (entries_at (n + 1) new xs k l)

-- that stays as it was
entries_skip : (n : ℕ) (new : ℕ → ℕ) (xs : List ℕ) → new n ≡ column xs n → entries n new xs ≡ entries (n + 1) new xs
entries_skip n new xs e = table_same (entry n new xs) (entry (n + 1) new xs) (length xs) (λ k l. at k (ℕ_discrete k n))
  where
    at : (k : ℕ) → Dec (k ≡ n) → entry n new xs k ≡ entry (n + 1) new xs k
    at k (yes is) =
        ap (entry n new xs) is ∙ entry_old n new xs n (omega arith) ∙ sym e
        ∙ sym (entry_new (n + 1) new xs n (omega arith)) ∙ sym (ap (entry (n + 1) new xs) is)
    at k (no ne) = entry_step n new xs k ne

-- the first so many filled with one number
pub entries_filled : (n v : ℕ) (xs ys : List ℕ) → n ≤ length xs → ys ≡ replicate (length (take n xs)) v → ys ++ drop n xs ≡ entries n (λ q. v) xs
entries_filled n v xs ys room e =
    let some = length-take-le n xs room in
    let a : length ys ≡ n = ap length e ∙ length-replicate (length (take n xs)) v ∙ some in
    let b = length-append ys (drop n xs) in
    let d = length-drop n xs in
    ext_get_or 0 (ys ++ drop n xs) (entries n (λ q. v) xs) (omega (arith, entries_length n (λ q. v) xs))
    (λ k l. at k a (dec_le n k) ∙ sym (entries_at n (λ q. v) xs k (omega arith)))
  where
    at : (k : ℕ) → length ys ≡ n → Dec (n ≤ k) → get_or (ys ++ drop n xs) k 0 ≡ entry n (λ q. v) xs k
    at k a (yes h) =
        get_or-append_right ys (drop n xs) n k 0 a h
        ∙ get_or-drop n xs (k - n) 0
        ∙ ap (λ (j : ℕ). get_or xs j 0) (let j : n + (k - n) ≡ k = omega arith in j)
        ∙ sym (entry_old n (λ q. v) xs k h)
    at k a (no h) =
        get_or-append ys (drop n xs) 0 k (omega arith)
        ∙ ap (λ (zs : List ℕ). get_or zs k 0) e
        ∙ get_or-replicate (length (take n xs)) k v 0 (omega (arith, length-take-le n xs room))
        ∙ sym (entry_new n (λ q. v) xs k (omega arith))

-- ---- one pass along the rows

-- the columns that are rewritten have so many rows
pub record Has (n : ℕ) (c : Columns) : Type 0 where
  pub preference : n ≤ length c.preference
  pub mark : n ≤ length c.mark
  pub med : n ≤ length c.med

module _ (f : ℕ → Route → Route) (c : Columns) where
  -- no row is altered
  pub altered_none : altered 0 f c ≡ c
  altered_none =
      columns_are c refl refl
      (entries_none (λ q. (f q (route_at c q)).preference) c.preference)
      refl refl
      (entries_none (λ q. (f q (route_at c q)).mark) c.mark)
      (entries_none (λ q. (f q (route_at c q)).med) c.med)
      refl refl

  -- one row more, that keeps all three
  pub altered_skip : (n : ℕ) → f n (route_at c n) ≡ route_at c n → altered n f c ≡ altered (n + 1) f c
  altered_skip n e =
      columns_are (altered (n + 1) f c) refl refl
      (entries_skip n (λ q. (f q (route_at c q)).preference) c.preference (ap (λ (r : Route). r.preference) e))
      refl refl
      (entries_skip n (λ q. (f q (route_at c q)).mark) c.mark (ap (λ (r : Route). r.mark) e))
      (entries_skip n (λ q. (f q (route_at c q)).med) c.med (ap (λ (r : Route). r.med) e))
      refl refl

  -- that is rewritten by a session
  pub altered_next : {n : ℕ} → Has (n + 1) c → (s : Session) (address bits : ℕ) → f n (route_at c n) ≡ by_session s address bits (route_at c n)
      → ruled_row s.clauses s.zero address bits n (altered n f c) ≡ altered (n + 1) f c
  altered_next {n} has s address bits e =
      columns_are (altered (n + 1) f c) refl refl
      (entries_next (λ q. (f q (route_at c q)).preference) c.preference (omega (arith, has.preference)) (sym (ap (λ (r : Route). r.preference) e)))
      refl refl
      (reset s.zero (λ q. (f q (route_at c q)).mark) c.mark (omega (arith, has.mark)) 1 (ap (λ (r : Route). r.mark) e))
      (reset s.zero (λ q. (f q (route_at c q)).med) c.med (omega (arith, has.med)) 0 (ap (λ (r : Route). r.med) e))
      refl refl
    where
      reset : (zero : Bool) (new : ℕ → ℕ) (xs : List ℕ) → n < length xs → (v : ℕ) → new n ≡ cond zero v (column xs n)
          → cond zero (set (entries n new xs) n v) (entries n new xs) ≡ entries (n + 1) new xs
      reset true new xs l v is = entries_next new xs l (sym is)
      reset false new xs l v is = entries_skip n new xs is

-- ---- the prefix of a row

pub owned : (routes owner : List ℕ) → Owned routes 0 owner
owned routes owner = record { marked = λ q l. absurd (let e = start_first routes in omega arith) }

module _ {routes owner : List ℕ} {p : ℕ} (o : Owned routes p owner) where
  -- the rows of one more prefix are marked
  pub owned_next : (row count : ℕ) (marks : List ℕ) → row ≡ start routes p → count ≡ column routes p → row + count ≤ length owner
      → marks ≡ replicate (length (mid_of row (row + count - row) owner)) p → Owned routes (p + 1) (put_mid row (row + count - row) owner marks)
  owned_next row count marks s e room filled = record {
    marked = λ q l. at q (subst (λ (x : ℕ). q < x) (start_next routes p) l) (dec_le row q) ∙ ap (λ (n : ℕ). owner_of routes n q) (sym (add-one p));
  }
    where
      is : marks ≡ replicate count p
      is =
          let long : length (mid_of row (row + count - row) owner) ≡ count = omega (arith, length-take (row + count - row) (drop row owner), length-drop row owner) in
          filled ∙ ap (λ (m : ℕ). replicate m p) long

      at : (q : ℕ) → q < start routes p + column routes p → Dec (row ≤ q) → column (put_mid row (row + count - row) owner marks) q ≡ owner_of routes (suc p) q
      at q l (yes h) =
          get_or-append_right (take row owner) (marks ++ post_of row (row + count - row) owner) row q 0 (length-take-le row owner (omega arith)) h
          ∙ get_or-append marks (post_of row (row + count - row) owner) 0 (q - row) (omega (arith, ap length is, length-replicate count p))
          ∙ ap (λ (xs : List ℕ). get_or xs (q - row) 0) is
          ∙ get_or-replicate count (q - row) p 0 (omega arith)
          ∙ sym (ap (λ (b : Bool). cond b p (owner_of routes p q)) (le-leb (start routes p) q (omega arith)))
      at q l (no h) =
          get_or-append (take row owner) (marks ++ post_of row (row + count - row) owner) 0 q (omega (arith, length-take-le row owner (omega arith)))
          ∙ get_or-take row owner q 0 (omega arith)
          ∙ o.marked q (omega arith)
          ∙ sym (ap (λ (b : Bool). cond b p (owner_of routes p q)) (lt-leb (start routes p) q (omega arith)))

-- what is read of the first so many numbers of routes, and that the rows of each such prefix end before the last one's do
module _ (routes : List ℕ) (n p : ℕ) (enough : n ≤ length routes) (l : p < length (take n routes)) where
  pub count_read : get_or (take n routes) p 0 ≡ column routes p
  count_read = get_or-take n routes p 0 (omega (arith, length-take-le n routes enough))

  pub rows_within : {row : ℕ} → row ≡ start routes p → row + get_or (take n routes) p 0 ≤ start routes n
  rows_within s = omega (arith, count_read, start_within routes p n (omega (arith, length-take-le n routes enough)))

-- it is one of those prefixes
pub owner_below : (routes : List ℕ) (n q : ℕ) → 0 < n → owner_of routes n q < n
owner_below routes zero q l = absurd (not-suc-le-zero l)
owner_below routes (suc zero) q l = go (leb (start routes 0) q)
  where
    go : (b : Bool) → cond b 0 0 < 1
    go true = omega arith
    go false = omega arith
owner_below routes (suc (suc n)) q l = go (leb (start routes (suc n)) q) (owner_below routes (suc n) q (omega arith))
  where
    go : (b : Bool) → owner_of routes (suc n) q < suc n → cond b (suc n) (owner_of routes (suc n) q) < suc (suc n)
    go true h = omega arith
    go false h = omega arith

-- ---- passes one after the other

-- what alters preference, mark and MED alone
abbrev pub Keeps : (ℕ → Route → Route) → Type 0
Keeps f = (q : ℕ) (r : Route) → f q r ≡ with r (f q r).preference (f q r).mark (f q r).med

module _ (n : ℕ) (g : ℕ → Route → Route) (keeps : Keeps g) (c : Columns) (has : Has n c) where
  -- a row below n is altered whole
  row_altered : (q : ℕ) → q < n → route_at (altered n g c) q ≡ g q (route_at c q)
  row_altered q l =
      let at : (xs : List ℕ) (new : ℕ → ℕ) → n ≤ length xs → column (table (length xs) (entry n new xs)) q ≡ new q =
      λ xs new long. table_at (entry n new xs) 0 (length xs) q (omega arith) ∙ entry_new n new xs q l in
      let e1 : column (altered n g c).preference q ≡ (g q (route_at c q)).preference = at c.preference (λ q. (g q (route_at c q)).preference) has.preference in
      let e2 : column (altered n g c).mark q ≡ (g q (route_at c q)).mark = at c.mark (λ q. (g q (route_at c q)).mark) has.mark in
      let e3 : column (altered n g c).med q ≡ (g q (route_at c q)).med = at c.med (λ q. (g q (route_at c q)).med) has.med in
      same_with (route_at c q) e1 e2 e3 ∙ sym (keeps q (route_at c q))
    where
      same_with : (r : Route) {p p' m m' d d' : ℕ} → p ≡ p' → m ≡ m' → d ≡ d' → with r p m d ≡ with r p' m' d'
      same_with r e1 e2 e3 = rw (e1, e2, e3)

  module _ (f : ℕ → Route → Route) where
    field_twice : (of : Route → ℕ) (xs : List ℕ) → n ≤ length xs
        → table (length (table (length xs) (entry n (λ q. of (g q (route_at c q))) xs)))
        (entry n (λ q. of (f q (route_at (altered n g c) q))) (table (length xs) (entry n (λ q. of (g q (route_at c q))) xs)))
        ≡ table (length xs) (entry n (λ q. of (f q (g q (route_at c q)))) xs)
    field_twice of xs long =
        let once : ℕ → ℕ = entry n (λ q. of (g q (route_at c q))) xs in
        let ys : List ℕ = table (length xs) once in
        let then : ℕ → ℕ = entry n (λ q. of (f q (route_at (altered n g c) q))) ys in
        let both : ℕ → ℕ = entry n (λ q. of (f q (g q (route_at c q)))) xs in
        ap (λ (m : ℕ). table m then) (table_length (length xs) once)
        ∙ table_same then both (length xs) (λ q l. at q l (dec_le n q))
      where
        at : (q : ℕ) → q < length xs → Dec (n ≤ q)
            → entry n (λ q. of (f q (route_at (altered n g c) q))) (table (length xs) (entry n (λ q. of (g q (route_at c q))) xs)) q ≡ entry n (λ q. of (f q (g q (route_at c q)))) xs q
        at q l (yes h) =
            entry_old n (λ q. of (f q (route_at (altered n g c) q))) (table (length xs) (entry n (λ q. of (g q (route_at c q))) xs)) q h
            ∙ table_at (entry n (λ q. of (g q (route_at c q))) xs) 0 (length xs) q l
            ∙ entry_old n (λ q. of (g q (route_at c q))) xs q h
            ∙ sym (entry_old n (λ q. of (f q (g q (route_at c q)))) xs q h)
        at q l (no h) =
            entry_new n (λ q. of (f q (route_at (altered n g c) q))) (table (length xs) (entry n (λ q. of (g q (route_at c q))) xs)) q (omega arith)
            ∙ ap (λ (r : Route). of (f q r)) (row_altered q (omega arith))
            ∙ sym (entry_new n (λ q. of (f q (g q (route_at c q)))) xs q (omega arith))

    -- to alter twice is to alter once by both
    pub altered_twice : altered n f (altered n g c) ≡ altered n (λ q r. f q (g q r)) c
    altered_twice =
        columns_are (altered n (λ q r. f q (g q r)) c) refl refl
        (field_twice (λ r. r.preference) c.preference has.preference)
        refl refl
        (field_twice (λ r. r.mark) c.mark has.mark)
        (field_twice (λ r. r.med) c.med has.med)
        refl refl

module _ (address bits : ℕ → ℕ) (n : ℕ) where
  passed_from : (policy : Policy) (g : ℕ → Route → Route) → Keeps g → (c : Columns) → Has n c
      → passed_all policy address bits n (altered n g c) ≡ altered n (λ q r. passes policy (address q) (bits q) (g q r)) c
  passed_from [] g keeps c has = refl
  passed_from (s ∷ ss) g keeps c has =
      ap (passed_all ss address bits n) (altered_twice n g keeps c has (λ q. pass s (address q) (bits q)))
      ∙ passed_from ss (λ q r. pass s (address q) (bits q) (g q r)) (λ q r. again q r) c has
    where
      again : (q : ℕ) (r : Route) → pass s (address q) (bits q) (g q r)
          ≡ with r (pass s (address q) (bits q) (g q r)).preference (pass s (address q) (bits q) (g q r)).mark (pass s (address q) (bits q) (g q r)).med
      again q r =
          let y : Route → Route = λ x. with x (pass s (address q) (bits q) (g q r)).preference (pass s (address q) (bits q) (g q r)).mark (pass s (address q) (bits q) (g q r)).med in
          ap y (keeps q r)

  -- the passes leave in each row what they make of its route
  pub passes_all : (policy : Policy) (c : Columns) → Has n c → applied policy address bits n c ≡ altered n (λ q r. passes policy (address q) (bits q) (unruled r)) c
  passes_all policy c has = passed_from policy (λ q. unruled) (λ q r. refl) c has

-- rows below n alone count
pub altered_same : (n : ℕ) (c : Columns) (f g : ℕ → Route → Route) → ((q : ℕ) → q < n → (r : Route) → f q r ≡ g q r) → altered n f c ≡ altered n g c
altered_same n c f g e =
    columns_are (altered n g c) refl refl
    (field_same (λ r. r.preference) c.preference)
    refl refl
    (field_same (λ r. r.mark) c.mark)
    (field_same (λ r. r.med) c.med)
    refl refl
  where
    field_same : (of : Route → ℕ) (xs : List ℕ) → entries n (λ q. of (f q (route_at c q))) xs ≡ entries n (λ q. of (g q (route_at c q))) xs
    field_same of xs = table_same (entry n (λ q. of (f q (route_at c q))) xs) (entry n (λ q. of (g q (route_at c q))) xs) (length xs) (λ q l. at q (dec_le n q))
      where
        at : (q : ℕ) → Dec (n ≤ q) → entry n (λ q. of (f q (route_at c q))) xs q ≡ entry n (λ q. of (g q (route_at c q))) xs q
        at q (yes h) = entry_old n (λ q. of (f q (route_at c q))) xs q h ∙ sym (entry_old n (λ q. of (g q (route_at c q))) xs q h)
        at q (no h) =
            entry_new n (λ q. of (f q (route_at c q))) xs q (omega arith)
            ∙ ap of (e q (omega arith) (route_at c q))
            ∙ sym (entry_new n (λ q. of (g q (route_at c q))) xs q (omega arith))

-- ---- what the passes are lent

pub long_has : {n : ℕ} {c : Columns} → Long n c → Has n c
long_has l = record { preference = l.preference; mark = l.mark; med = l.med }

-- after a pass the columns are as long
pub long_again : {n : ℕ} (m : ℕ) (f : ℕ → Route → Route) (c : Columns) → Long n c → Long n (altered m f c)
long_again m f c l = record {
  router = l.router;
  asn = l.asn;
  preference = omega (arith, l.preference, entries_length m (λ q. (f q (route_at c q)).preference) c.preference);
  path = l.path;
  mark = omega (arith, l.mark, entries_length m (λ q. (f q (route_at c q)).mark) c.mark);
  med = omega (arith, l.med, entries_length m (λ q. (f q (route_at c q)).med) c.med);
  peer = l.peer;
}

pub long_less : {m n : ℕ} {c : Columns} → m ≤ n → Long n c → Long m c
long_less h l = record {
  router = omega (arith, l.router);
  asn = omega (arith, l.asn);
  preference = omega (arith, l.preference);
  path = omega (arith, l.path);
  mark = omega (arith, l.mark);
  med = omega (arith, l.med);
  peer = omega (arith, l.peer);
}

-- rows that are marked are told
pub owners_told : {prefixes rows : ℕ} {t : Tables} {owner : List ℕ} → Lent prefixes rows t → rows ≡ length owner → Owned t.routes prefixes owner → Told owner t
owners_told {prefixes} {rows} {t} {owner} l room o = record {
  below = λ q h.
      let k = l.total in
      let some : 0 < prefixes = some_prefix q (omega arith) in
      omega (arith, o.marked q (omega arith), owner_below t.routes prefixes q some, l.few);
  addresses = l.addresses;
  lengths = l.lengths;
}
  where
    some_prefix : (q : ℕ) → q < rows → 0 < prefixes
    some_prefix q h = go (dec_le 1 prefixes)
      where
        go : Dec (1 ≤ prefixes) → 0 < prefixes
        go (yes y) = y
        go (no n) =
            let z : prefixes ≡ 0 = omega arith in
            absurd (omega (arith, h, l.total, ap (start t.routes) z, start_first t.routes))

-- and the passes are those by the prefixes themselves
pub owners_applied : {prefixes rows : ℕ} {t : Tables} {owner : List ℕ} (policy : Policy) → Lent prefixes rows t → Owned t.routes prefixes owner
    → applied policy (of_row t.address owner) (of_row t.bits owner) rows t.rows
    ≡ applied policy (prefix_field t.address t.routes prefixes) (prefix_field t.bits t.routes prefixes) rows t.rows
owners_applied {prefixes} {rows} {t} {owner} policy l o =
    passes_all (of_row t.address owner) (of_row t.bits owner) rows policy t.rows (long_has l.columns)
    ∙ altered_same rows t.rows _ _ (λ q h r. ap (λ (p : ℕ). passes policy (column t.address p) (column t.bits p) (unruled r)) (o.marked q (let k = l.total in omega arith)))
    ∙ sym (passes_all (prefix_field t.address t.routes prefixes) (prefix_field t.bits t.routes prefixes) rows policy t.rows (long_has l.columns))

-- ---- the whole

-- entries that are set to what they were
entries_kept : (n : ℕ) (xs : List ℕ) → entries n (column xs) xs ≡ xs
entries_kept n xs =
    let e = table_length (length xs) (entry n (column xs) xs) in
    ext_get_or 0 (entries n (column xs) xs) xs e (λ k l. table_at (entry n (column xs) xs) 0 (length xs) k (omega arith) ∙ either_way (ltb k n) (column xs k))
  where
    either_way : (b : Bool) (x : ℕ) → cond b x x ≡ x
    either_way true x = refl
    either_way false x = refl

-- every preference set to 100
usual_altered : (n : ℕ) (c : Columns) {xs : List ℕ} → xs ≡ entries n (λ q. usual) c.preference
    → columns c.router c.asn xs c.path c.origin c.mark c.med c.nid c.peer ≡ altered n (λ q. unruled) c
usual_altered n c u = columns_are (altered n (λ q. unruled) c) refl refl u refl refl (sym (entries_kept n c.mark)) (sym (entries_kept n c.med)) refl refl

-- then the passes
pub applied_in : {prefixes rows : ℕ} {t u : Tables} {owner xs : List ℕ} (policy : Policy) → Lent prefixes rows t → Owned t.routes prefixes owner → rows ≡ length owner
    → xs ≡ entries rows (λ q. usual) t.rows.preference
    → u ≡ with_rows t (passed_all policy (of_row t.address owner) (of_row t.bits owner) (length owner)
    (columns t.rows.router t.rows.asn xs t.rows.path t.rows.origin t.rows.mark t.rows.med t.rows.nid t.rows.peer))
    → u ≡ with_rows t (applied policy (prefix_field t.address t.routes prefixes) (prefix_field t.bits t.routes prefixes) rows t.rows)
applied_in {rows = rows} {t = t} {owner = owner} policy l o long set e =
    e ∙ ap (with_rows t)
    (ap₂ (λ (n : ℕ) (c : Columns). passed_all policy (of_row t.address owner) (of_row t.bits owner) n c) (sym long) (usual_altered rows t.rows set) ∙ owners_applied policy l o)
