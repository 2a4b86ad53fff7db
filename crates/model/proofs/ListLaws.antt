-- Laws of rows kept as a list: rows inside columns, the front of a list, rows packed into it, and the loops along one. Such a loop goes
-- from place 0 up, and its invariant speaks of the rows that are left, `drop i rows`. So a turn takes one row off the front, as the
-- definitions of `Rows` do.
use Rattle.std.specs.Prelude.{ℕ, zero, suc, ◌+◌, ◌-◌, ◌≤◌, ◌<◌, min, max, ◌≡◌, refl, ◌⊎◌, Bool, true, false, List, [], ◌∷◌, ◌++◌, eqb, length, get_or, take, drop, set}
use Rattle.std.proofs.Common.{zero-le, le_refl, not-suc-le-zero, add-one, arith, sym, ap, ap₂, subst, ◌∙◌, inl, inr, ⊎_elim, append-nil, append_assoc, map-id, length-set, length-append, length-take, length-drop, drop_of_length-le, take-append-drop, drop-cons, drop-drop, drop-set-lt, take-suc-set, length-take-le, get_or-take, get_or-drop, get_or-set_same, get_or-set_other, eqb-true}
use Rattle.std.proofs.lemmas.List.Edits.{sets, sets-eq}
use Rattle.std.proofs.Math.Seq.{length-sets, take-append_seam, drop-append_seam, take-length, append_snoc}
use Rattle.std.proofs.lemmas.List.{set-append_left, take-append-le}
use Rattle.std.proofs.lemmas.Bool.{eqb-false}
use Rattle.model.specs.Rows.{keep, some, span, greatest, keep_least, column}
use Rattle.model.specs.Contest.{least_or}
use Rattle.model.specs.Lent.{Inside, Front, Packed}
use Rattle.model.proofs.RowLaws.{by, In, here, there, nowhere, in_cases, Agree, in_span, table_at, count_length, count_le, count_all}
use Rattle.model.proofs.LeastLaws.{Picks, least_or_past, least_or_lower, least_or_min, keep_least_agree}
use Rattle.model.proofs.LoopLaws.{Stored, stored_end}
use Rattle.model.proofs.ColumnLaws.{sets_append, sets_front}

-- the rows from place i on are the row there and those after it
drop_next : (rows : List ℕ) (i : ℕ) → i < length rows → drop i rows ≡ column rows i ∷ drop (i + 1) rows
drop_next rows i l = rw add-one (drop-cons rows i 0 l)

-- the rows up to place n and one stored there
take_next : (rows : List ℕ) (n v : ℕ) → n < length rows → take (n + 1) (set rows n v) ≡ take n rows ++ (v ∷ [])
take_next rows n v l = rw add-one (take-suc-set rows n v l)

-- ---- rows inside columns

in_at : (rows : List ℕ) (i : ℕ) → i < length rows → In (column rows i) rows
in_at [] i l = absurd (not-suc-le-zero l)
in_at (p ∷ rows) zero l = here refl
in_at (p ∷ rows) (suc i) l = there (in_at rows i (omega arith))

pub inside_in : {n q : ℕ} (rows : List ℕ) → Inside n rows → In q rows → q < n
inside_in [] h m = absurd (nowhere m)
inside_in {n} {q} (p ∷ rows) h m =
    ⊎_elim (λ e. let b = h.below 0 (omega arith) in omega arith) (inside_in rows (record { below = λ i l. h.below (suc i) (omega arith) })) (in_cases m)

pub inside_of : {n : ℕ} (rows : List ℕ) → ((q : ℕ) → In q rows → q < n) → Inside n rows
inside_of rows h = record { below = λ i l. h (column rows i) (in_at rows i l) }

-- members of rows that are inside are inside; so are those that a step keeps
pub inside_part : {n : ℕ} {rows others : List ℕ} → Inside n rows → ((q : ℕ) → In q others → In q rows) → Inside n others
inside_part {rows} {others} h part = inside_of others (λ q m. inside_in rows h (part q m))

pub inside_step : {n : ℕ} {good : ℕ → ℕ → Type 0} {step : List ℕ → List ℕ} → Picks good step → (rows : List ℕ) → Inside n rows → Inside n (step rows)
inside_step p rows h = inside_part h (λ q m. p.from rows m)

pub inside_span : {rows : List ℕ} (n : ℕ) → rows ≡ span 0 n → Inside n rows
inside_span n e = subst (Inside n) (sym e) (record { below = λ i l. omega (arith, in_span 0 n (in_at (span 0 n) i l)) })

-- so are those of a part of the list
pub inside_take : {n : ℕ} {rows : List ℕ} (k : ℕ) → Inside n rows → Inside n (take k rows)
inside_take {n} {rows} k h = record {
  below = λ i l. let m : i < min k (length rows) = subst (λ (z : ℕ). i < z) (length-take k rows) l in
      let b = h.below i (omega arith) in rw (get_or-take k rows i 0 (omega arith)) b;
}

pub inside_drop : {n : ℕ} {rows : List ℕ} (k : ℕ) → Inside n rows → Inside n (drop k rows)
inside_drop {n} {rows} k h = record {
  below = λ i l. let m : i < length rows - k = subst (λ (z : ℕ). i < z) (length-drop k rows) l in
      let b = h.below (k + i) (omega arith) in rw (get_or-drop k rows i 0) b;
}

-- columns of one length
pub inside_long : {m n : ℕ} {rows : List ℕ} → Inside m rows → n ≡ m → Inside n rows
inside_long h e = record { below = λ i l. omega (arith, h.below i l) }

-- ---- the front of a list

-- all of it
pub front_all : (rows : List ℕ) → Front (length rows) rows rows
front_all rows = record { few = le_refl (length rows); are = take-length rows }

-- the same rows, by another name
pub front_is : {n : ℕ} {list rows others : List ℕ} → Front n list rows → rows ≡ others → Front n list others
front_is f e = record { few = f.few; are = f.are ∙ e }

-- it is as long as it says, and its rows are inside where those that it holds are
pub front_long : {n : ℕ} {list rows : List ℕ} → Front n list rows → n ≡ length (take n list)
front_long {n} {list} f = sym (length-take-le n list f.few)

pub front_inside : {k n : ℕ} {list rows : List ℕ} → Front n list rows → Inside k rows → Inside k (take n list)
front_inside {k} f h = subst (Inside k) (sym f.are) h

-- what a step makes of it is what it makes of those rows
pub front_of : (step : List ℕ → List ℕ) {n m : ℕ} {list other rows : List ℕ} → Front n list rows → Front m other (step (take n list)) → Front m other (step rows)
front_of step f g = front_is g (ap step f.are)

-- what a step leaves of the front that is lent to it is the front of the whole list
pub front_next : (step : List ℕ → List ℕ) {n m : ℕ} {list lent rows : List ℕ}
    → Front n list rows → Front m lent (step (take n list)) → Front m (lent ++ drop n list) (step rows)
front_next step {n} {m} {list} {lent} f g = record {
  few = omega (arith, g.few, length-append lent (drop n list));
  are = take-append-le m lent (drop n list) g.few ∙ (front_of step f g).are;
}

-- the front of a list is the front of a longer one
pub front_wider : {n : ℕ} {list rows : List ℕ} (rest : List ℕ) → Front n list rows → Front n (list ++ rest) rows
front_wider {n} {list} rest f = record { few = omega (arith, f.few, length-append list rest); are = take-append-le n list rest f.few ∙ f.are }

-- ---- rows packed into the front of a list

-- rows stored into the left part of a list, and into what is left of one behind n
sets_left : (xs ys : List ℕ) (i : ℕ) (rows : List ℕ) → i + length rows ≤ length xs → sets (xs ++ ys) i rows ≡ sets xs i rows ++ ys
sets_left xs ys i [] l = refl
sets_left xs ys i (q ∷ rows) l =
    ap (λ (list : List ℕ). sets list (suc i) rows) (set-append_left xs ys i q (omega arith)) ∙ sets_left (set xs i q) ys (suc i) rows (omega (arith, length-set xs i q))

sets_part : (list : List ℕ) (n : ℕ) (rows : List ℕ) → n + length rows ≤ length list → take n list ++ sets (drop n list) 0 rows ≡ sets list n rows
sets_part list n rows l =
    ap (λ (rest : List ℕ). take n list ++ rest) (sets_front (drop n list) rows (omega (arith, length-drop n list)) ∙ ap (λ (rest : List ℕ). rows ++ rest) (drop-drop (length rows) n list))
    ∙ sym (sets-eq rows list n l ∙ append_assoc (take n list) rows (drop (n + length rows) list))

-- they are its front, and it is as long as before
pub packed_front : {n : ℕ} {before after rows : List ℕ} → Packed n before after rows → Front n after rows
packed_front {n} {before} {after} {rows} p = record {
  few = omega (arith, p.many, p.room, ap length p.all, length-sets before 0 rows);
  are = ap₂ take p.many (p.all ∙ sets_front before rows p.room) ∙ take-append_seam rows (drop (length rows) before);
}

pub packed_long : {n : ℕ} {before after rows : List ℕ} → Packed n before after rows → length after ≡ length before
packed_long {before} {rows} p = ap length p.all ∙ length-sets before 0 rows

-- a front, where the entries behind it are as before
packed_by : {n : ℕ} {before after rows : List ℕ} → length after ≡ length before → Front n after rows → drop n after ≡ drop n before → Packed n before after rows
packed_by {n} {before} {after} {rows} long f behind =
    let many : n ≡ length rows = front_long f ∙ ap length f.are in
    let room : length rows ≤ length before = omega (arith, f.few) in
    record {
      many = many;
      room = room;
      all = sym (take-append-drop n after) ∙ ap₂ (λ (x y : List ℕ). x ++ y) f.are behind ∙ ap (λ (k : ℕ). rows ++ drop k before) many ∙ sym (sets_front before rows room);
    }

-- the same rows, by another name
pub packed_is : {n : ℕ} {before after rows others : List ℕ} → Packed n before after rows → rows ≡ others → Packed n before after others
packed_is {n} {before} {after} p e = subst (Packed n before after) e p

-- what a step packs into that front where it is lent to it is packed into the whole list
pub packed_next : (step : List ℕ → List ℕ) {n m : ℕ} {before list lent rows : List ℕ}
    → Packed n before list rows → Packed m (take n list) lent (step (take n list)) → Packed m (sets before 0 rows) (lent ++ drop n list) (step rows)
packed_next step {n} {m} {before} {list} {lent} {rows} p q =
    let kept = step (take n list) in
    packed_is (record {
      many = q.many;
      room = omega (arith, q.room, length-take n list, ap length p.all);
      all = ap (λ (front : List ℕ). front ++ drop n list) q.all ∙ sym (sets_left (take n list) (drop n list) 0 kept (omega (arith, q.room)))
          ∙ ap (λ (xs : List ℕ). sets xs 0 kept) (take-append-drop n list ∙ p.all);
    }) (ap step (packed_front p).are)

-- as many others in their place
pub packed_over : {n : ℕ} {before list rows others : List ℕ} → Packed n before list rows → length others ≡ n → Packed n before (others ++ drop n list) others
packed_over {n} {before} {list} {rows} {others} p e =
    let room : length others ≤ length before = omega (arith, p.many, p.room) in
    let behind : drop n list ≡ drop (length others) before =
    ap₂ drop p.many (p.all ∙ sets_front before rows p.room) ∙ drop-append_seam rows (drop (length rows) before) ∙ ap (λ (k : ℕ). drop k before) (sym (e ∙ p.many)) in
    record { many = sym e; room = room; all = ap (λ (rest : List ℕ). others ++ rest) behind ∙ sym (sets_front before others room) }

-- what is packed into a part behind them is packed with them
pub packed_append : {n m : ℕ} {before list lent a b : List ℕ} (k : ℕ) → Packed n before list a → Packed m (take k (drop n list)) lent b
    → Packed (n + m) before (take n list ++ (lent ++ drop k (drop n list))) (a ++ b)
packed_append {n} {m} {before} {list} {lent} {a} {b} k p q =
    let rest = drop n list in
    let room : n + length b ≤ length list = omega (arith, (packed_front p).few, q.room, length-take k rest, length-drop n list) in
    record {
      many = omega (arith, p.many, q.many, length-append a b);
      room = omega (arith, room, p.many, packed_long p, length-append a b);
      all = ap (λ (xs : List ℕ). take n list ++ (xs ++ drop k rest)) q.all
          ∙ ap (λ (xs : List ℕ). take n list ++ xs) (sym (sets_left (take k rest) (drop k rest) 0 b (omega (arith, q.room))) ∙ ap (λ (xs : List ℕ). sets xs 0 b) (take-append-drop k rest))
          ∙ sets_part list n b room
          ∙ ap₂ (λ (xs : List ℕ) (i : ℕ). sets xs i b) p.all (omega (arith, p.many))
          ∙ sets_append before 0 a b;
    }

-- no step adds rows
pub keep_short : (test : ℕ → Bool) (rows : List ℕ) → length (keep test rows) ≤ length rows
keep_short test rows = omega (arith, count_length test rows, count_le test (λ q. true) rows (λ q m t. tt), count_all rows)

-- ---- loops

-- A loop at place i of a list: what is asked, `goal`, is f of the rows from there on.
pub record Along {A : Type 0} (goal : A) (f : List ℕ → A) (rows : List ℕ) (i : ℕ) : Type 0 where
  pub within : i ≤ length rows
  pub left : goal ≡ f (drop i rows)

module _ {A : Type 0} {goal : A} {f : List ℕ → A} {rows : List ℕ} where
  pub along : goal ≡ f rows → Along goal f rows 0
  along e = record { within = zero-le; left = e }

  module _ {i : ℕ} (w : Along goal f rows i) where
    pub along_end : length rows ≤ i → goal ≡ f []
    along_end l = w.left ∙ ap f (drop_of_length-le rows l)

    -- f of what is left with the row at i is g of what is left after it
    pub along_next : {g : List ℕ → A} → i < length rows → ((rest : List ℕ) → f (column rows i ∷ rest) ≡ g rest) → Along goal g rows (i + 1)
    along_next l step = record { within = omega arith; left = w.left ∙ ap f (drop_next rows i l) ∙ step (drop (i + 1) rows) }

    -- the answer is had with no look at the others
    pub along_hit : {a : A} → i < length rows → ((rest : List ℕ) → f (column rows i ∷ rest) ≡ a) → goal ≡ a
    along_hit l step = w.left ∙ ap f (drop_next rows i l) ∙ step (drop (i + 1) rows)

-- ---- a search: no row before place i passes
pub record Hunt (test : ℕ → Bool) (rows : List ℕ) (i : ℕ) : Type 0 where
  pub at : Along (some test rows) (some test) rows i

module _ {test : ℕ → Bool} {rows : List ℕ} where
  pub hunt : Hunt test rows 0
  hunt = record { at = along refl }

  module _ {i : ℕ} (s : Hunt test rows i) where
    pub hunt_end : length rows ≤ i → false ≡ some test rows
    hunt_end l = sym (along_end s.at l)

    module _ {b : Bool} (l : i < length rows) (e : b ≡ test (column rows i)) where
      pub hunt_off : b ≡ false → Hunt test rows (i + 1)
      hunt_off h = record { at = along_next s.at l (λ rest. rw (sym e ∙ h)) }

      pub hunt_hit : b ≡ true → true ≡ some test rows
      hunt_hit h = sym (along_hit s.at l (λ rest. rw (sym e ∙ h)))

-- ---- the least key: it is had from `low`, the least before place i, and the rows from there on
pub record Lower (past : ℕ) (key : ℕ → ℕ) (rows : List ℕ) (i low : ℕ) : Type 0 where
  pub at : Along (least_or past key rows) (least_or low key) rows i

module _ {past : ℕ} {key : ℕ → ℕ} {rows : List ℕ} where
  pub lower : Lower past key rows 0 past
  lower = record { at = along refl }

  module _ {i low : ℕ} (s : Lower past key rows i low) where
    pub lower_end : length rows ≤ i → low ≡ least_or past key rows
    lower_end l = sym (along_end s.at l)

    module _ {k : ℕ} (l : i < length rows) (e : k ≡ key (column rows i)) where
      pub lower_off : low ≤ k → Lower past key rows (i + 1) low
      lower_off h = record { at = along_next s.at l (λ rest. let m = least_or_past low key rest in omega arith) }

      pub lower_on : k < low → Lower past key rows (i + 1) k
      lower_on h = record { at = along_next s.at l (λ rest. let m = least_or_lower (key (column rows i)) low key rest (omega arith) in rw e m) }

-- ---- a loop that lowers the number of each bucket to the least key of the rows in it, and has done so for those before place i
pub record Lowers (bucket key : ℕ → ℕ) (rows low₀ : List ℕ) (i : ℕ) (low : List ℕ) : Type 0 where
  pub long : length low ≡ length low₀
  pub at : (k : ℕ) → Along (least_or (column low₀ k) key (keep (λ q. eqb (bucket q) k) rows)) (λ rest. least_or (column low k) key (keep (λ q. eqb (bucket q) k) rest)) rows i

module _ {bucket key : ℕ → ℕ} {rows low₀ : List ℕ} where
  pub lowers : Lowers bucket key rows low₀ 0 low₀
  lowers = record { long = refl; at = λ k. along refl }

  module _ {i : ℕ} {low : List ℕ} (s : Lowers bucket key rows low₀ i low) where
    pub lowers_end : length rows ≤ i → (k : ℕ) → column low k ≡ least_or (column low₀ k) key (keep (λ q. eqb (bucket q) k) rows)
    lowers_end l k = sym (along_end (s.at k) l)

    module _ {q : ℕ} (l : i < length rows) (e : q ≡ column rows i) where
      pub lowers_next : {j p v : ℕ} → j ≡ i + 1 → p ≡ bucket q → p < length low → v ≡ min (key q) (column low p) → Lowers bucket key rows low₀ j (set low p v)
      lowers_next {p} {v} j_is p_is m d = rw j_is (record {
        long = length-set low p v ∙ s.long;
        at = λ k. along_next (s.at k) l (λ rest. rw (← e, ← p_is) (by (eqb p k)
            (λ same. let b = eqb-true p k same in
            let c : column (set low p v) k ≡ min (key q) (column low k) = (rw (← b) (get_or-set_same low p v 0 m)) ∙ d ∙ ap (λ (z : ℕ). min (key q) (column low z)) b in
            rw (same, c) (least_or_min (key q) (column low k) key (keep (λ q. eqb (bucket q) k) rest)))
            (λ other. rw (other, get_or-set_other low p k v 0 (λ f. eqb-false p k other (sym f))))));
      })

-- ---- the greatest key
pub record Higher (key : ℕ → ℕ) (rows : List ℕ) (i high : ℕ) : Type 0 where
  pub at : Along (greatest key rows) (λ rest. max high (greatest key rest)) rows i

module _ {key : ℕ → ℕ} {rows : List ℕ} where
  pub higher : Higher key rows 0 0
  higher = record { at = along (omega arith) }

  module _ {i high : ℕ} (s : Higher key rows i high) where
    pub higher_end : length rows ≤ i → high ≡ greatest key rows
    higher_end l = let e = along_end s.at l in omega arith

    module _ {k : ℕ} (l : i < length rows) (e : k ≡ key (column rows i)) where
      pub higher_off : k ≤ high → Higher key rows (i + 1) high
      higher_off h = record { at = along_next s.at l (λ rest. omega arith) }

      pub higher_on : high < k → Higher key rows (i + 1) k
      higher_on h = record { at = along_next s.at l (λ rest. omega arith) }

-- where two lists are the same from a place on, they are at it
pub ahead_here : (xs ys : List ℕ) (i : ℕ) → drop i xs ≡ drop i ys → column xs i ≡ column ys i
ahead_here xs ys i e = here_at xs ∙ ap (λ (rest : List ℕ). get_or rest 0 0) e ∙ sym (here_at ys)
  where
    here_at : (zs : List ℕ) → column zs i ≡ get_or (drop i zs) 0 0
    here_at zs = ap (column zs) (omega arith) ∙ sym (get_or-drop i zs 0 0)

-- so they are from a later place on
ahead_later : (xs ys : List ℕ) (k i : ℕ) → drop i xs ≡ drop i ys → drop (i + k) xs ≡ drop (i + k) ys
ahead_later xs ys k i e = sym (drop-drop k i xs) ∙ ap (drop k) e ∙ drop-drop k i ys

-- ---- a loop that packs the rows that pass a test into the front of room that is lent, n of them so far
pub record Pack (test : ℕ → Bool) (rows out₀ : List ℕ) (i n : ℕ) (out : List ℕ) : Type 0 where
  pub at : Along (keep test rows) (λ rest. take n out ++ keep test rest) rows i
  pub few : n ≤ i
  pub room : length rows ≤ length out₀
  pub long : length out ≡ length out₀
  pub behind : drop n out ≡ drop n out₀

module _ {test : ℕ → Bool} {rows out₀ : List ℕ} where
  pub pack : length rows ≤ length out₀ → Pack test rows out₀ 0 0 out₀
  pack l = record { at = along refl; few = zero-le; room = l; long = refl; behind = refl }

  module _ {i n : ℕ} {out : List ℕ} (s : Pack test rows out₀ i n out) where
    pub pack_end : length rows ≤ i → Packed n out₀ out (keep test rows)
    pack_end l = packed_by s.long
        (record { few = omega (arith, s.at.within, s.few, s.room, s.long); are = sym (along_end s.at l ∙ append-nil (take n out)) })
        s.behind

    pub pack_room : i < length rows → n < length out
    pack_room l = omega (arith, s.few, s.room, s.long)

    module _ {b : Bool} (l : i < length rows) (e : b ≡ test (column rows i)) where
      pub pack_off : b ≡ false → Pack test rows out₀ (i + 1) n out
      pack_off h = record { at = along_next s.at l (λ rest. rw (sym e ∙ h)); few = omega (arith, s.few); room = s.room; long = s.long; behind = s.behind }

      pub pack_on : {v : ℕ} → b ≡ true → v ≡ column rows i → Pack test rows out₀ (i + 1) (n + 1) (set out n v)
      pack_on {v} h k = record {
        at = along_next s.at l (λ rest.
            (rw (sym e ∙ h, ← k) (sym (append_snoc (take n out) v (keep test rest))))
            ∙ ap (λ (front : List ℕ). front ++ keep test rest) (sym (take_next out n v (pack_room l))));
        few = omega (arith, s.few);
        room = s.room;
        long = length-set out n v ∙ s.long;
        behind = drop-set-lt (n + 1) out n v (omega arith) ∙ ahead_later out out₀ 1 n s.behind;
      }

-- ---- the same in place
module _ {test : ℕ → Bool} {rows₀ : List ℕ} where
  pub squeeze : Pack test rows₀ rows₀ 0 0 rows₀
  squeeze = pack (le_refl (length rows₀))

  module _ {i n : ℕ} {rows : List ℕ} (s : Pack test rows₀ rows₀ i n rows) where
    -- the row at i is not stored over yet
    pub squeeze_here : column rows i ≡ column rows₀ i
    squeeze_here =
        let e : n + (i - n) ≡ i = omega (arith, s.few) in
        ahead_here rows rows₀ i (rw e at (ahead_later rows rows₀ (i - n) n s.behind))

    module _ {b : Bool} (l : i < length rows₀) (e : b ≡ test (column rows i)) where
      pub squeeze_off : b ≡ false → Pack test rows₀ rows₀ (i + 1) n rows
      squeeze_off h = pack_off s l (e ∙ ap test squeeze_here) h

      pub squeeze_on : {v : ℕ} → b ≡ true → v ≡ column rows i → Pack test rows₀ rows₀ (i + 1) (n + 1) (set rows n v)
      squeeze_on h k = pack_on s l (e ∙ ap test squeeze_here) h (k ∙ squeeze_here)

-- ---- a loop that stores a key for each row of a list, and has done so for those before place i
pub record Keyed (f : ℕ → ℕ) (rows : List ℕ) (key₀ : List ℕ) (i : ℕ) (key : List ℕ) : Type 0 where
  pub long : length key ≡ length key₀
  pub done : (q : ℕ) → In q rows → (column key q ≡ f q) ⊎ In q (drop i rows)

module _ {f : ℕ → ℕ} {rows key₀ : List ℕ} where
  pub keyed : Keyed f rows key₀ 0 key₀
  keyed = record { long = refl; done = λ q m. inr m }

  module _ {i : ℕ} {key : List ℕ} (s : Keyed f rows key₀ i key) where
    pub keyed_next : {p v : ℕ} → i < length rows → p ≡ column rows i → p < length key₀ → v ≡ f p → Keyed f rows key₀ (i + 1) (set key p v)
    keyed_next {p} {v} l here_is h e = record {
      long = length-set key p v ∙ s.long;
      done = λ q m. by (eqb q p)
          (λ same. inl (rw (eqb-true q p same) (get_or-set_same key p v 0 (omega (arith, s.long)) ∙ e)))
          (λ other. let ne = eqb-false q p other in ⊎_elim
          (λ k. inl (get_or-set_other key p q v 0 ne ∙ k))
          (λ k. ⊎_elim (λ same. absurd (ne (same ∙ sym here_is))) (λ n. inr n) (in_cases (subst (In q) (drop_next rows i l) k)))
          (s.done q m));
    }

    keyed_all : length rows ≤ i → Agree (column key) f rows
    keyed_all l q m = ⊎_elim (λ e. e) (λ k. absurd (nowhere (subst (In q) (drop_of_length-le rows l) k))) (s.done q m)

    -- so keeping the rows with the least of what was stored is keeping those with the least of what it was computed by
    pub keyed_least : {n : ℕ} {before after : List ℕ} → length rows ≤ i → Packed n before after (keep_least (column key) rows) → Front n after (keep_least f rows)
    keyed_least l p = front_is (packed_front p) (keep_least_agree (column key) f rows (keyed_all l))

-- ---- every row, listed
pub span_at : (n i : ℕ) → i < n → column (span 0 n) i ≡ i
span_at n i l = rw (← map-id (span 0 n)) (table_at (λ k. k) 0 n i l)

pub all_listed : {n : ℕ} {xs₀ xs : List ℕ} {i : ℕ} → Stored 0 (λ k. k) n xs₀ i xs → n ≤ i → xs ≡ span 0 n
all_listed {n} s l = stored_end s l ∙ map-id (span 0 n)
