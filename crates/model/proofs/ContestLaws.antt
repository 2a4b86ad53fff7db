-- The order theory of a fair contest. `refine` is monotone, its fixed points are the calm states, and all of them lie between two
-- of them, `earliest` and `latest`. The theorems stand at the end of the file.
use Rattle.std.specs.Prelude.{ℕ, zero, suc, ◌-◌, ◌<◌, ◌≤◌, ◌≡◌, refl, ◌⊎◌, Bool, ◌&&◌, not, List, eqb, leb, T, length, get_or}
use Rattle.std.proofs.Common.{sym, ap, ◌∙◌, subst, inl, inr, ⊎_elim, eq-or-lt_of_le, arith, T_not, eqb→eq, leb→le, le→leb}
use Rattle.std.proofs.Math.Path.{fun_ext}
use Rattle.std.proofs.Math.Dec.{not_T, eqb_refl}
use Rattle.model.specs.Rows.{keep, some, table}
use Rattle.model.proofs.NumberLaws.{le_or_lt}
use Rattle.model.proofs.RowLaws.{decide, and_both, and_left, and_right, eq→eqb, In, Some, in_keep, keep_in, some_in, in_some, table_length, table_at, tallies}
use Rattle.model.proofs.RowLaws.{◌⊑◌, table-⊑, total, total_mono, total_eq}
use Rattle.model.proofs.LeastLaws.{least_or_past, least_or_le, le_least_or}
use Rattle.model.specs.Contest.{times, Contest, end, passed, held_items, first_free, refine, Calm, repeat, bottom, top, earliest, latest}

-- what a step leaves as it is stays
pub times_stays : (step : List ℕ → List ℕ) (n : ℕ) (x : List ℕ) → x ≡ step x → times step n x ≡ x
times_stays step zero x e = refl
times_stays step (suc n) x e = ap (times step n) (sym e) ∙ times_stays step n x e

-- what the theorems ask of a contest
pub record Fair (C : Contest) : Type 0 where
  pub owned : (q : ℕ) → In q C.items → C.owner q < C.owners
  pub beats_trans : (a b c : ℕ) → In a C.items → In b C.items → In c C.items → T (C.beats a b) → T (C.beats b c) → T (C.beats a c)
  pub metric : ℕ → ℕ
  pub grows : (p q : ℕ) → In p C.items → In q C.items → T (C.beats p q) → metric p < metric q

module _ (C : Contest) where
  -- ---- a state's passed and held items

  -- Contest's tests, by name
  abbrev is_passed : List ℕ → ℕ → Bool
  is_passed x q = leb (C.place q) (get_or x (C.owner q) 0)

  abbrev is_held : List ℕ → ℕ → Bool
  is_held x q = eqb (C.place q) (get_or x (C.owner q) 0)

  abbrev beats_it : ℕ → ℕ → Bool
  beats_it q p = C.beats p q

  abbrev is_free : List ℕ → ℕ → ℕ → Bool
  is_free seen r q = eqb (C.owner q) r && not (some (beats_it q) seen)

  pub is_passed_lem : (x : List ℕ) (q : ℕ) → In q C.items → C.place q ≤ get_or x (C.owner q) 0 → In q (passed C x)
  is_passed_lem x q i h = in_keep (is_passed x) C.items i (le→leb (C.place q) (get_or x (C.owner q) 0) h)

  pub passed_is : (x : List ℕ) (q : ℕ) → In q (passed C x) → In q C.items × (C.place q ≤ get_or x (C.owner q) 0)
  passed_is x q i = let k = keep_in (is_passed x) C.items i in (k.0, leb→le (C.place q) (get_or x (C.owner q) 0) k.1)

  pub is_held_lem : (x : List ℕ) (q : ℕ) → In q C.items → C.place q ≡ get_or x (C.owner q) 0 → In q (held_items C x)
  is_held_lem x q i e = in_keep (is_held x) C.items i (eq→eqb e)

  pub held_is : (x : List ℕ) (q : ℕ) → In q (held_items C x) → In q C.items × (C.place q ≡ get_or x (C.owner q) 0)
  held_is x q i = let k = keep_in (is_held x) C.items i in (k.0, eqb→eq (C.place q) (get_or x (C.owner q) 0) k.1)

  held_passed : (x : List ℕ) (q : ℕ) → In q (held_items C x) → In q (passed C x)
  held_passed x q i = let k = held_is x q i in is_passed_lem x q k.0 (omega (arith, k.1))

  -- a passed item that is not held is before its owner's place
  held_or_before : (x : List ℕ) (q : ℕ) → In q (passed C x) → In q (held_items C x) ⊎ (C.place q < get_or x (C.owner q) 0)
  held_or_before x q i = let k = passed_is x q i in ⊎_elim (λ e. inl (is_held_lem x q k.0 e)) (λ l. inr l) (eq-or-lt_of_le k.1)

  -- ---- the first free place

  abbrev pub Beaten : List ℕ → ℕ → Type 0
  Beaten seen q = Some (λ p. T (C.beats p q)) seen

  beaten : (seen : List ℕ) (q : ℕ) → Beaten seen q → T (some (beats_it q) seen)
  beaten seen q b = in_some (beats_it q) seen b.member b.passes

  -- it is at or before the end, and at or before the place of each item that is not beaten
  pub free_end : (seen : List ℕ) (r : ℕ) → first_free C seen r ≤ end C r
  free_end seen r = least_or_past (end C r) C.place (keep (is_free seen r) C.items)

  pub free_from : (seen : List ℕ) (q : ℕ) → In q C.items → ¬ (Beaten seen q) → first_free C seen (C.owner q) ≤ C.place q
  free_from seen q i free =
      let r = C.owner q in
      let hit = some (beats_it q) seen in
      least_or_le (end C r) C.place (keep (is_free seen r) C.items)
      (in_keep (is_free seen r) C.items i (and_both (eqb r r) (not hit) (eqb_refl r) (not_T hit (λ t. free (some_in (beats_it q) seen t)))))

  -- an item before it is beaten
  pub not_free : (seen : List ℕ) (q : ℕ) → In q C.items → C.place q < first_free C seen (C.owner q) → Beaten seen q
  not_free seen q i h =
      let hit = some (beats_it q) seen in
      ⊎_elim
      (λ t. some_in (beats_it q) seen t)
      (λ f. absurd (omega (arith, free_from seen q i (λ b. f (beaten seen q b)))))
      (decide hit)

  -- the more is beaten, the later it is
  pub free_mono : (A B : List ℕ) (r : ℕ) → ((q : ℕ) → In q C.items → Beaten A q → Beaten B q) → first_free C A r ≤ first_free C B r
  free_mono A B r h = le_least_or (end C r) C.place (keep (is_free B r) C.items) (free_end A r) low
    where
      low : (q : ℕ) → In q (keep (is_free B r) C.items) → first_free C A r ≤ C.place q
      low q i =
          let k = keep_in (is_free B r) C.items i in
          let own = and_left (eqb (C.owner q) r) (not (some (beats_it q) B)) k.1 in
          let clear = and_right (eqb (C.owner q) r) (not (some (beats_it q) B)) k.1 in
          omega (
            arith,
            ap (first_free C A) (eqb→eq (C.owner q) r own),
            free_from A q k.0 (λ b. T_not (some (beats_it q) B) clear (beaten B q (h q k.0 b))),
          )

  -- ---- refine

  refine_at : (x : List ℕ) (r : ℕ) → r < C.owners → get_or (refine C x) r 0 ≡ first_free C (passed C x) r
  refine_at x r h = table_at (first_free C (passed C x)) 0 C.owners r h

  refine_size : (x : List ℕ) → length (refine C x) ≡ C.owners
  refine_size x = table_length C.owners (first_free C (passed C x))

  refine_mono : (x y : List ℕ) → x ⊑ y → refine C x ⊑ refine C y
  refine_mono x y h =
      table-⊑ (first_free C (passed C x)) C.owners (refine C y)
      (λ r l. omega (arith, refine_at y r l, free_mono (passed C x) (passed C y) r more))
    where
      more : (q : ℕ) → In q C.items → Beaten (passed C x) q → Beaten (passed C y) q
      more q i b =
          let k = passed_is x b.row b.member in
          record { row = b.row; member = is_passed_lem y b.row k.0 (omega (arith, k.1, h (C.owner b.row))); passes = b.passes }

  free_top : (seen : List ℕ) → table C.owners (first_free C seen) ⊑ top C
  free_top seen = table-⊑ (first_free C seen) C.owners (top C) (λ r l. omega (arith, table_at (end C) 0 C.owners r l, free_end seen r))

  from_bottom : (x : List ℕ) → bottom C ⊑ x
  from_bottom x = table-⊑ (λ r. 0) C.owners x (λ r l. omega arith)

  top_total : (x : List ℕ) → x ⊑ top C → total x ≤ length C.items
  top_total x h = omega (arith, total_mono x (top C) h, tallies C.owner C.items C.owners)

  -- ---- rounds of refine

  -- rounds that keep P, and lower a measure while they change anything, come to rest
  module _ (P : List ℕ → Type 0) (measure : List ℕ → ℕ) (next : (x : List ℕ) → P x → P (refine C x))
      (less : (x : List ℕ) → P x → (x ≡ refine C x) ⊎ (measure (refine C x) < measure x)) where
    rests : (n : ℕ) (x : List ℕ) → P x → measure x ≤ n → repeat C n x ≡ refine C (repeat C n x)
    rests zero x p h = ⊎_elim (λ e. e) (λ l. absurd (omega arith)) (less x p)
    rests (suc n) x p h =
        ⊎_elim
        (λ e. let s = times_stays (refine C) (suc n) x e in s ∙ e ∙ ap (refine C) (sym s))
        (λ l. rests n (refine C x) (next x p) (omega arith))
        (less x p)

  record Rising (x : List ℕ) : Type 0 where
    size : length x ≡ C.owners
    up : x ⊑ refine C x

  record Falling (x : List ℕ) : Type 0 where
    size : length x ≡ C.owners
    down : refine C x ⊑ x

  bottom_rising : Rising (bottom C)
  bottom_rising = record { size = table_length C.owners (λ r. 0); up = from_bottom (refine C (bottom C)) }

  earliest_rests : earliest C ≡ refine C (earliest C)
  earliest_rests = rests Rising (λ x. length C.items - total x) next less (length C.items) (bottom C) bottom_rising (omega arith)
    where
      next : (x : List ℕ) → Rising x → Rising (refine C x)
      next x p = record { size = refine_size x; up = refine_mono x (refine C x) p.up }

      less : (x : List ℕ) → Rising x → (x ≡ refine C x) ⊎ (length C.items - total (refine C x) < length C.items - total x)
      less x p =
          ⊎_elim
          (λ l. inl (total_eq x (refine C x) (p.size ∙ sym (refine_size x)) p.up l))
          (λ l. inr (omega (arith, top_total (refine C x) (free_top (passed C x)))))
          (le_or_lt (total (refine C x)) (total x))

  latest_rests : latest C ≡ refine C (latest C)
  latest_rests = rests Falling total next less (length C.items) (top C) start (top_total (top C) (λ i. omega arith))
    where
      start : Falling (top C)
      start = record { size = table_length C.owners (end C); down = free_top (passed C (top C)) }

      next : (x : List ℕ) → Falling x → Falling (refine C x)
      next x p = record { size = refine_size x; down = refine_mono (refine C x) x p.down }

      less : (x : List ℕ) → Falling x → (x ≡ refine C x) ⊎ (total (refine C x) < total x)
      less x p =
          ⊎_elim
          (λ l. inl (sym (total_eq (refine C x) x (refine_size x ∙ sym p.size) p.down l)))
          (λ l. inr l)
          (le_or_lt (total x) (total (refine C x)))

  -- a fixed point stays above what starts below it, and below what starts above it
  above : (n : ℕ) (x y : List ℕ) → y ≡ refine C y → x ⊑ y → repeat C n x ⊑ y
  above zero x y e h = h
  above (suc n) x y e h = above n (refine C x) y e (subst (λ (z : List ℕ). refine C x ⊑ z) (sym e) (refine_mono x y h))

  below : (n : ℕ) (x y : List ℕ) → y ≡ refine C y → y ⊑ x → y ⊑ repeat C n x
  below zero x y e h = h
  below (suc n) x y e h = below n (refine C x) y e (subst (λ (z : List ℕ). z ⊑ refine C x) (sym e) (refine_mono y x h))

  -- ---- calm states

  pub calm_at : (x : List ℕ) → Calm C x → (r : ℕ) → r < C.owners → get_or x r 0 ≡ first_free C (held_items C x) r
  calm_at x e r h = ap (λ (z : List ℕ). get_or z r 0) e ∙ table_at (first_free C (held_items C x)) 0 C.owners r h

module _ (C : Contest) (F : Fair C) where
  -- ---- in a state that rises, and in a calm one, what a passed item beats a held item beats too

  -- a passed item is held, or beaten
  rising_case : (x : List ℕ) → x ⊑ refine C x → (p : ℕ) → In p (passed C x) → In p (held_items C x) ⊎ Beaten C (passed C x) p
  rising_case x up p j =
      let k = (passed_is C x p j).0 in
      ⊎_elim
      (λ h. inl h)
      (λ l. inr (not_free C (passed C x) p k (omega (arith, up (C.owner p), refine_at C x (C.owner p) (F.owned p k)))))
      (held_or_before C x p j)

  calm_case : (x : List ℕ) → Calm C x → (p : ℕ) → In p (passed C x) → In p (held_items C x) ⊎ Beaten C (held_items C x) p
  calm_case x c p j =
      let k = (passed_is C x p j).0 in
      ⊎_elim
      (λ h. inl h)
      (λ l. inr (not_free C (held_items C x) p k (omega (arith, calm_at C x c (C.owner p) (F.owned p k)))))
      (held_or_before C x p j)

  -- by transitivity, from a passed item that beats q to one that is held; in a state that rises, by items of less and less metric
  climb : (x : List ℕ) → x ⊑ refine C x → (n p q : ℕ) → F.metric p < n → In q C.items → In p (passed C x) → T (C.beats p q) → Beaten C (held_items C x) q
  climb x up zero p q m i j b = absurd (omega arith)
  climb x up (suc n) p q m i j b =
      let item : (a : ℕ) → In a (passed C x) → In a C.items = λ a t. (passed_is C x a t).0 in
      ⊎_elim
      (λ h. record { row = p; member = h; passes = b })
      (λ w.
      let e = w.row in
      let f = item e w.member in
      climb x up n e q (omega (arith, F.grows e p f (item p j) w.passes)) i w.member (F.beats_trans e p q f (item p j) i w.passes b))
      (rising_case x up p j)

  rising_beaten : (x : List ℕ) → x ⊑ refine C x → (q : ℕ) → In q C.items → Beaten C (passed C x) q → Beaten C (held_items C x) q
  rising_beaten x up q i w = climb x up (suc (F.metric w.row)) w.row q (omega arith) i w.member w.passes

  calm_beaten : (x : List ℕ) → Calm C x → (q : ℕ) → In q C.items → Beaten C (passed C x) q → Beaten C (held_items C x) q
  calm_beaten x c q i b =
      let p = b.row in
      ⊎_elim
      (λ h. record { row = p; member = h; passes = b.passes })
      (λ w. record {
        row = w.row;
        member = w.member;
        passes = F.beats_trans w.row p q (held_is C x w.row w.member).0 (passed_is C x p b.member).0 i w.passes b.passes;
      })
      (calm_case x c p b.member)

  -- so the first free place is the same with regard to either
  same : (x : List ℕ) → ((q : ℕ) → In q C.items → Beaten C (passed C x) q → Beaten C (held_items C x) q)
      → (r : ℕ) → first_free C (passed C x) r ≡ first_free C (held_items C x) r
  same x h r =
      omega (
        arith,
        free_mono C (passed C x) (held_items C x) r h,
        free_mono C (held_items C x) (passed C x) r (λ q i b. record { row = b.row; member = held_passed C x b.row b.member; passes = b.passes }),
      )

  same_table : (x : List ℕ) → ((r : ℕ) → first_free C (passed C x) r ≡ first_free C (held_items C x) r)
      → refine C x ≡ table C.owners (first_free C (held_items C x))
  same_table x h = ap (λ (f : ℕ → ℕ). table C.owners f) (fun_ext h)

  fixed→Calm : (x : List ℕ) → x ≡ refine C x → Calm C x
  fixed→Calm x e = e ∙ same_table x (same x (rising_beaten x (λ i. omega (arith, ap (λ (z : List ℕ). get_or z i 0) e))))

  Calm→fixed : (x : List ℕ) → Calm C x → x ≡ refine C x
  Calm→fixed x c = c ∙ sym (same_table x (same x (calm_beaten x c)))

-- ======== THE THEOREMS

module _ (C : Contest) (F : Fair C) where
  pub earliest_calm : Calm C (earliest C)
  earliest_calm = fixed→Calm C F (earliest C) (earliest_rests C)

  pub latest_calm : Calm C (latest C)
  latest_calm = fixed→Calm C F (latest C) (latest_rests C)

  pub earliest_first : (x : List ℕ) → Calm C x → earliest C ⊑ x
  earliest_first x c = above C (length C.items) (bottom C) x (Calm→fixed C F x c) (from_bottom C x)

  pub latest_last : (x : List ℕ) → Calm C x → x ⊑ latest C
  latest_last x c =
      below C (length C.items) (top C) x (Calm→fixed C F x c) (subst (λ (z : List ℕ). z ⊑ top C) (sym c) (free_top C (held_items C x)))
