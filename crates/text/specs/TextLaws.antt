-- Laws of texts in buffers, and by which the loops that put them are proved.
use Rattle.std.specs.Prelude.{ℕ, zero, suc, ◌+◌, ◌-◌, ◌*◌, ◌/◌, ◌%◌, ◌^◌, ◌≤◌, ◌<◌, ◌≡◌, refl, Bool, cond, List, [], ◌∷◌, ◌++◌, length, set}
use Rattle.std.proofs.Math.Nat.{sub-zero, div-div-eq-div-mul, pow-le-pow_right}
use Rattle.std.proofs.Common.{mul-suc, mul-le-mul_left, div-one, le-div_iff_mul-le, pow-suc, add-one, arith, sym, ap, ap₂, subst, ◌∙◌, inl, inr, append_assoc, append-nil, lit<, length-set, length-append, lt-ltb, le-ltb}
use Rattle.std.proofs.lemmas.List.Edits.{sets}
use Rattle.std.proofs.lemmas.List.{set_comm}
use Rattle.model.specs.Rows.{span}
use Rattle.model.proofs.NumberLaws.{le_or_lt}
use Rattle.model.proofs.LoopLaws.{rest, rest_next, rest_end}
use Rattle.model.proofs.ColumnLaws.{sets_append}
use Rattle.text.specs.declared.Sink.{Sink}
use Rattle.text.specs.Text.{digits, width_from, width, decimal, each, HasRoom, Puts, PutsAtMost}

module _ {A : Type 0} where
  -- an entry before those that are put may be put last
  pub set_sets : (l : List A) (i j : ℕ) (v : A) (vs : List A) → i < j → set (sets l j vs) i v ≡ sets (set l i v) j vs
  set_sets l i j v [] h = refl
  set_sets l i j v (w ∷ vs) h =
      set_sets (set l j w) i (suc j) v vs (omega arith)
      ∙ ap (λ (m : List A). sets m (suc j) vs) (set_comm l j i w v (omega arith))

-- nothing is put
pub puts_none : (s : Sink) → Puts s s []
puts_none s = record { same = refl; long = refl; place = omega arith; bytes = refl }

pub puts_then : {a b c : Sink} {t u : List ℕ} → Puts a b t → Puts b c u → Puts a c (t ++ u)
puts_then {a} {t = t} {u = u} p q = record {
  same = q.same ∙ p.same;
  long = q.long ∙ p.long;
  place = omega (arith, p.place, q.place, length-append t u);
  bytes = q.bytes ∙ ap₂ (λ (d : List ℕ) (k : ℕ). sets d k u) p.bytes p.place ∙ sets_append a.out.now a.at t u;
}

-- a text that is another
pub puts_as : {a b : Sink} {t u : List ℕ} → Puts a b t → t ≡ u → Puts a b u
puts_as {a} {b} p e = subst (Puts a b) e p

-- ---- a number that is spelt from its last digit to its first

length_digits : (k n : ℕ) → length (digits k n) ≡ k
length_digits zero n = refl
length_digits (suc k) n = ap suc (length_digits k n)

pub record Spelt (before : List ℕ) (n at k left rest : ℕ) (after : List ℕ) : Type 0 where
  pub within : left ≤ k
  pub long : length after ≡ length before
  pub rests : rest ≡ n / 10 ^ (k - left)
  pub bytes : after ≡ sets before (at + left) (digits (k - left) n)

module _ {before : List ℕ} {n at k : ℕ} where
  pub spelt : Spelt before n at k k n before
  spelt =
      let e : k - k ≡ 0 = omega arith in
      record { within = omega arith; long = refl; rests = rw e (sym (div-one n)); bytes = rw e }

  module _ {left rest : ℕ} {after : List ℕ} (s : Spelt before n at k left rest after) where
    pub spelt_next : {left' rest' d : ℕ} → 0 < left → left' ≡ left - 1 → d ≡ 48 + rest % 10 → rest' ≡ rest / 10 → Spelt before n at k left' rest' (set after (at + left') d)
    spelt_next {left'} {rest'} {d} h l e r =
        let w = s.within in
        let m : k - left' ≡ suc (k - left) = omega arith in
        let up : at + left ≡ suc (at + left') = omega arith in
        record {
          within = omega arith;
          long = length-set after (at + left') d ∙ s.long;
          rests = r ∙ ap (λ (x : ℕ). x / 10) s.rests ∙ div-div-eq-div-mul n (10 ^ (k - left)) 10
              ∙ ap (λ (x : ℕ). n / x) (sym (pow-suc 10 (k - left))) ∙ ap (λ (j : ℕ). n / 10 ^ j) (sym m);
          bytes = ap₂ (λ (x : List ℕ) (v : ℕ). set x (at + left') v) s.bytes (e ∙ ap (λ (x : ℕ). 48 + x % 10) s.rests)
              ∙ ap (λ (j : ℕ). set (sets before j (digits (k - left) n)) (at + left') (48 + n / 10 ^ (k - left) % 10)) up
              ∙ set_sets before (at + left') (suc (at + left')) (48 + n / 10 ^ (k - left) % 10) (digits (k - left) n) (omega arith)
              ∙ ap (λ (j : ℕ). sets before (at + left') (digits j n)) (sym m);
        }

    pub spelt_end : left ≤ 0 → after ≡ sets before at (digits k n)
    spelt_end l =
        let e : left ≡ 0 = omega arith in
        let a : at + left ≡ at = omega arith in
        let b : k - left ≡ k = omega arith in
        rw (a, b) at s.bytes

-- ---- how many digits a number has

width_stops : (left k n : ℕ) → n < 10 ^ k → width_from left k n ≡ k
width_stops zero k n h = refl
width_stops (suc left) k n h = ap (λ (b : Bool). cond b k (width_from left (suc k) n)) (lt-ltb n (10 ^ k) h)

width_goes : (left k n : ℕ) → 10 ^ k ≤ n → width_from (suc left) k n ≡ width_from left (suc k) n
width_goes left k n h = ap (λ (b : Bool). cond b k (width_from left (suc k) n)) (le-ltb n (10 ^ k) h)

lt_pow : (k : ℕ) → k < 10 ^ k
lt_pow zero = lit< tt
lt_pow (suc k) = omega (arith, lt_pow k, pow-suc 10 k)

-- k digits are tried, and `rest` is what they leave of n
pub record Tried (n k rest : ℕ) : Type 0 where
  pub some : 1 ≤ k
  pub rests : rest ≡ n / 10 ^ k
  pub left : width n ≡ width_from (n + 1 - k) k n

pub tried : {n rest : ℕ} → rest ≡ n / 10 → Tried n 1 rest
tried {n} e =
    let f : n ≡ n + 1 - 1 = omega arith in
    record { some = omega arith; rests = e; left = ap (λ (j : ℕ). width_from j 1 n) f }

module _ {n k rest : ℕ} (s : Tried n k rest) where
  pub tried_more : 0 < rest → 10 ^ k ≤ n
  tried_more h =
      let r = s.rests in
      let t : 1 * 10 ^ k ≤ n = (le-div_iff_mul-le {k = 10 ^ k} {x = 1} {y = n} (omega (arith, lt_pow k))).0 (omega arith) in
      omega arith

  pub tried_next : {rest' : ℕ} → 0 < rest → rest' ≡ rest / 10 → Tried n (k + 1) rest'
  tried_next h r =
      let m : n + 1 - k ≡ suc (n + 1 - (k + 1)) = omega (arith, lt_pow k, tried_more h) in
      record {
        some = omega arith;
        rests = r ∙ ap (λ (x : ℕ). x / 10) s.rests ∙ div-div-eq-div-mul n (10 ^ k) 10
            ∙ ap (λ (x : ℕ). n / x) (sym (pow-suc 10 k)) ∙ ap (λ (j : ℕ). n / 10 ^ j) (sym (add-one k));
        left = s.left ∙ ap (λ (j : ℕ). width_from j k n) m ∙ width_goes (n + 1 - (k + 1)) k n (tried_more h)
            ∙ ap (λ (j : ℕ). width_from (n + 1 - (k + 1)) j n) (sym (add-one k));
      }

  -- another digit is no more than n
  pub tried_fits : 0 < rest → k + 1 ≤ n
  tried_fits h = omega (arith, lt_pow k, tried_more h)

  pub tried_end : rest ≤ 0 → k ≡ width n
  tried_end h =
      let r = s.rests in
      sym (s.left ∙ width_stops (n + 1 - k) k n (elim (le_or_lt (10 ^ k) n) [
        | inl l ↦ absurd (let t : 1 ≤ n / 10 ^ k = (le-div_iff_mul-le {k = 10 ^ k} {x = 1} {y = n} (omega (arith, lt_pow k))).1 (omega arith) in omega arith)
        | inr l ↦ l
      ]))

-- ---- numbers in decimal

pub length_decimal : (n : ℕ) → length (decimal n) ≡ width n
unfolding decimal
length_decimal n = length_digits (width n) n

-- a number of so many digits is spelt in decimal
pub spelt_decimal : {k : ℕ} (n : ℕ) → k ≡ width n → digits k n ≡ decimal n
unfolding decimal
spelt_decimal n e = ap (λ (j : ℕ). digits j n) e

-- a number below a power of ten has no more digits than that
pub decimal_short : (k n : ℕ) → 1 ≤ k → n < 10 ^ k → length (decimal n) ≤ k
decimal_short k n h l = omega (arith, length_decimal n, within n 1 h)
  where
    within : (left j : ℕ) → j ≤ k → width_from left j n ≤ k
    within zero j i = i
    within (suc left) j i = elim (le_or_lt (10 ^ j) n) [
      | inl m ↦ omega (arith, width_goes left j n m, within left (suc j) (below j m i))
      | inr m ↦ omega (arith, width_stops (suc left) j n m)
    ]
      where
        below : (j : ℕ) → 10 ^ j ≤ n → j ≤ k → suc j ≤ k
        below j m i = elim (le_or_lt k j) [
          | inl a ↦ absurd (let high : 10 ^ k ≤ 10 ^ j = pow-le-pow_right (lit< tt) a in omega arith)
          | inr a ↦ a
        ]

-- ---- texts that are put one after the other

-- the texts below i are put, none of them longer than `most`
pub record Lined (text : ℕ → List ℕ) (most : ℕ) (before : Sink) (n i : ℕ) (after : Sink) : Type 0 where
  pub within : i ≤ n
  pub done : List ℕ
  pub left : each text (span 0 n) ≡ done ++ each text (rest i n)
  pub puts : Puts before after done
  pub short : after.at ≤ before.at + most * i

module _ {text : ℕ → List ℕ} {most : ℕ} {before : Sink} {n : ℕ} where
  pub lined : Lined text most before n 0 before
  lined = record { within = omega arith; done = []; left = rw sub-zero; puts = puts_none before; short = omega arith }

  module _ {i : ℕ} {after : Sink} (s : Lined text most before n i after) where
    pub lined_next : {after' : Sink} → i < n → PutsAtMost most after after' (text i) → Lined text most before n (i + 1) after'
    lined_next h p = record {
      within = omega arith;
      done = s.done ++ text i;
      left = s.left ∙ ap (λ (rows : List ℕ). s.done ++ each text rows) (rest_next i n h) ∙ sym (append_assoc s.done (text i) (each text (rest (i + 1) n)));
      puts = puts_then s.puts p.puts;
      short = (let m = mul-suc most i in rw (add-one i) (omega (arith, s.short, p.short)));
    }

    pub lined_end : n ≤ i → PutsAtMost (most * n) before after (each text (span 0 n))
    lined_end h =
        let w = s.within in
        let e : i ≡ n = omega arith in
        record {
          puts = puts_as s.puts (sym (s.left ∙ ap (λ (rows : List ℕ). s.done ++ each text rows) (rest_end i n h) ∙ append-nil s.done));
          short = subst (λ (k : ℕ). after.at ≤ before.at + most * k) e s.short;
        }

    -- there is room for one text more
    pub lined_room : i < n → HasRoom before (most * n) → HasRoom after most
    lined_room h r =
        let l = s.puts.long in
        let m = mul-suc most i in
        let k : most * suc i ≤ most * n = mul-le-mul_left most h in
        omega (arith, s.short)
