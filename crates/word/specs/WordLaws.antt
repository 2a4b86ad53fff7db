-- The word of differing routers: how a loop makes it, and that its ones are as many as the routers.
use Rattle.std.specs.Prelude.{ℕ, zero, suc, ◌+◌, ◌*◌, ◌<◌, ◌^◌, ◌%◌, ◌≡◌, refl, Bool, true, false, cond, List, [], ◌∷◌, ◌++◌, length}
use Rattle.std.proofs.Common.{pow-suc, one-mul, zero-mul, mul_comm, mul_assoc, add-mul, add-one, arith, sym, ap, ◌∙◌, lit<, append-nil}
use Rattle.std.specs.Int.Count.{ones}
use Rattle.std.proofs.lemmas.Nat.{ones_cat}
use Rattle.model.specs.Rows.{keep, span}
use Rattle.model.proofs.NumberLaws.{shifted}
use Rattle.model.proofs.RowLaws.{keep_append}
use Rattle.word.specs.Word.{word}

-- ---- the loop

-- one more number, and one more router
span_snoc : (a n : ℕ) → span a (suc n) ≡ span a n ++ ((a + n) ∷ [])
span_snoc a zero = ap (λ (x : ℕ). x ∷ []) (omega arith)
span_snoc a (suc n) = ap (λ (l : List ℕ). a ∷ l) (span_snoc (suc a) n ∙ ap (λ (x : ℕ). span (suc a) n ++ (x ∷ [])) (omega arith))

word_snoc : (rs : List ℕ) (r : ℕ) → word (rs ++ (r ∷ [])) ≡ word rs + 2 ^ r
word_snoc [] r = omega arith
word_snoc (q ∷ rs) r = omega (arith, word_snoc rs r)

-- the bits are the word of the routers below i that pass a test
pub record Marked (test : ℕ → Bool) (i bits : ℕ) : Type 0 where
  pub at : bits ≡ word (keep test (span 0 i))
  pub low : bits < 2 ^ i

module _ {test : ℕ → Bool} where
  pub marked : Marked test 0 0
  marked = record { at = refl; low = omega arith }

  module _ {i bits : ℕ} (s : Marked test i bits) where
    next : keep test (span 0 (i + 1)) ≡ keep test (span 0 i) ++ keep test (i ∷ [])
    next =
        ap (λ (k : ℕ). keep test (span 0 k)) (add-one i)
        ∙ ap (keep test) (span_snoc 0 i ∙ ap (λ (x : ℕ). span 0 i ++ (x ∷ [])) (omega arith))
        ∙ keep_append test (span 0 i) (i ∷ [])

    pub marked_off : test i ≡ false → Marked test (i + 1) bits
    marked_off h = record {
      at = s.at ∙ sym (ap word (next ∙ (rw h (append-nil (keep test (span 0 i))))));
      low = rw (add-one i, pow-suc 2 i) (omega (arith, s.low));
    }

    pub marked_on : {bits' : ℕ} → i < 64 → test i ≡ true → bits' ≡ bits + (1 * 2 ^ i) % 2 ^ 64 → Marked test (i + 1) bits'
    marked_on h t d =
        let v = d ∙ ap (λ (x : ℕ). bits + x) (shifted i h) in
        record {
          at = v ∙ ap (λ (x : ℕ). x + 2 ^ i) s.at ∙ sym (ap word (next ∙ rw t) ∙ word_snoc (keep test (span 0 i)) i);
          low = rw (add-one i, pow-suc 2 i) (omega (arith, s.low, v));
        }

-- ---- its ones

ones_0 : ones 0 ≡ 0
unfolding ones
ones_0 = refl

ones_1 : ones 1 ≡ 1
unfolding ones
ones_1 = refl

-- what stands at bit a or above is a multiple of 2 ^ a, with as many ones as routers
record Scaled (a bits many : ℕ) : Type 0 where
  by_what : ℕ
  scale : bits ≡ by_what * 2 ^ a
  many_ones : ones by_what ≡ many

doubled : (m a : ℕ) → m * 2 ^ suc a ≡ (m * 2) * 2 ^ a
doubled m a = ap (λ (x : ℕ). m * x) (pow-suc 2 a ∙ mul_comm (2 ^ a) 2) ∙ sym (mul_assoc m 2 (2 ^ a))

scaled : (test : ℕ → Bool) (a n : ℕ) → Scaled a (word (keep test (span a n))) (length (keep test (span a n)))
scaled test a zero = record { by_what = 0; scale = sym (zero-mul (2 ^ a)); many_ones = ones_0 }
scaled test a (suc n) = go (test a) (scaled test (suc a) n)
  where
    rest : List ℕ
    rest = keep test (span (suc a) n)

    go : (b : Bool) → Scaled (suc a) (word rest) (length rest) → Scaled a (word (cond b (a ∷ rest) rest)) (length (cond b (a ∷ rest) rest))
    go true s = record {
      by_what = s.by_what * 2 + 1;
      scale = ap (λ (x : ℕ). 2 ^ a + x) (s.scale ∙ doubled s.by_what a) ∙ plus (s.by_what * 2);
      many_ones = ones_cat 1 s.by_what 1 (lit< tt) ∙ omega (arith, s.many_ones, ones_1);
    }
      where
        plus : (m : ℕ) → 2 ^ a + m * 2 ^ a ≡ (m + 1) * 2 ^ a
        plus m = omega (arith, add-mul m 1 (2 ^ a), one-mul (2 ^ a))
    go false s = record {
      by_what = s.by_what * 2;
      scale = s.scale ∙ doubled s.by_what a;
      many_ones = ap ones (let e : s.by_what * 2 ≡ s.by_what * 2 + 0 = omega arith in e) ∙ ones_cat 1 s.by_what 0 (lit< tt) ∙ omega (arith, s.many_ones, ones_0);
    }

-- the ones of the word are as many as the routers
pub ones_word : (test : ℕ → Bool) (n : ℕ) → ones (word (keep test (span 0 n))) ≡ length (keep test (span 0 n))
ones_word test n =
    let s = scaled test 0 n in
    ap ones (s.scale ∙ (let e : s.by_what * 1 ≡ s.by_what = omega arith in e)) ∙ s.many_ones
