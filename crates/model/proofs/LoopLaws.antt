-- Laws by which a loop over numbers is proved, which goes from 0 up.
use Rattle.std.specs.Prelude.{ℕ, suc, ◌+◌, ◌-◌, ◌≤◌, ◌<◌, ◌≡◌, refl, Bool, true, false, not, ◌&&◌, ◌||◌, List, [], ◌∷◌, length, get_or, set, eqb, ltb}
use Rattle.std.proofs.Common.{zero-le, not-suc-le-zero, add-one, arith, sym, ap, ap₂, ◌∙◌, subst, length-set, get_or-set_same, get_or-set_other, ext_get_or, below_more, ltb-true, ltb-false, eqb-true}
use Rattle.std.proofs.lemmas.List.{set-get_or}
use Rattle.std.proofs.lemmas.Bool.{not-true, not-false}
use Rattle.model.specs.Rows.{some, span, table}
use Rattle.model.proofs.RowLaws.{by, both, or_false, some_append, some_snoc, table_length, table_at, table_append, table_snoc}

-- the rows from i up to n
abbrev pub rest : ℕ → ℕ → List ℕ
rest i n = span i (n - i)

pub rest_next : (i n : ℕ) → i < n → rest i n ≡ i ∷ rest (i + 1) n
rest_next i n l =
    let e : n - i ≡ suc (n - (i + 1)) = omega arith in
    rw (e, add-one)

pub rest_end : (i n : ℕ) → n ≤ i → rest i n ≡ []
rest_end i n l =
    let e : n - i ≡ 0 = omega arith in
    rw e

-- ---- a loop that stores f k at each k below n, and has done so below i
pub record Stored {A : Type 0} (d : A) (f : ℕ → A) (n : ℕ) (xs₀ : List A) (i : ℕ) (xs : List A) : Type 0 where
  pub within : i ≤ n
  pub long : length xs ≡ n
  pub done : (k : ℕ) → k < i → get_or xs k d ≡ f k
  pub ahead : (k : ℕ) → i ≤ k → get_or xs k d ≡ get_or xs₀ k d

module _ {A : Type 0} {d : A} {f : ℕ → A} {n : ℕ} {xs₀ : List A} where
  pub stored : length xs₀ ≡ n → Stored d f n xs₀ 0 xs₀
  stored e = record { within = zero-le; long = e; done = λ k l. absurd (not-suc-le-zero l); ahead = λ k l. refl }

  module _ {i : ℕ} {xs : List A} (s : Stored d f n xs₀ i xs) where
    pub stored_next : {v : A} → i < n → v ≡ f i → Stored d f n xs₀ (i + 1) (set xs i v)
    stored_next {v} l e =
        let g = s.long in
        record {
          within = omega arith;
          long = length-set xs i v ∙ s.long;
          done = below_more (λ k. get_or (set xs i v) k d ≡ f k) i (λ k m. get_or-set_other xs i k v d (omega arith) ∙ s.done k m) (get_or-set_same xs i v d (omega arith) ∙ e);
          ahead = λ k m. get_or-set_other xs i k v d (omega arith) ∙ s.ahead k (omega arith);
        }

    pub stored_skip : i < n → get_or xs₀ i d ≡ f i → Stored d f n xs₀ (i + 1) xs
    stored_skip l e = record {
      within = omega arith;
      long = s.long;
      done = below_more (λ k. get_or xs k d ≡ f k) i s.done (s.ahead i (omega arith) ∙ e);
      ahead = λ k m. s.ahead k (omega arith);
    }

-- ---- a list that a loop has stored whole
pub stored_end : {A : Type 0} {d : A} {f : ℕ → A} {n : ℕ} {xs₀ xs : List A} {i : ℕ} → Stored d f n xs₀ i xs → n ≤ i → xs ≡ table n f
stored_end {d} {f} {n} {xs} s l =
    let e = table_length n f in
    let g = s.long in
    ext_get_or d xs (table n f) (omega arith) (λ k m. s.done k (omega arith) ∙ sym (table_at f d n k (omega arith)))

-- ---- a loop that looks at f k for each k below n, or until a test holds: whether it held for one below i
pub record Looked (test : ℕ → Bool) (f : ℕ → ℕ) (n i : ℕ) (found : Bool) : Type 0 where
  pub within : i ≤ n
  pub same : found ≡ some test (table i f)

module _ {test : ℕ → Bool} {f : ℕ → ℕ} {n : ℕ} where
  pub looked : Looked test f n 0 false
  looked = record { within = zero-le; same = refl }

  module _ {i : ℕ} {found : Bool} (s : Looked test f n i found) where
    pub looked_next : {b : Bool} → i < n → b ≡ test (f i) → Looked test f n (i + 1) (found || b)
    looked_next {b} l e = record {
      within = omega arith;
      same = ap₂ ◌||◌ s.same e ∙ sym (ap (some test) (table_snoc f i) ∙ some_snoc test (table i f) (f i)) ∙ ap (λ (k : ℕ). some test (table k f)) (sym (add-one i));
    }

    pub looked_end : n ≤ i → found ≡ some test (table n f)
    looked_end l = s.same ∙ ap (λ (k : ℕ). some test (table k f)) (let w = s.within in let z : i ≡ n = omega arith in z)

    -- one that goes on until it has found something: while it does,
    pub looked_more : (ltb i n && not found) ≡ true → i < n
    looked_more t = ltb-true i n (both (ltb i n) (not found) t).0

    pub looked_on : {b : Bool} → (ltb i n && not found) ≡ true → b ≡ test (f i) → Looked test f n (i + 1) b
    looked_on {b} t e =
        subst (λ (x : Bool). Looked test f n (i + 1) x) (ap (λ (x : Bool). x || b) (not-true found (both (ltb i n) (not found) t).1)) (looked_next (looked_more t) e)

    looked_found : found ≡ true → found ≡ some test (table n f)
    looked_found e =
        let w : i ≤ n = s.within in
        let rest = table (n - i) (λ k. f (i + k)) in
        sym (ap (λ (k : ℕ). some test (table k f)) (let z : n ≡ i + (n - i) = omega arith in z) ∙ ap (some test) (table_append f i (n - i)) ∙ some_append test (table i f) rest
        ∙ ap (λ (x : Bool). x || some test rest) (sym s.same ∙ e) ∙ sym e)

    -- and when it no longer does
    pub looked_over : (ltb i n && not found) ≡ false → found ≡ some test (table n f)
    looked_over t =
        by (ltb i n) (λ l. looked_found (not-false found (ap (λ (x : Bool). x && not found) (sym l) ∙ t))) (λ l. looked_end (ltb-false i n l))

-- ---- a loop that brings each member up to date, in place, and says whether any moved
pub record Moved (f : ℕ → ℕ) (n : ℕ) (xs₀ : List ℕ) (i : ℕ) (xs : List ℕ) (moved : Bool) : Type 0 where
  pub at : Stored 0 f n xs₀ i xs
  pub still : moved ≡ false → xs ≡ xs₀

module _ {f : ℕ → ℕ} {n : ℕ} {xs₀ : List ℕ} where
  pub moved : length xs₀ ≡ n → Moved f n xs₀ 0 xs₀ false
  moved e = record { at = stored e; still = λ _. refl }

  module _ {i : ℕ} {xs : List ℕ} {b : Bool} (s : Moved f n xs₀ i xs b) where
    pub moved_next : {v : ℕ} {c : Bool} → i < n → v ≡ f i → c ≡ (b || not (eqb v (get_or xs i 0))) → Moved f n xs₀ (i + 1) (set xs i v) c
    moved_next {v} l e d = record {
      at = stored_next s.at l e;
      still = λ t. let h = or_false b (not (eqb v (get_or xs i 0))) (sym d ∙ t) in
          ap (set xs i) (eqb-true v (get_or xs i 0) (not-false (eqb v (get_or xs i 0)) h.1)) ∙ set-get_or xs i 0 ∙ s.still h.0;
    }

    pub moved_end : n ≤ i → (xs ≡ table n f) × (b ≡ false → xs ≡ xs₀)
    moved_end l = (stored_end s.at l, s.still)
