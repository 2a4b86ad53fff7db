-- Laws of the least and the greatest key of a list of rows, and of the steps that keep the rows which have it.
use Rattle.std.specs.Prelude.{ℕ, ◌≤◌, min, max, ◌≡◌, refl, ◌⊎◌, Bool, List, [], ◌∷◌, ◌++◌, T, eqb, leb}
use Rattle.std.proofs.Common.{arith, ap, ap₂, ◌∙◌, inl, inr, eqb→eq, leb→le}
use Rattle.std.proofs.Math.Dec.{nleb→lt, not_T}
use Rattle.model.specs.Rows.{keep, least, greatest, keep_least, keep_greatest}
use Rattle.model.proofs.RowLaws.{decide, eq→eqb, In, Some, here, there, nowhere, in_cases, member_or_empty, in_keep, keep_in, Agree, keep_agree}
use Rattle.model.specs.Contest.{least_or}

-- ---- the least and the greatest

pub least_le : (key : ℕ → ℕ) {q : ℕ} (rows : List ℕ) → In q rows → least key rows ≤ key q
least_le key [] m = absurd (nowhere m)
least_le key {q} (p ∷ []) m = elim (in_cases m) [ inl e ↦ (let k = ap key e in omega arith) | inr n ↦ absurd (nowhere n) ]
least_le key {q} (p ∷ a ∷ rows) m = elim (in_cases m) [
  | inl e ↦ (let k = ap key e in omega arith)
  | inr n ↦ (let h = least_le key (a ∷ rows) n in omega arith)
]

pub least_some : (key : ℕ → ℕ) {q : ℕ} (rows : List ℕ) → In q rows → Some (λ p. key p ≡ least key rows) rows
least_some key [] m = absurd (nowhere m)
least_some key (p ∷ []) m = record { row = p; member = here refl; passes = refl }
least_some key (p ∷ a ∷ rows) m = go (least_some key (a ∷ rows) (here refl)) (decide (leb (key p) (least key (a ∷ rows))))
  where
    go : Some (λ z. key z ≡ least key (a ∷ rows)) (a ∷ rows) → T (leb (key p) (least key (a ∷ rows))) ⊎ (T (leb (key p) (least key (a ∷ rows))) → ⊥)
        → Some (λ z. key z ≡ min (key p) (least key (a ∷ rows))) (p ∷ a ∷ rows)
    go w (inl h) = record { row = p; member = here refl; passes = omega (arith, leb→le (key p) (least key (a ∷ rows)) h) }
    go w (inr h) = record { row = w.row; member = there w.member; passes = omega (arith, w.passes, nleb→lt (key p) (least key (a ∷ rows)) (not_T (leb (key p) (least key (a ∷ rows))) h)) }

pub le_greatest : (key : ℕ → ℕ) {q : ℕ} (rows : List ℕ) → In q rows → key q ≤ greatest key rows
le_greatest key [] m = absurd (nowhere m)
le_greatest key {q} (p ∷ rows) m = elim (in_cases m) [
  | inl e ↦ (let k = ap key e in omega arith)
  | inr n ↦ (let h = le_greatest key rows n in omega arith)
]

pub greatest_some : (key : ℕ → ℕ) {q : ℕ} (rows : List ℕ) → In q rows → Some (λ p. key p ≡ greatest key rows) rows
greatest_some key [] m = absurd (nowhere m)
greatest_some key (p ∷ rows) m = go (member_or_empty rows) (decide (leb (greatest key rows) (key p))) (λ q k. greatest_some key {q = q} rows k)
  where
    go : Some (λ q. Unit {0}) rows ⊎ (rows ≡ []) → T (leb (greatest key rows) (key p)) ⊎ (T (leb (greatest key rows) (key p)) → ⊥)
        → ((q : ℕ) → In q rows → Some (λ z. key z ≡ greatest key rows) rows) → Some (λ z. key z ≡ max (key p) (greatest key rows)) (p ∷ rows)
    go s (inl h) below = record { row = p; member = here refl; passes = omega (arith, leb→le (greatest key rows) (key p) h) }
    go (inl s) (inr h) below = let w = below s.row s.member in record { row = w.row; member = there w.member; passes = omega (arith, w.passes, nleb→lt (greatest key rows) (key p) (not_T (leb (greatest key rows) (key p)) h)) }
    go (inr e) (inr h) below = record { row = p; member = here refl; passes = omega (arith, ap (greatest key) e) }

-- ---- steps

-- A step keeps the members that are as good as every member, and some member is. All steps of the decision process are such.
pub record Picks (good : ℕ → ℕ → Type 0) (step : List ℕ → List ℕ) : Type 0 where
  pub from : {q : ℕ} (rows : List ℕ) → In q (step rows) → In q rows
  pub best : {q p : ℕ} (rows : List ℕ) → In q (step rows) → In p rows → good q p
  pub into : {q : ℕ} (rows : List ℕ) → In q rows → ((p : ℕ) → In p rows → good q p) → In q (step rows)
  pub any : {p : ℕ} (rows : List ℕ) → In p rows → Some (λ q. Unit {0}) (step rows)

pub picks_least : (key : ℕ → ℕ) → Picks (λ q p. key q ≤ key p) (keep_least key)
picks_least key = record {
  from = λ {q} rows m. (keep_in (test rows) rows m).0;
  best = λ {q} {p} rows m n. (let a = eqb→eq (key q) (least key rows) (keep_in (test rows) rows m).1 in let b = least_le key rows n in omega arith);
  into = λ {q} rows m f. in_keep (test rows) rows m (eq→eqb (low q rows m (least_some key rows m) f));
  any = λ rows m. (let w = least_some key rows m in record { row = w.row; member = in_keep (test rows) rows w.member (eq→eqb w.passes); passes = tt });
}
  where
    test : List ℕ → ℕ → Bool
    test rows q = eqb (key q) (least key rows)

    low : (q : ℕ) (rows : List ℕ) → In q rows → Some (λ p. key p ≡ least key rows) rows → ((p : ℕ) → In p rows → key q ≤ key p) → key q ≡ least key rows
    low q rows m w f = omega (arith, least_le key rows m, w.passes, f w.row w.member)

pub picks_greatest : (key : ℕ → ℕ) → Picks (λ q p. key p ≤ key q) (keep_greatest key)
picks_greatest key = record {
  from = λ {q} rows m. (keep_in (test rows) rows m).0;
  best = λ {q} {p} rows m n. (let a = eqb→eq (key q) (greatest key rows) (keep_in (test rows) rows m).1 in let b = le_greatest key rows n in omega arith);
  into = λ {q} rows m f. in_keep (test rows) rows m (eq→eqb (high q rows m (greatest_some key rows m) f));
  any = λ rows m. (let w = greatest_some key rows m in record { row = w.row; member = in_keep (test rows) rows w.member (eq→eqb w.passes); passes = tt });
}
  where
    test : List ℕ → ℕ → Bool
    test rows q = eqb (key q) (greatest key rows)

    high : (q : ℕ) (rows : List ℕ) → In q rows → Some (λ p. key p ≡ greatest key rows) rows → ((p : ℕ) → In p rows → key p ≤ key q) → key q ≡ greatest key rows
    high q rows m w f = omega (arith, le_greatest key rows m, w.passes, f w.row w.member)

-- ---- the least key, or `past`

module _ (past : ℕ) (key : ℕ → ℕ) where
  pub least_or_past : (rows : List ℕ) → least_or past key rows ≤ past
  least_or_past [] = omega arith
  least_or_past (q ∷ rows) = omega (arith, least_or_past rows)

  pub least_or_le : {q : ℕ} (rows : List ℕ) → In q rows → least_or past key rows ≤ key q
  least_or_le [] m = absurd (nowhere m)
  least_or_le {q} (p ∷ rows) m = elim (in_cases m) [
    | inl e ↦ (let k = ap key e in omega arith)
    | inr n ↦ (let h = least_or_le rows n in omega arith)
  ]

  pub le_least_or : {n : ℕ} (rows : List ℕ) → n ≤ past → ((q : ℕ) → In q rows → n ≤ key q) → n ≤ least_or past key rows
  le_least_or [] low h = low
  le_least_or (p ∷ rows) low h = omega (arith, h p (here refl), le_least_or rows low (λ q m. h q (there m)))

  pub least_or_at : {h : ℕ} (rows : List ℕ) → In h rows → key h ≤ past → ((q : ℕ) → In q rows → key h ≤ key q) → least_or past key rows ≡ key h
  least_or_at rows m k f = omega (arith, least_or_le rows m, le_least_or rows k f)

  pub least_or_some : {q : ℕ} (rows : List ℕ) → In q rows → ((q : ℕ) → In q rows → key q ≤ past) → Some (λ p. least_or past key rows ≡ key p) rows
  least_or_some rows m f =
      let w = (picks_least key).any rows m in
      let n = (picks_least key).from rows w.member in
      record { row = w.row; member = n; passes = least_or_at rows n (f w.row n) (λ p k. (picks_least key).best rows w.member k) }

pub least_or_lower : (a past : ℕ) (key : ℕ → ℕ) (rows : List ℕ) → a ≤ past → min a (least_or past key rows) ≡ least_or a key rows
least_or_lower a past key [] l = omega arith
least_or_lower a past key (q ∷ rows) l = omega (arith, least_or_lower a past key rows l)

-- what is below a number or the least key is below the lesser of both
pub least_or_min : (a past : ℕ) (key : ℕ → ℕ) (rows : List ℕ) → min a (least_or past key rows) ≡ least_or (min a past) key rows
least_or_min a past key [] = refl
least_or_min a past key (q ∷ rows) = omega (arith, least_or_min a past key rows)

-- the least key of two lists is that of the second, where none is above the least of the first
pub least_or_append : (past : ℕ) (key : ℕ → ℕ) (rows more : List ℕ) → least_or past key (rows ++ more) ≡ least_or (least_or past key rows) key more
least_or_append past key [] more = refl
least_or_append past key (q ∷ rows) more = ap (min (key q)) (least_or_append past key rows more) ∙ least_or_min (key q) (least_or past key rows) key more

-- the least key as `Rows` has it, where no key is above `past`
module _ (past : ℕ) (key : ℕ → ℕ) (bound : (q : ℕ) → key q ≤ past) where
  least_is : (q : ℕ) (rows : List ℕ) → least key (q ∷ rows) ≡ least_or past key (q ∷ rows)
  least_is q [] = let b = bound q in omega arith
  least_is q (p ∷ rows) = ap (min (key q)) (least_is p rows)

  pub keep_least_lem : (rows : List ℕ) → keep_least key rows ≡ keep (λ q. eqb (key q) (least_or past key rows)) rows
  keep_least_lem [] = refl
  keep_least_lem (q ∷ rows) = ap (λ (low : ℕ). keep (λ p. eqb (key p) low) (q ∷ rows)) (least_is q rows)

-- ---- keys that agree on the members

module _ (f g : ℕ → ℕ) where
  least_agree : (rows : List ℕ) → Agree f g rows → least f rows ≡ least g rows
  least_agree [] h = refl
  least_agree (q ∷ []) h = h q (here refl)
  least_agree (q ∷ p ∷ rows) h = ap₂ min (h q (here refl)) (least_agree (p ∷ rows) (λ z m. h z (there m)))

  pub keep_least_agree : (rows : List ℕ) → Agree f g rows → keep_least f rows ≡ keep_least g rows
  keep_least_agree rows h =
      keep_agree (λ q. eqb (f q) (least f rows)) (λ q. eqb (g q) (least g rows)) rows (λ q m. ap₂ eqb (h q m) (least_agree rows h))
