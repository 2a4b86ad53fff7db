-- The equations by which sessions and clauses are walked, and that each walk goes on and stays within the file.
use Prim.Native.Nat.{ℕ, zero, suc, ◌+◌, ◌-◌, ◌≤◌, ◌<◌}
use native.Mathlib.Omega.{arith}
use Rattle.std.specs.Prelude.{◌≡◌, ◌≢◌, ◌&&◌, get_or, leb, eqb, if◌then◌else◌, Some, None}
use Rattle.std.proofs.Math.Path.{refl, sym, ap, ap₂}
use Rattle.std.proofs.Common.{◌∙◌, subst, leb-true, leb-false, ne_eqb, eqb-true}
use Rattle.std.proofs.Math.Bool.{Bool, true, false, cond, and-false}
use mathlib.Core.List.{List, [], ◌∷◌, ◌++◌}
use Rattle.std.proofs.Math.ListN.{length, length-append, get_or-eq_default}
use Rattle.std.proofs.lemmas.Bool.{lt-leb}
use Rattle.wire.specs.Numbers.{number_at}
use Rattle.model.proofs.RowLaws.{by, both}
use Rattle.snapshot.specs.Records.{size, written, values_at}
use Rattle.policy.specs.Policy.{Clause, exact, direct, any, exact_form, direct_form, any_form, clause_form, clause_fields, clauses_bytes}
use Rattle.policy.specs.Reading.{exact_clause, direct_clause, any_clause}
use Rattle.policy.specs.Rewriting.{preference_of}
use Rattle.clauses.specs.declared.Scope.{Scope}
use Rattle.clauses.specs.declared.Scope.TheVariants.{Prefix, Direct, All}
use Rattle.clauses.specs.Walking.{walk, clause_at, size_at, clause_kind, is_clause, clauses_from, behind_clauses, scoped, is_session, named_at, session_by, sessions_from}

-- ---- the count of a walk does not matter

-- n is where nothing stands any more
module _ {A : Type 0} (stands : ℕ → Bool) (what : ℕ → A) (next : ℕ → ℕ) (n : ℕ)
    (ends : (at : ℕ) → n ≤ at → stands at ≡ false) (further : (at : ℕ) → at < next at) where
  walk_end : (m at : ℕ) → n ≤ at → walk stands what next m at ≡ []
  unfolding walk
  walk_end zero at h = refl
  walk_end (suc m) at h = ap (λ (b : Bool). cond b (what at ∷ walk stands what next m (next at)) []) (ends at h)

  walk_same : (m k at : ℕ) → n ≤ at + m → n ≤ at + k → walk stands what next m at ≡ walk stands what next k at
  unfolding walk
  walk_same zero k at hm hk = sym (walk_end k at (omega arith))
  walk_same (suc m) zero at hm hk = walk_end (suc m) at (omega arith)
  walk_same (suc m) (suc k) at hm hk =
      let on = further at in
      ap (λ (l : List A). cond (stands at) (what at ∷ l) []) (walk_same m k (next at) (omega arith) (omega arith))

  walk_step : (at : ℕ) → walk stands what next (suc n) at ≡ cond (stands at) (what at ∷ walk stands what next (suc n) (next at)) []
  unfolding walk
  walk_step at = ap (λ (l : List A). cond (stands at) (what at ∷ l) []) (walk_same n (suc n) (next at) (omega arith) (omega arith))

-- ---- the clause at a place

module _ (bs : List ℕ) (at : ℕ) where
  -- the clause of a kind at the place
  abbrev chosen : ℕ → Clause
  chosen k = cond (eqb k 2) (exact_clause (values_at exact_form bs at)) (cond (eqb k 3) (direct_clause (values_at direct_form bs at)) (any_clause (values_at any_form bs at)))

  pub clause_exact : get_or bs at 0 ≡ 2 → clause_at bs at ≡ exact_clause (values_at exact_form bs at)
  unfolding clause_at
  clause_exact e = ap chosen e

  pub clause_direct : get_or bs at 0 ≡ 3 → clause_at bs at ≡ direct_clause (values_at direct_form bs at)
  unfolding clause_at
  clause_direct e = ap chosen e

  pub clause_any : get_or bs at 0 ≢ 2 → get_or bs at 0 ≢ 3 → clause_at bs at ≡ any_clause (values_at any_form bs at)
  unfolding clause_at
  clause_any no2 no3 =
      ap₂ (λ (a b : Bool). cond a (exact_clause (values_at exact_form bs at)) (cond b (direct_clause (values_at direct_form bs at)) (any_clause (values_at any_form bs at))))
      (ne_eqb (get_or bs at 0) 2 no2) (ne_eqb (get_or bs at 0) 3 no3)

  -- it ends with its preference
  pub preference_last : preference_of (clause_at bs at) ≡ number_at 4 bs (at + size_at bs at - 4)
  unfolding clause_at
  preference_last = go (eqb (get_or bs at 0) 2) (eqb (get_or bs at 0) 3)
    where
      go : (a b : Bool)
          → let c = cond a (exact_clause (values_at exact_form bs at)) (cond b (direct_clause (values_at direct_form bs at)) (any_clause (values_at any_form bs at))) in
          preference_of c ≡ number_at 4 bs (at + size (clause_form c) - 4)
      go true b = ap (number_at 4 bs) (let e : at + 6 ≡ at + 10 - 4 = omega arith in e)
      go false true = ap (number_at 4 bs) (let e : at + 5 ≡ at + 9 - 4 = omega arith in e)
      go false false = ap (number_at 4 bs) (let e : at + 1 ≡ at + 5 - 4 = omega arith in e)

  -- for the code, which has the kind and the values in hand: how many bytes,
  size_of : {c : Clause} → clause_at bs at ≡ c → size_at bs at ≡ size (clause_form c)
  size_of e = ap (λ (c : Clause). size (clause_form c)) e

  pub size_exact : get_or bs at 0 ≡ 2 → size_at bs at ≡ 10
  size_exact k = size_of (clause_exact k)

  pub size_direct : get_or bs at 0 ≡ 3 → size_at bs at ≡ 9
  size_direct k = size_of (clause_direct k)

  pub size_any : get_or bs at 0 ≡ 4 → size_at bs at ≡ 5
  size_any k = size_of (clause_any (omega arith) (omega arith))

  -- whether there are so many, where a clause of a kind would have so many bytes
  pub sized : {k n : ℕ} → get_or bs at 0 ≡ k → size_at bs at ≡ n
      → (if clause_kind k && leb (at + n) (length bs) then Some n else None) ≡ (if is_clause bs at then Some (size_at bs at) else None)
  sized e s i = if clause_kind (sym e i) && leb (at + sym s i) (length bs) then Some (sym s i) else None

  -- and the clause: n is the number of its bytes
  module _ {p n : ℕ} (s : n ≡ size_at bs at) (e : p ≡ number_at 4 bs (at + n - 4)) where
    its_last : p ≡ preference_of (clause_at bs at)
    its_last = e ∙ ap (λ (m : ℕ). number_at 4 bs (at + m - 4)) s ∙ sym preference_last

    pub exact_taken : {scope : Scope} {a b : ℕ} → get_or bs at 0 ≡ 2 → scope ≡ Prefix a b → a ≡ number_at 4 bs (at + 1) → b ≡ number_at 1 bs (at + 5) → scoped scope p ≡ clause_at bs at
    exact_taken k is x y =
        let last = its_last ∙ ap preference_of (clause_exact k) in
        ap (λ (scope : Scope). scoped scope p) is ∙ (λ i. exact (x i) (y i) (last i)) ∙ sym (clause_exact k)

    pub direct_taken : {scope : Scope} {a : ℕ} → get_or bs at 0 ≡ 3 → scope ≡ Direct a → a ≡ number_at 4 bs (at + 1) → scoped scope p ≡ clause_at bs at
    direct_taken k is x =
        let last = its_last ∙ ap preference_of (clause_direct k) in
        ap (λ (scope : Scope). scoped scope p) is ∙ (λ i. direct (x i) (last i)) ∙ sym (clause_direct k)

    pub any_taken : {scope : Scope} → get_or bs at 0 ≢ 2 → get_or bs at 0 ≢ 3 → scope ≡ All → scoped scope p ≡ clause_at bs at
    any_taken no2 no3 is =
        let last = its_last ∙ ap preference_of (clause_any no2 no3) in
        ap (λ (scope : Scope). scoped scope p) is ∙ (λ i. any (last i)) ∙ sym (clause_any no2 no3)

-- a clause has 5 to 10 bytes
pub size_bounds : (c : Clause) → (5 ≤ size (clause_form c)) × (size (clause_form c) ≤ 10)
size_bounds (exact address bits preference) = (omega arith, omega arith)
size_bounds (direct asn preference) = (omega arith, omega arith)
size_bounds (any preference) = (omega arith, omega arith)

pub clause_written : (c : Clause) → length (written (clause_form c) (clause_fields c)) ≡ size (clause_form c)
clause_written (exact address bits preference) = refl
clause_written (direct asn preference) = refl
clause_written (any preference) = refl

-- it stands there whole
pub clause_whole : (bs : List ℕ) (at : ℕ) → is_clause bs at ≡ true → at + size_at bs at ≤ length bs
clause_whole bs at e = leb-true _ _ (both (clause_kind (get_or bs at 0)) (leb (at + size_at bs at) (length bs)) e).1

-- for the code, which has its size in hand; a clause for a prefix has the most bytes
module _ (bs : List ℕ) (at : ℕ) (e : is_clause bs at ≡ true) where
  pub clause_room : {n : ℕ} → n ≡ size_at bs at → (at + n ≤ length bs) × (5 ≤ n)
  clause_room l = (omega (arith, clause_whole bs at e), omega (arith, (size_bounds (clause_at bs at)).0))

  pub exact_room : get_or bs at 0 ≡ 2 → at + 10 ≤ length bs
  exact_room k = (clause_room (sym (ap (λ (c : Clause). size (clause_form c)) (clause_exact bs at k)))).0

no_clause : (bs : List ℕ) (at : ℕ) → length bs ≤ at → is_clause bs at ≡ false
no_clause bs at h =
    let s = size_bounds (clause_at bs at) in
    ap (λ (b : Bool). clause_kind (get_or bs at 0) && b) (lt-leb (at + size_at bs at) (length bs) (omega (arith, s.0))) ∙ and-false (clause_kind (get_or bs at 0))

clause_further : (bs : List ℕ) (at : ℕ) → at < at + size_at bs at
clause_further bs at = let s = size_bounds (clause_at bs at) in omega (arith, s.0)

-- one clause, and what comes after it
pub clauses_step : (bs : List ℕ) (at : ℕ) → clauses_from bs at ≡ cond (is_clause bs at) (clause_at bs at ∷ clauses_from bs (at + size_at bs at)) []
unfolding clauses_from
clauses_step bs at = walk_step (is_clause bs) (clause_at bs) (λ k. k + size_at bs k) (length bs) (no_clause bs) (clause_further bs) at

pub clauses_as : (bs : List ℕ) (at : ℕ) {b : Bool} → is_clause bs at ≡ b → clauses_from bs at ≡ cond b (clause_at bs at ∷ clauses_from bs (at + size_at bs at)) []
clauses_as bs at e = clauses_step bs at ∙ ap (λ (b : Bool). cond b (clause_at bs at ∷ clauses_from bs (at + size_at bs at)) []) e

-- ---- the place behind the clauses

module _ (bs : List ℕ) (at : ℕ) where
  pub behind_is : {cs : List Clause} → clauses_from bs at ≡ cs → behind_clauses bs at ≡ at + length (clauses_bytes cs)
  unfolding behind_clauses
  behind_is e = ap (λ (l : List Clause). at + length (clauses_bytes l)) e

  pub behind_stop : is_clause bs at ≡ false → behind_clauses bs at ≡ at
  behind_stop e = behind_is (clauses_as bs at e) ∙ (let z : at + 0 ≡ at = omega arith in z)

  pub behind_next : is_clause bs at ≡ true → behind_clauses bs at ≡ behind_clauses bs (at + size_at bs at)
  unfolding behind_clauses
  behind_next e =
      let c : Clause = clause_at bs at in
      let more : List ℕ = clauses_bytes (clauses_from bs (at + size_at bs at)) in
      let long = length-append (written (clause_form c) (clause_fields c)) more in
      let own = clause_written c in
      behind_is (clauses_as bs at e) ∙ (let z : at + length (written (clause_form c) (clause_fields c) ++ more) ≡ at + size (clause_form c) + length more = omega arith in z)

  behind_from : at ≤ behind_clauses bs at
  unfolding behind_clauses
  behind_from = omega arith

-- the walk of the clauses ends within the file: by how many bytes are left at most
behind_inside : (left : ℕ) (bs : List ℕ) (at : ℕ) → length bs ≤ at + left → at ≤ length bs → behind_clauses bs at ≤ length bs
behind_inside zero bs at l h = subst (λ (k : ℕ). k ≤ length bs) (sym (behind_stop bs at (no_clause bs at (omega arith)))) h
behind_inside (suc left) bs at l h =
    by (is_clause bs at)
    (λ e.
    let on = clause_further bs at in
    subst (λ (k : ℕ). k ≤ length bs) (sym (behind_next bs at e)) (behind_inside left bs (at + size_at bs at) (omega arith) (clause_whole bs at e)))
    (λ e. subst (λ (k : ℕ). k ≤ length bs) (sym (behind_stop bs at e)) h)

pub behind_within : (bs : List ℕ) (at : ℕ) → at ≤ length bs → behind_clauses bs at ≤ length bs
behind_within bs at h = behind_inside (length bs) bs at (omega arith) h

-- ---- sessions

pub session_whole : (bs : List ℕ) (at : ℕ) → is_session bs at ≡ true → at + 6 ≤ length bs
session_whole bs at e = leb-true _ _ (both (eqb (get_or bs at 0) 1) (leb (at + 6) (length bs)) e).1

pub no_session : (bs : List ℕ) (at : ℕ) → length bs ≤ at → is_session bs at ≡ false
no_session bs at h = ap (λ (b : Bool). eqb (get_or bs at 0) 1 && b) (lt-leb (at + 6) (length bs) (omega arith)) ∙ and-false (eqb (get_or bs at 0) 1)

-- its clauses begin behind its name
first_from : (bs : List ℕ) (at : ℕ) → at < (named_at bs at).first
first_from bs at = omega arith

-- a walk of the sessions goes on,
pub session_further : (bs : List ℕ) (at : ℕ) → at < behind_clauses bs (named_at bs at).first
session_further bs at = let first = first_from bs at in omega (arith, behind_from bs (named_at bs at).first)

-- one session, and what comes after it
pub sessions_step : (bs : List ℕ) (at : ℕ)
    → sessions_from bs at ≡ cond (is_session bs at) (session_by bs (named_at bs at) ∷ sessions_from bs (behind_clauses bs (named_at bs at).first)) []
unfolding sessions_from
sessions_step bs at =
    walk_step (is_session bs) (λ k. session_by bs (named_at bs k)) (λ k. behind_clauses bs (named_at bs k).first) (length bs) (no_session bs) (session_further bs) at

-- where its clauses begin is within the file: a kind 5 is there only where a byte is
pub first_within : (bs : List ℕ) (at : ℕ) → is_session bs at ≡ true → (named_at bs at).first ≤ length bs
first_within bs at e = go (eqb (get_or bs (at + 6) 0) 5) refl
  where
    go : (b : Bool) → eqb (get_or bs (at + 6) 0) 5 ≡ b → at + 6 + cond b 1 0 ≤ length bs
    go true five =
        by (leb (at + 7) (length bs))
        (λ l. let whole = leb-true (at + 7) (length bs) l in omega arith)
        (λ l.
        let short : length bs < at + 7 = leb-false (at + 7) (length bs) l in
        let none : get_or bs (at + 6) 0 ≡ 0 = get_or-eq_default bs 0 (omega arith) in
        let is : get_or bs (at + 6) 0 ≡ 5 = eqb-true (get_or bs (at + 6) 0) 5 five in
        absurd (omega arith))
    go false five = omega (arith, session_whole bs at e)

-- and stays within the file
pub session_within : (bs : List ℕ) (at : ℕ) → is_session bs at ≡ true → behind_clauses bs (named_at bs at).first ≤ length bs
session_within bs at e = behind_within bs (named_at bs at).first (first_within bs at e)
