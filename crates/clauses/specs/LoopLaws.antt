-- How the loops over clauses go on: one law for each turn and each way out.
use Rattle.std.specs.Prelude.{ℕ, ◌+◌, ◌≤◌, ◌<◌, ◌≡◌, refl, Bool, true, false, cond, List, [], ◌∷◌, ◌++◌, map, length, set, take, drop, if◌then◌else◌, Some, None}
use Rattle.std.proofs.Common.{arith, sym, ap, ap₂, ◌∙◌, subst, append_assoc, append-nil, take_at, take_all, length-take, drop-drop}
use Rattle.std.specs.List.{find}
use Rattle.std.specs.Option.{option_map_or}
use Rattle.std.proofs.lemmas.List.{map-append, length-map, take_more_set, drop-set-lt, take-append-le, take-append-drop, drop-append-le}
use Rattle.policy.specs.Policy.{Clause, most_clauses}
use Rattle.policy.specs.Rewriting.{usual, fits, preference_of, preferred}
use Rattle.clauses.specs.declared.Clause as code
use Rattle.clauses.specs.declared.Scope.{Scope}
use Rattle.clauses.specs.declared.Scope.TheVariants.{Prefix, Direct, All}
use Rattle.clauses.specs.Walking.{clause_at, size_at, is_clause, clauses_from, behind_clauses, scoped, clause_of}
use Rattle.clauses.specs.WalkingLaws.{clause_whole, clauses_as, behind_stop, behind_next}

-- ---- what is given where it stands

pub some_if : {A : Type 0} (b : Bool) {x y : A} → Some x ≡ (if b then Some y else None) → (b ≡ true) × (x ≡ y)
some_if true e = (refl, cc)
some_if false e = absurd cc

pub none_if : {A : Type 0} (b : Bool) (y : A) → None ≡ (if b then Some y else None) → b ≡ false
none_if true y e = absurd cc
none_if false y e = refl

-- ---- clauses taken apart

-- n clauses were taken apart, and those from `at` on are left
pub record Taken (bs : List ℕ) (at₀ : ℕ) (cs₀ : List code.Clause) (n at : ℕ) (cs : List code.Clause) : Type 0 where
  pub inside : at ≤ length bs
  pub all : map clause_of (take n cs) ++ clauses_from bs at ≡ clauses_from bs at₀
  pub others : drop n cs ≡ drop n cs₀

pub taken : {bs : List ℕ} {at : ℕ} (cs : List code.Clause) → at ≤ length bs → Taken bs at cs 0 at cs
taken cs h = record { inside = h; all = refl; others = refl }

module _ {bs : List ℕ} {at₀ : ℕ} {cs₀ : List code.Clause} {n at : ℕ} {cs : List code.Clause} (t : Taken bs at₀ cs₀ n at cs) where
  -- one more
  pub taken_next : {size : ℕ} (c : code.Clause) → n < length cs → (is_clause bs at ≡ true) × (size ≡ size_at bs at) → clause_of c ≡ clause_at bs at
      → Taken bs at₀ cs₀ (n + 1) (at + size) (set cs n c)
  taken_next {size} c l (e, s) is =
      let done : List Clause = map clause_of (take n cs) in
      let more : map clause_of (take (n + 1) (set cs n c)) ≡ done ++ (clause_of c ∷ []) =
      ap (map clause_of) (take_more_set cs n c l) ∙ map-append clause_of (take n cs) (c ∷ []) in
      let left : clause_of c ∷ clauses_from bs (at + size) ≡ clauses_from bs at =
      ap₂ (λ (d : Clause) (k : ℕ). d ∷ clauses_from bs (at + k)) is s ∙ sym (clauses_as bs at e) in
      record {
        inside = omega (arith, clause_whole bs at e);
        all =
            ap (λ (ds : List Clause). ds ++ clauses_from bs (at + size)) more
            ∙ append_assoc done (clause_of c ∷ []) (clauses_from bs (at + size))
            ∙ ap (λ (ds : List Clause). done ++ ds) left
            ∙ t.all;
        others =
            drop-set-lt (n + 1) cs n c (omega arith)
            ∙ sym (drop-drop 1 n cs)
            ∙ ap (drop 1) t.others
            ∙ drop-drop 1 n cs₀;
      }

-- at the end, with the entries behind those that a session's clauses may take
module _ {bs : List ℕ} {at₀ : ℕ} (cs₀ : List code.Clause) {n at : ℕ} {cs : List code.Clause} (t : Taken bs at₀ (take most_clauses cs₀) n at cs)
    (long : length cs ≡ length (take most_clauses cs₀)) (few : n ≤ length cs) where
  pub taken_others : drop n (cs ++ drop most_clauses cs₀) ≡ drop n cs₀
  taken_others =
      drop-append-le n cs (drop most_clauses cs₀) few
      ∙ ap (λ (xs : List code.Clause). xs ++ drop most_clauses cs₀) t.others
      ∙ sym (drop-append-le n (take most_clauses cs₀) (drop most_clauses cs₀) (omega arith))
      ∙ ap (drop n) (take-append-drop most_clauses cs₀)

  front : map clause_of (take n (cs ++ drop most_clauses cs₀)) ≡ map clause_of (take n cs)
  front = ap (map clause_of) (take-append-le n cs (drop most_clauses cs₀) few)

  -- no clause is left
  pub taken_stop : is_clause bs at ≡ false → map clause_of (take n (cs ++ drop most_clauses cs₀)) ≡ take most_clauses (clauses_from bs at₀)
  taken_stop e =
      let done : List Clause = map clause_of (take n cs) in
      let whole : done ≡ clauses_from bs at₀ = sym (append-nil done) ∙ ap (λ (more : List Clause). done ++ more) (sym (clauses_as bs at e)) ∙ t.all in
      front ∙ sym (take_all most_clauses done (omega (arith, length-map (take n cs) clause_of, length-take n cs, length-take most_clauses cs₀))) ∙ ap (take most_clauses) whole

  -- as many as a session may have
  pub taken_full : n ≡ most_clauses → (map clause_of (take most_clauses (cs ++ drop most_clauses cs₀)) ≡ take most_clauses (clauses_from bs at₀)) × (drop most_clauses (cs ++ drop most_clauses cs₀) ≡ drop most_clauses cs₀)
  taken_full full =
      let done : List Clause = map clause_of (take n cs) in (
        ap (λ (m : ℕ). map clause_of (take m (cs ++ drop most_clauses cs₀))) (sym full)
            ∙ front
            ∙ sym (take_at done (clauses_from bs at) most_clauses (omega (arith, length-map (take n cs) clause_of, length-take n cs)))
            ∙ ap (take most_clauses) t.all,
        subst (λ (m : ℕ). drop m (cs ++ drop most_clauses cs₀) ≡ drop m cs₀) full taken_others,
      )

-- ---- the first clause that fits

-- a clause gives its preference
gives_own : (scope : Scope) (preference : ℕ) → preference_of (scoped scope preference) ≡ preference
gives_own (Prefix address bits) preference = refl
gives_own (Direct asn) preference = refl
gives_own All preference = refl

-- what the first one gives that fits
pub first_gives : (cs : List code.Clause) (address bits path neighbour : ℕ)
    → option_map_or (λ c. c.preference) (find (λ c. fits (clause_of c) address bits path neighbour) cs) usual ≡ preferred (map clause_of cs) address bits path neighbour
first_gives [] address bits path neighbour = refl
first_gives (c ∷ cs) address bits path neighbour = go (fits (clause_of c) address bits path neighbour) (first_gives cs address bits path neighbour)
  where
    go : (b : Bool) → option_map_or (λ c. c.preference) (find (λ c. fits (clause_of c) address bits path neighbour) cs) usual ≡ preferred (map clause_of cs) address bits path neighbour
        → option_map_or (λ c. c.preference) (cond b (Some c) (find (λ c. fits (clause_of c) address bits path neighbour) cs)) usual
        ≡ cond b (preference_of (clause_of c)) (preferred (map clause_of cs) address bits path neighbour)
    go true h = sym (gives_own c.scope c.preference)
    go false h = h

-- ---- the place behind the clauses

-- behind the clauses from `at` on is behind those from at₀ on
pub record Skipped (bs : List ℕ) (at₀ at : ℕ) : Type 0 where
  pub inside : at ≤ length bs
  pub same : behind_clauses bs at ≡ behind_clauses bs at₀

pub skipped : {bs : List ℕ} {at : ℕ} → at ≤ length bs → Skipped bs at at
skipped h = record { inside = h; same = refl }

module _ {bs : List ℕ} {at₀ at : ℕ} (s : Skipped bs at₀ at) where
  pub skipped_end : is_clause bs at ≡ false → (at ≡ behind_clauses bs at₀) × (at ≤ length bs)
  skipped_end e = (sym (behind_stop bs at e) ∙ s.same, s.inside)

  pub skipped_next : {n : ℕ} → is_clause bs at ≡ true → n ≡ size_at bs at → Skipped bs at₀ (at + n)
  skipped_next e l = subst (λ (k : ℕ). Skipped bs at₀ (at + k)) (sym l) (record { inside = clause_whole bs at e; same = sym (behind_next bs at e) ∙ s.same })
