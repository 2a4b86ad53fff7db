-- From the bytes of a valid policy that policy is taken.
use Rattle.std.specs.Prelude.{ℕ, ◌+◌, ◌-◌, ◌≤◌, ◌≡◌, refl, Bool, true, false, cond, ◌&&◌, List, [], ◌∷◌, ◌++◌, length, get_or, take, drop, leb, eqb}
use Rattle.std.proofs.Common.{arith, sym, ap, ap₂, ◌∙◌, append_assoc, length-append, length-drop, drop_at, drop-drop, take_all, le-leb}
use Rattle.snapshot.specs.Records.{Form, end_form, written, size, Fits, kind, values, values_at}
use Rattle.snapshot.proofs.RecordsLaws.{values_at_lem, values_written}
use Rattle.snapshot.proofs.PlaceLaws.{kind_at}
use Rattle.snapshot.specs.Format.{Each}
use Rattle.policy.specs.Policy.{Clause, exact, direct, any, Policy, most_clauses, session_form, exact_form, direct_form, any_form, clause_form, clause_fields, clauses_bytes, zero_bytes, sessions_bytes, GoodClause, GoodSession}
use Rattle.policy.specs.Reading.{exact_clause, direct_clause, any_clause}
use Rattle.clauses.specs.declared.Named.{Named}
use Rattle.clauses.specs.Walking.{clause_at, size_at, clause_kind, clauses_from, behind_clauses, is_session, named_at, session_by, sessions_from}
use Rattle.clauses.specs.WalkingLaws.{clause_exact, clause_direct, clause_any, clause_written, clauses_as, behind_is, sessions_step}

-- ---- what stands at a place

module _ (bs : List ℕ) (at : ℕ) (xs rest : List ℕ) (here : drop at bs ≡ xs ++ rest) where
  kind_here : get_or bs at 0 ≡ kind (xs ++ rest)
  kind_here = sym (kind_at bs at) ∙ ap kind here

  whole_here : 1 ≤ length xs → at + length xs ≤ length bs
  whole_here l =
      let a : length (drop at bs) ≡ length bs - at = length-drop at bs in
      let b : length (drop at bs) ≡ length xs + length rest = ap length here ∙ length-append xs rest in
      omega arith

  behind_here : (k : ℕ) → length xs ≡ k → drop (at + k) bs ≡ rest
  behind_here k l = sym (drop-drop k at bs) ∙ ap (drop k) here ∙ drop_at xs rest k l

values_here : (f : Form) (vs bs : List ℕ) (at : ℕ) (rest : List ℕ) → drop at bs ≡ written f vs ++ rest → Fits f.widths vs → values_at f bs at ≡ vs
values_here f vs bs at rest here fit = sym (values_at_lem f bs at) ∙ ap (values f) here ∙ values_written f vs rest fit

-- ---- clauses

-- the bytes of a clause's record
abbrev clause_bytes : Clause → List ℕ
clause_bytes c = written (clause_form c) (clause_fields c)

clause_here : (c : Clause) (bs : List ℕ) (at : ℕ) (rest : List ℕ) → drop at bs ≡ clause_bytes c ++ rest → Fits (clause_form c).widths (clause_fields c)
    → (clause_at bs at ≡ c) × (clause_kind (get_or bs at 0) ≡ true)
clause_here (exact address bits preference) bs at rest here fit =
    let vs : List ℕ = address ∷ bits ∷ preference ∷ [] in
    let k : get_or bs at 0 ≡ 2 = kind_here bs at (written exact_form vs) rest here in
    (clause_exact bs at k ∙ ap exact_clause (values_here exact_form vs bs at rest here fit), ap clause_kind k)
clause_here (direct asn preference) bs at rest here fit =
    let vs : List ℕ = asn ∷ preference ∷ [] in
    let k : get_or bs at 0 ≡ 3 = kind_here bs at (written direct_form vs) rest here in
    (clause_direct bs at k ∙ ap direct_clause (values_here direct_form vs bs at rest here fit), ap clause_kind k)
clause_here (any preference) bs at rest here fit =
    let vs : List ℕ = preference ∷ [] in
    let k : get_or bs at 0 ≡ 4 = kind_here bs at (written any_form vs) rest here in
    (clause_any bs at (omega arith) (omega arith) ∙ ap any_clause (values_here any_form vs bs at rest here fit), ap clause_kind k)

clauses_from_lem : (bs rest : List ℕ) → clause_kind (kind rest) ≡ false → (before cs : List Clause) (at : ℕ) → drop at bs ≡ clauses_bytes cs ++ rest
    → Each GoodClause before cs → clauses_from bs at ≡ cs
clauses_from_lem bs rest other before [] at here good =
    clauses_as bs at (ap (λ (b : Bool). b && leb (at + size_at bs at) (length bs)) (ap clause_kind (kind_here bs at [] rest here) ∙ other))
clauses_from_lem bs rest other before (c ∷ cs) at here good =
    let front : drop at bs ≡ clause_bytes c ++ (clauses_bytes cs ++ rest) = here ∙ append_assoc (clause_bytes c) (clauses_bytes cs) rest in
    let it = clause_here c bs at (clauses_bytes cs ++ rest) front good.0.fits in
    let long : length (clause_bytes c) ≡ size (clause_form c) = clause_written c in
    let size_is : size_at bs at ≡ size (clause_form c) = ap (λ (c : Clause). size (clause_form c)) it.0 in
    let some = whole_here bs at (clause_bytes c) (clauses_bytes cs ++ rest) front (omega arith) in
    clauses_as bs at (ap₂ ◌&&◌ it.1 (le-leb (at + size_at bs at) (length bs) (omega arith)))
    ∙ ap₂ {C = List Clause} ◌∷◌ it.0
    (ap (λ (k : ℕ). clauses_from bs (at + k)) size_is
    ∙ clauses_from_lem bs rest other (before ++ (c ∷ [])) cs (at + size (clause_form c)) (behind_here bs at (clause_bytes c) (clauses_bytes cs ++ rest) front (size (clause_form c)) long) good.1)

-- ---- sessions

-- what follows the clauses of a session is no clause
no_clause_next : (ss : Policy) (k : ℕ) → clause_kind (kind (sessions_bytes ss ++ written end_form (k ∷ []))) ≡ false
no_clause_next [] k = refl
no_clause_next (s ∷ ss) k = refl

-- what follows its name and kind 5, where that stands, is no kind 5
no_zero_next : (cs : List Clause) (ss : Policy) (k : ℕ) → eqb (kind (clauses_bytes cs ++ (sessions_bytes ss ++ written end_form (k ∷ [])))) 5 ≡ false
no_zero_next [] [] k = refl
no_zero_next [] (s ∷ ss) k = refl
no_zero_next (exact address bits preference ∷ cs) ss k = refl
no_zero_next (direct asn preference ∷ cs) ss k = refl
no_zero_next (any preference ∷ cs) ss k = refl

zero_tells : (b : Bool) (rest : List ℕ) → eqb (kind rest) 5 ≡ false → eqb (kind (zero_bytes b ++ rest)) 5 ≡ b
zero_tells true rest e = refl
zero_tells false rest e = e

zero_size : (b : Bool) → length (zero_bytes b) ≡ cond b 1 0
zero_size true = refl
zero_size false = refl

regroup : (w z c more end : List ℕ) → ((w ++ (z ++ c)) ++ more) ++ end ≡ w ++ (z ++ (c ++ (more ++ end)))
regroup w z c more end = simp append_assoc

pub sessions_from_lem : (k : ℕ) (bs : List ℕ) (before ss : Policy) (at : ℕ) → drop at bs ≡ sessions_bytes ss ++ written end_form (k ∷ [])
    → Each GoodSession before ss → sessions_from bs at ≡ ss
sessions_from_lem k bs before [] at here good =
    sessions_step bs at
    ∙ ap (λ (n : ℕ). cond (eqb n 1 && leb (at + 6) (length bs)) (session_by bs (named_at bs at) ∷ sessions_from bs (behind_clauses bs (named_at bs at).first)) [])
    (kind_here bs at [] (written end_form (k ∷ [])) here)
sessions_from_lem k bs before (s ∷ ss) at here good =
    let vs : List ℕ = s.router ∷ s.peer ∷ [] in
    let name : List ℕ = written session_form vs in
    let end : List ℕ = written end_form (k ∷ []) in
    let rest : List ℕ = sessions_bytes ss ++ end in
    let own : List ℕ = clauses_bytes s.clauses ++ rest in
    let front : drop at bs ≡ name ++ (zero_bytes s.zero ++ own) = here ∙ regroup name (zero_bytes s.zero) (clauses_bytes s.clauses) (sessions_bytes ss) end in
    let stands : is_session bs at ≡ true =
    ap₂ ◌&&◌ (ap (λ (n : ℕ). eqb n 1) (kind_here bs at name (zero_bytes s.zero ++ own) front))
    (le-leb (at + 6) (length bs) (whole_here bs at name (zero_bytes s.zero ++ own) front (omega arith))) in
    let behind : drop (at + 6) bs ≡ zero_bytes s.zero ++ own = behind_here bs at name (zero_bytes s.zero ++ own) front 6 refl in
    let zero_is : eqb (get_or bs (at + 6) 0) 5 ≡ s.zero =
    ap (λ (n : ℕ). eqb n 5) (kind_here bs (at + 6) (zero_bytes s.zero) own behind) ∙ zero_tells s.zero own (no_zero_next s.clauses ss k) in
    let first : ℕ = at + 6 + cond s.zero 1 0 in
    let at_first : drop first bs ≡ own = behind_here bs (at + 6) (zero_bytes s.zero) own behind (cond s.zero 1 0) (zero_size s.zero) in
    let named : named_at bs at ≡ record { router = s.router; peer = s.peer; zero = s.zero; first = first } =
    ap₂ {C = Named} (λ (v : List ℕ) (b : Bool). record { router = get_or v 0 0; peer = get_or v 1 0; zero = b; first = at + 6 + cond b 1 0 })
    (values_here session_form vs bs at (zero_bytes s.zero ++ own) front good.0.fits) zero_is in
    let clauses : clauses_from bs first ≡ s.clauses = clauses_from_lem bs rest (no_clause_next ss k) [] s.clauses first at_first good.0.clauses in
    sessions_step bs at
    ∙ ap (λ (b : Bool). cond b (session_by bs (named_at bs at) ∷ sessions_from bs (behind_clauses bs (named_at bs at).first)) []) stands
    ∙ ap (λ (n : Named). session_by bs n ∷ sessions_from bs (behind_clauses bs n.first)) named
    ∙ ap₂ {C = Policy} ◌∷◌
    (ap (λ (cs : List Clause). record { router = s.router; peer = s.peer; zero = s.zero; clauses = cs })
    (ap (take most_clauses) clauses ∙ take_all most_clauses s.clauses good.0.few))
    (ap (sessions_from bs) (behind_is bs first clauses)
    ∙ sessions_from_lem k bs (before ++ (s ∷ [])) ss (first + length (clauses_bytes s.clauses))
    (behind_here bs first (clauses_bytes s.clauses) rest at_first (length (clauses_bytes s.clauses)) refl) good.1)
