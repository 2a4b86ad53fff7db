-- What is applied of a policy file that was judged: its sessions and their clauses, by the places where they stand. All of it is said
-- of any bytes: what does not stand there whole is not taken.
use Rattle.std.specs.Prelude.{ℕ, zero, suc, ◌+◌, Bool, cond, ◌&&◌, ◌||◌, List, [], ◌∷◌, length, get_or, take, leb, eqb}
use Rattle.snapshot.specs.Records.{size, values_at}
use Rattle.policy.specs.Policy.{Clause, exact, direct, any, Session, most_clauses, session_form, exact_form, direct_form, any_form, zero_form, clause_form, clauses_bytes}
use Rattle.policy.specs.Reading.{exact_clause, direct_clause, any_clause}
use Rattle.clauses.specs.declared.Named.{Named}
use Rattle.clauses.specs.declared.Scope.{Scope}
use Rattle.clauses.specs.declared.Scope.TheVariants.{Prefix, Direct, All}
use Rattle.clauses.specs.declared.Clause as code

-- at most so many things from a place on, one behind the other: whether one stands at a place, what it is, and the place behind it
unfoldable pub walk : {A : Type 0} → (ℕ → Bool) → (ℕ → A) → (ℕ → ℕ) → ℕ → ℕ → List A
walk stands what next zero at = []
walk stands what next (suc count) at = cond (stands at) (what at ∷ walk stands what next count (next at)) []

-- ---- clauses

-- the clause at a place, by the kind that stands there
unfoldable pub clause_at : List ℕ → ℕ → Clause
clause_at bs at =
    cond (eqb (get_or bs at 0) exact_form.kind) (exact_clause (values_at exact_form bs at))
    (cond (eqb (get_or bs at 0) direct_form.kind) (direct_clause (values_at direct_form bs at)) (any_clause (values_at any_form bs at)))

-- the bytes of its record
abbrev pub size_at : List ℕ → ℕ → ℕ
size_at bs at = size (clause_form (clause_at bs at))

-- the kind of a clause
abbrev pub clause_kind : ℕ → Bool
clause_kind k = eqb k exact_form.kind || eqb k direct_form.kind || eqb k any_form.kind

-- the whole record of a clause stands at a place
abbrev pub is_clause : List ℕ → ℕ → Bool
is_clause bs at = clause_kind (get_or bs at 0) && leb (at + size_at bs at) (length bs)

-- the clauses from a place on: there are no more than bytes, and `clauses_step` of WalkingLaws.antt is the equation to go by
unfoldable pub clauses_from : List ℕ → ℕ → List Clause
clauses_from bs at = walk (is_clause bs) (clause_at bs) (λ k. k + size_at bs k) (suc (length bs)) at

-- the place behind them
unfoldable pub behind_clauses : List ℕ → ℕ → ℕ
behind_clauses bs at = at + length (clauses_bytes (clauses_from bs at))

-- ---- the code's clauses

-- the clause for a scope that gives a preference
abbrev pub scoped : Scope → ℕ → Clause
scoped (Prefix address bits) preference = exact address bits preference
scoped (Direct asn) preference = direct asn preference
scoped All preference = any preference

-- the clause that a value of the code's struct is
abbrev pub clause_of : code.Clause → Clause
clause_of c = scoped c.scope c.preference

-- ---- sessions

-- the whole record of a session's name stands at a place
abbrev pub is_session : List ℕ → ℕ → Bool
is_session bs at = eqb (get_or bs at 0) session_form.kind && leb (at + size session_form) (length bs)

-- the session's name at a place, whether kind 5 stands right behind it, and where its clauses begin
abbrev pub named_at : List ℕ → ℕ → Named
named_at bs at =
    let v = values_at session_form bs at in
    let med = eqb (get_or bs (at + size session_form) 0) zero_form.kind in
    record { router = get_or v 0 0; peer = get_or v 1 0; zero = med; first = at + size session_form + cond med (size zero_form) 0 }

-- a session of this name, with these clauses
abbrev pub session_of : Named → List Clause → Session
session_of n clauses = record { router = n.router; peer = n.peer; zero = n.zero; clauses = clauses }

-- with its own: no more than a session may have, since the tables that they are taken apart into hold no more
abbrev pub session_by : List ℕ → Named → Session
session_by bs n = session_of n (take most_clauses (clauses_from bs n.first))

-- the sessions from a place on; `sessions_step` of WalkingLaws.antt is the equation to go by
unfoldable pub sessions_from : List ℕ → ℕ → List Session
sessions_from bs at =
    walk (is_session bs) (λ k. session_by bs (named_at bs k)) (λ k. behind_clauses bs (named_at bs k).first) (suc (length bs)) at
