-- Reading a policy, record by record. `at` is the place of the next record, `bs` are the bytes from there on, `policy` is what was
-- read so far.
use Rattle.std.specs.Prelude.{ℕ, zero, suc, ◌+◌, Bool, true, false, not, ◌&&◌, List, [], ◌∷◌, ◌++◌, length, get_or, drop, eqb, ltb}
use Rattle.refusal.specs.declared.Refusal.TheVariants.{Cut, Place, Full}
use Rattle.snapshot.specs.Records.{Form, end_form, only, size, kind, values}
use Rattle.snapshot.specs.Format.{Check, ◌else◌, latest}
use Rattle.snapshot.specs.Reading.{end_record, AnswerOf, refused, record_checks, unless, either, tail}
use Rattle.policy.specs.Policy.{Clause, exact, direct, any, Session, Policy, most_sessions, most_clauses, policy_forms, session_form, exact_form, direct_form, any_form, zero_form, clause_checks, session_checks, records_in}

-- the latest session altered
abbrev pub on_latest : (Session → Session) → Policy → Policy
on_latest f [] = []
on_latest f (s ∷ []) = f s ∷ []
on_latest f (s ∷ t ∷ ss) = s ∷ on_latest f (t ∷ ss)

-- the session before the first: no session has its name
abbrev pub nobody : Session
nobody = record { router = 0; peer = 0; zero = false; clauses = [] }

-- the latest session
abbrev pub last : Policy → Session
last [] = nobody
last (s ∷ []) = s
last (s ∷ t ∷ ss) = last (t ∷ ss)

-- a session with one more clause
abbrev pub with_clause : Clause → Session → Session
with_clause c s = record { router = s.router; peer = s.peer; zero = s.zero; clauses = s.clauses ++ (c ∷ []) }

-- a session on which MED is set to a present 0
abbrev pub with_zero : Session → Session
with_zero s = record { router = s.router; peer = s.peer; zero = true; clauses = s.clauses }

-- a session of which nothing but its name was read
abbrev pub bare : Session → Bool
bare s = not s.zero && eqb (length s.clauses) 0

-- a kind of record before the end: its form, the checks of PLACE and FULL and those of the values behind what was read so far, and
-- what was read with it
pub record Entry : Type 0 where
  pub form : Form
  pub room : Policy → List Check
  pub checks : Policy → List ℕ → List Check
  pub after : Policy → List ℕ → Policy

-- FULL: a 65th session
abbrev pub session_entry : Entry
session_entry = record {
  form = session_form;
  room = λ policy. (ltb (length policy) most_sessions else Full) ∷ [];
  checks = λ policy v. session_checks policy (get_or v 0 0) (get_or v 1 0);
  after = λ policy v. policy ++ (record { router = get_or v 0 0; peer = get_or v 1 0; zero = false; clauses = [] } ∷ []);
}

-- PLACE: no session before it. FULL: a 33rd clause
abbrev pub clause_entry : Form → (List ℕ → Clause) → Entry
clause_entry f of = record {
  form = f;
  room = λ policy.
      (not (eqb (length policy) 0) else Place)
      ∷ (latest (λ s. ltb (length s.clauses) most_clauses) policy else Full)
      ∷ [];
  checks = λ policy v. clause_checks (of v);
  after = λ policy v. on_latest (with_clause (of v)) policy;
}

-- PLACE: no session before it, or not right behind it
abbrev pub zero_entry : Entry
zero_entry = record {
  form = zero_form;
  room = λ policy. (not (eqb (length policy) 0) else Place) ∷ (latest bare policy else Place) ∷ [];
  checks = λ policy v. [];
  after = λ policy v. on_latest with_zero policy;
}

-- the clauses of a record's values
abbrev pub exact_clause : List ℕ → Clause
exact_clause v = exact (get_or v 0 0) (get_or v 1 0) (get_or v 2 0)

abbrev pub direct_clause : List ℕ → Clause
direct_clause v = direct (get_or v 0 0) (get_or v 1 0)

abbrev pub any_clause : List ℕ → Clause
any_clause v = any (get_or v 0 0)

-- the kinds 1 to 5
abbrev pub entries : List Entry
entries = session_entry ∷ clause_entry exact_form exact_clause ∷ clause_entry direct_form direct_clause ∷ clause_entry any_form any_clause ∷ zero_entry ∷ []

-- what is done with the entry of a kind, or where none has it
unfoldable pub among : {A : Type 0} → List Entry → ℕ → (Entry → A) → (Unit {0} → A) → A
among [] k its otherwise = otherwise tt
among (i ∷ is) k its otherwise = either (eqb k i.form.kind) (λ _. its i) (λ _. among is k its otherwise)

-- the checks of an entry's record, in 01's order
unfoldable pub entry_record : Entry → Policy → List ℕ → List Check
entry_record i policy = record_checks policy_forms (only i.form) (i.room policy) (i.checks policy)

-- there are no more records than bytes: the count ends the recursion, and `records_step` of ReturnsLaws.antt is the equation to go by
unfoldable pub records_within : ℕ → Policy → ℕ → List ℕ → AnswerOf Policy
records_within zero policy at bs = refused Cut at
records_within (suc count) policy at bs =
    among entries (kind bs)
    (λ i. unless (entry_record i policy bs) at λ _.
    records_within count (i.after policy (values i.form bs)) (at + size i.form) (drop (size i.form) bs))
    λ _. unless (end_record policy_forms (records_in policy) bs) at λ _. tail policy (at + size end_form) (drop (size end_form) bs)

-- the records from a place on
unfoldable pub records_from : Policy → ℕ → List ℕ → AnswerOf Policy
records_from policy at bs = records_within (suc (length bs)) policy at bs

-- sessions, each with its clauses; one kind 6; then nothing
abbrev pub reading : List ℕ → AnswerOf Policy
reading bs = records_from [] 0 bs
