-- The policy file of request a: what it holds, its bytes, and what it must obey.
use Rattle.std.specs.Prelude.{ℕ, suc, ◌+◌, ◌≤◌, Bool, cond, List, [], ◌∷◌, ◌++◌, length, eqb, ltb}
use Rattle.refusal.specs.declared.Refusal.TheVariants.{Field, Order}
use Rattle.snapshot.specs.Limits.{last_asn}
use Rattle.snapshot.specs.Ranges.{none, prefix_tests, rises}
use Rattle.snapshot.specs.Records.{Form, end_form, written, Fits}
use Rattle.snapshot.specs.Format.{Check, ◌else◌, Holds, latest, Each}

-- the most sessions of a policy
abbrev pub most_sessions : ℕ
most_sessions = 64

-- the most clauses of a session
abbrev pub most_clauses : ℕ
most_clauses = 32

-- the bytes of the longest session: its record, a kind 5, and 32 clauses of kind 2
abbrev pub longest_session : ℕ
longest_session = 327

-- the bytes of the longest policy
abbrev pub longest : ℕ
longest = 20933

-- ---- the table of kinds

-- router, peer address
abbrev pub session_form : Form
session_form = record { kind = 1; widths = 1 ∷ 4 ∷ [] }

-- prefix address, length, preference
abbrev pub exact_form : Form
exact_form = record { kind = 2; widths = 4 ∷ 1 ∷ 4 ∷ [] }

-- neighbour AS, preference
abbrev pub direct_form : Form
direct_form = record { kind = 3; widths = 4 ∷ 4 ∷ [] }

-- preference
abbrev pub any_form : Form
any_form = record { kind = 4; widths = 4 ∷ [] }

-- MED set to a present 0: an empty body
abbrev pub zero_form : Form
zero_form = record { kind = 5; widths = [] }

-- the end record is the snapshot's
abbrev pub policy_forms : List Form
policy_forms = session_form ∷ exact_form ∷ direct_form ∷ any_form ∷ zero_form ∷ end_form ∷ []

-- ---- what a policy holds

-- a clause, its last number the preference that it gives: to routes of an exact prefix (address, length); to paths of length 1 from a
-- neighbour AS; to everything
pub data Clause : Type 0 where
  exact : ℕ → ℕ → ℕ → Clause
  direct : ℕ → ℕ → Clause
  any : ℕ → Clause

-- a session: its router and peer address, whether MED is set to a present 0 on it, its clauses
pub record Session : Type 0 where
  pub router : ℕ
  pub peer : ℕ
  pub zero : Bool
  pub clauses : List Clause

-- a policy: its sessions
abbrev pub Policy : Type 0
Policy = List Session

-- ---- what the values of a record must obey

-- the form of a clause's record
abbrev pub clause_form : Clause → Form
clause_form (exact address bits preference) = exact_form
clause_form (direct asn preference) = direct_form
clause_form (any preference) = any_form

-- its values, in the order of its fields
abbrev pub clause_fields : Clause → List ℕ
clause_fields (exact address bits preference) = address ∷ bits ∷ preference ∷ []
clause_fields (direct asn preference) = asn ∷ preference ∷ []
clause_fields (any preference) = preference ∷ []

-- what puts the AS of a clause outside its range, 1 to 4,294,967,294, which is wider than what a route may have
abbrev pub clause_asn_tests : ℕ → List Bool
clause_asn_tests asn = eqb asn 0 ∷ ltb last_asn asn ∷ []

-- what puts a clause outside its ranges: the prefix's as in a snapshot; a preference may be any
abbrev pub clause_tests : Clause → List Bool
clause_tests (exact address bits preference) = prefix_tests address bits
clause_tests (direct asn preference) = clause_asn_tests asn
clause_tests (any preference) = []

-- a clause in its ranges
abbrev pub clause_checks : Clause → List Check
clause_checks c = (none (clause_tests c) else Field) ∷ []

-- a peer address not 0, any router of a byte; sessions rise strictly by router, then peer address
abbrev pub session_checks : List Session → ℕ → ℕ → List Check
session_checks before router peer =
    (none (eqb peer 0 ∷ []) else Field)
    ∷ (latest (λ s. rises s.router s.peer router peer) before else Order)
    ∷ []

-- ---- the bytes

abbrev pub clauses_bytes : List Clause → List ℕ
clauses_bytes [] = []
clauses_bytes (c ∷ cs) = written (clause_form c) (clause_fields c) ++ clauses_bytes cs

-- the record of kind 5, where there is one
abbrev pub zero_bytes : Bool → List ℕ
zero_bytes b = cond b (written zero_form []) []

-- a session, whether MED is set on it, its clauses
abbrev pub session_bytes : Session → List ℕ
session_bytes s = written session_form (s.router ∷ s.peer ∷ []) ++ (zero_bytes s.zero ++ clauses_bytes s.clauses)

-- all but the end record
abbrev pub sessions_bytes : Policy → List ℕ
sessions_bytes [] = []
sessions_bytes (s ∷ ss) = session_bytes s ++ sessions_bytes ss

-- the number of records before the end record
abbrev pub records_in : Policy → ℕ
records_in [] = 0
records_in (s ∷ ss) = suc (cond s.zero 1 0 + length s.clauses) + records_in ss

-- the bytes of a policy
abbrev pub encode : Policy → List ℕ
encode policy = sessions_bytes policy ++ written end_form (records_in policy ∷ [])

-- ---- the policies

-- a clause whose values fit their fields, in its ranges
pub record GoodClause (before : List Clause) (c : Clause) : Type 0 where
  pub fits : Fits (clause_form c).widths (clause_fields c)
  pub obeys : Holds (clause_checks c)

-- a session whose values fit their fields, above the one before it, with few and good clauses
pub record GoodSession (before : List Session) (s : Session) : Type 0 where
  pub fits : Fits session_form.widths (s.router ∷ s.peer ∷ [])
  pub obeys : Holds (session_checks before s.router s.peer)
  pub few : length s.clauses ≤ most_clauses
  pub clauses : Each GoodClause [] s.clauses

-- what a policy must obey
pub record Valid (policy : Policy) : Type 0 where
  pub few : length policy ≤ most_sessions
  pub sessions : Each GoodSession [] policy
