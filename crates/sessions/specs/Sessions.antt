-- What judging a policy file answers, how its code tests a record by its kind, and what it knows at each place.
use Rattle.std.specs.Prelude.{ℕ, suc, ◌+◌, ◌≤◌, ◌<◌, ◌≡◌, ◌≢◌, Bool, true, false, cond, not, ◌&&◌, ◌||◌, List, [], ◌∷◌, length, drop, leb, eqb, Option, Some, None, Result, Ok, Err}
use Rattle.wire.specs.Numbers.{number_at}
use Rattle.refusal.specs.declared.Refusal.TheVariants.{Field, Order}
use Rattle.refusal.specs.declared.Refused.{Refused}
use Rattle.refusal.specs.Numbers.{Said, refuses, gives, said_by}
use Rattle.snapshot.specs.Ranges.{none, prefix_tests, rises}
use Rattle.snapshot.specs.Records.{sum, size, values_at}
use Rattle.snapshot.specs.Format.{Check, ◌else◌, Holds}
use Rattle.snapshot.specs.Reading.{AnswerOf, accepted, refused}
use Rattle.cursor.specs.declared.Cursor.{Cursor}
use Rattle.cursor.specs.Steps.{finding, body_length}
use Rattle.cursor.specs.StepsLaws.{extra_checks}
use Rattle.policy.specs.Policy.{Policy, most_sessions, most_clauses, policy_forms, clause_asn_tests, records_in}
use Rattle.policy.specs.Reading.{last, bare, Entry, entries, among, records_from, reading}
use Rattle.sessions.specs.declared.Latest.{Latest}

-- an answer of the code, in the project's numbers
abbrev pub said : Result (Unit {0}) Refused → Said
said = said_by (λ _. gives [])

-- what reading answers, in the same numbers
abbrev pub said_of : AnswerOf Policy → Said
said_of (accepted policy) = gives []
said_of (refused r at) = refuses r at

-- ---- a record by its kind, behind what was read so far

-- PLACE: no session before it, or a kind 5 not right behind one
abbrev pub astray_of : ℕ → Latest → Bool
astray_of kind k = not (eqb kind 1) && (eqb k.sessions 0 || (eqb kind 5 && not k.bare))

-- FULL: a 65th session, or a 33rd clause
abbrev pub full_of : ℕ → Latest → Bool
full_of kind k = (eqb kind 1 && leb most_sessions k.sessions) || (not (eqb kind 1) && not (eqb kind 5) && leb most_clauses k.clauses)

-- the checks of a session's values
abbrev pub session_faults : Latest → ℕ → ℕ → List Check
session_faults k router peer =
    (none (eqb peer 0 ∷ []) else Field)
    ∷ (rises k.router k.peer router peer else Order)
    ∷ []

-- the checks of the values of the record at a place
abbrev pub faults_of : ℕ → Latest → List ℕ → ℕ → List Check
faults_of kind k bs at =
    cond (eqb kind 1) (session_faults k (number_at 1 bs (at + 1)) (number_at 4 bs (at + 2)))
    (cond (eqb kind 2) ((none (prefix_tests (number_at 4 bs (at + 1)) (number_at 1 bs (at + 5))) else Field) ∷ [])
    (cond (eqb kind 3) ((none (clause_asn_tests (number_at 4 bs (at + 1))) else Field) ∷ []) []))

-- what to know before the first record
abbrev pub unread : Latest
unread = record { sessions = 0; router = 0; peer = 0; bare = true; clauses = 0 }

-- what to know with one more session
abbrev pub more_session : Latest → ℕ → ℕ → Latest
more_session k router peer = record { sessions = k.sessions + 1; router = router; peer = peer; bare = true; clauses = 0 }

-- what to know with more of the latest session, which then has so many clauses
abbrev pub more_of : Latest → ℕ → Latest
more_of k clauses = record { sessions = k.sessions; router = k.router; peer = k.peer; bare = false; clauses = clauses }

-- what to know behind the record at a place
abbrev pub next_of : ℕ → Latest → List ℕ → ℕ → Latest
next_of kind k bs at =
    cond (eqb kind 1) (more_session k (number_at 1 bs (at + 1)) (number_at 4 bs (at + 2)))
    (cond (eqb kind 5) (more_of k k.clauses) (more_of k (k.clauses + 1)))

-- ---- what is known

-- `k` says what is to be known of the policy read so far
pub record Tells (policy : Policy) (k : Latest) : Type 0 where
  pub sessions : k.sessions ≡ length policy
  pub router : k.router ≡ (last policy).router
  pub peer : k.peer ≡ (last policy).peer
  pub bare : k.bare ≡ bare (last policy)
  pub clauses : k.clauses ≡ length (last policy).clauses
  pub few : k.sessions ≤ most_sessions
  pub short : k.clauses ≤ most_clauses

-- a policy was read so far
pub record Reads (bs : List ℕ) (c : Cursor) : Type 0 where
  pub policy : Policy
  pub same : reading bs ≡ records_from policy c.at (drop c.at bs)
  pub count : c.records ≡ records_in policy
  pub low : c.records ≤ c.at

-- and `k` tells it
pub record Known (bs : List ℕ) (c : Cursor) (k : Latest) : Type 0 where
  pub reads : Reads bs c
  pub tells : Tells reads.policy k

-- the code's tests of a kind are those of its entry: which entry it is, PLACE and FULL, the values, what is known afterwards
pub record Agrees (i : Entry) : Type 0 where
  pub long : body_length policy_forms i.form.kind ≡ sum i.form.widths
  pub chosen : (its : Entry → AnswerOf Policy) (otherwise : Unit {0} → AnswerOf Policy) → among entries i.form.kind its otherwise ≡ its i
  pub room : {policy : Policy} {k : Latest} → Tells policy k
      → (at : ℕ) → finding at (i.room policy) ≡ finding at (extra_checks (astray_of i.form.kind k) (full_of i.form.kind k))
  pub values : {policy : Policy} {k : Latest} → Tells policy k → (bs : List ℕ) (at : ℕ)
      → finding at (i.checks policy (values_at i.form bs at)) ≡ finding at (faults_of i.form.kind k bs at)
  pub after : {policy : Policy} {k : Latest} → Tells policy k → Holds (i.room policy) → (bs : List ℕ) (at : ℕ)
      → Tells (i.after policy (values_at i.form bs at)) (next_of i.form.kind k bs at)
  pub counts : (policy : Policy) → Holds (i.room policy) → (v : List ℕ) → records_in (i.after policy v) ≡ suc (records_in policy)

-- a kind that an entry has, and the bytes of its records
pub data Listed : ℕ → ℕ → Type 0 where
  listed : (i : Entry) → Agrees i → Listed i.form.kind (size i.form)

-- a kind that no entry has
pub record Other (kind : ℕ) : Type 0 where
  pub no1 : kind ≢ 1
  pub no2 : kind ≢ 2
  pub no3 : kind ≢ 3
  pub no4 : kind ≢ 4
  pub no5 : kind ≢ 5

-- after a record of an entry: the next place, further on in the input, or the refusal
abbrev pub Entered : List ℕ → Cursor → Result (Cursor × Latest) Refused → Type 0
Entered bs c (Ok t) = Known bs t.0 t.1 × (c.at < t.0.at) × (t.0.at ≤ length bs)
Entered bs c (Err e) = refuses e.refusal e.place ≡ said_of (reading bs)

-- after any record: the same, or nothing after the end
abbrev pub Follows : List ℕ → Cursor → Result (Option (Cursor × Latest)) Refused → Type 0
Follows bs c (Ok (Some t)) = Entered bs c (Ok t)
Follows bs c (Ok None) = gives [] ≡ said_of (reading bs)
Follows bs c (Err e) = refuses e.refusal e.place ≡ said_of (reading bs)
