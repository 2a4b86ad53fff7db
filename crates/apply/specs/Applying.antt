-- What a policy's call on lent tables answers, and what it leaves in them.
use Rattle.std.specs.Prelude.{List, [], ℕ, T, Result}
use Rattle.refusal.specs.declared.Refusal.TheVariants.{Room, Table}
use Rattle.refusal.specs.declared.Refused.{Refused}
use Rattle.refusal.specs.Numbers.{Said, refuses, gives, said_by}
use Rattle.snapshot.specs.declared.Counts.{Counts}
use Rattle.snapshot.specs.Ranges.{any_of, none}
use Rattle.snapshot.specs.Format.{Snapshot, Valid}
use Rattle.snapshot.specs.Reading.{AnswerOf, accepted, refused}
use Rattle.snapshot.specs.Tables.{Tables, short, filled, Held}
use Rattle.tables.specs.Judging.{Holding}
use Rattle.policy.specs.Policy.{Policy}
use Rattle.policy.specs.Reading.{reading}
use Rattle.policy.specs.Rewriting.{rewritten}
use Rattle.sessions.specs.Sessions.{said_of}

-- an answer of the code, in document 01's numbers
abbrev pub said : Result (Unit {0}) Refused → Said
said = said_by (λ _. gives [])

-- what reading a policy leaves in tables that hold a snapshot: the rewritten snapshot in its used rows, or all as before
abbrev pub left : AnswerOf Policy → Snapshot → Tables → Tables
left (accepted policy) s t = filled (rewritten policy s) t
left (refused r at) s t = t

-- the answer to these counts, tables and bytes, and the tables afterwards: ROOM, TABLE, then what reading the policy answers
pub data Applies (counts : Counts) (t : Tables) (bs : List ℕ) : Said → Tables → Type 0 where
  -- a lent table is shorter than its limit
  room : T (any_of (short t)) → Applies counts t bs (refuses Room 0) t
  -- the tables are not those of any snapshot
  unheld : T (none (short t)) → (Holding counts t → ⊥) → Applies counts t bs (refuses Table 0) t
  -- they are those of s: the policy is read, and s rewritten
  read : T (none (short t)) → (s : Snapshot) → Valid s → Held counts t s → Applies counts t bs (said_of (reading bs)) (left (reading bs) s t)
