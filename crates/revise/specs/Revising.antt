-- What a policy makes of a snapshot's bytes: what the call answers, and what it leaves in the output.
use Rattle.std.specs.Prelude.{ℕ, ◌+◌, ◌≡◌, cond, List, [], ◌∷◌, length, ltb, Result, Ok, Err}
use Rattle.std.proofs.lemmas.List.Edits.{sets}
use Rattle.refusal.specs.declared.Refusal.{Refusal}
use Rattle.refusal.specs.declared.Refusal.TheVariants.{Room}
use Rattle.refusal.specs.Numbers.{Said, number_of, gives}
use Rattle.snapshot.specs.Format.{encode}
use Rattle.snapshot.specs.Reading.{Answer, AnswerOf, accepted, refused, reading}
use Rattle.policy.specs.Policy.{Policy}
use Rattle.policy.specs.Reading as policies
use Rattle.policy.specs.Rewriting.{rewritten}
use Rattle.revise.specs.declared.RevisionError.{RevisionError}
use Rattle.revise.specs.declared.RevisionError.TheVariants as of

-- what is added to the number of a refusal, by what was refused
abbrev pub of_snapshot : ℕ
of_snapshot = 100

abbrev pub of_policy : ℕ
of_policy = 200

-- a refusal of one of them, with its place
abbrev pub refuses : ℕ → Refusal → ℕ → Said
refuses which r at = record { number = which + number_of r; values = at ∷ [] }

-- an answer of the code, in numbers: 0; 100 plus the number of the snapshot's refusal, 200 plus that of the policy's
abbrev pub said : Result (Unit {0}) RevisionError → Said
said (Ok _) = gives []
said (Err (of.Snapshot e)) = refuses of_snapshot e.refusal e.place
said (Err (of.Policy e)) = refuses of_policy e.refusal e.place

-- the answer to what reading the snapshot and reading the policy answer: the snapshot's refusal comes first
abbrev pub answer_to : Answer → AnswerOf Policy → Said
answer_to (refused r at) p = refuses of_snapshot r at
answer_to (accepted s) (refused r at) = refuses of_policy r at
answer_to (accepted s) (accepted policy) = gives []

-- the output afterwards: the rewritten snapshot's bytes stand at the start, all others are as before; after a refusal all are
abbrev pub left_by : Answer → AnswerOf Policy → List ℕ → List ℕ
left_by (refused r at) p out = out
left_by (accepted s) (refused r at) out = out
left_by (accepted s) (accepted policy) out = sets out 0 (encode (rewritten policy s))

-- ROOM first, where the output is shorter than the snapshot given
unfoldable pub revised_answer : List ℕ → List ℕ → List ℕ → Said
revised_answer snapshot policy out =
    cond (ltb (length out) (length snapshot)) (refuses of_snapshot Room 0) (answer_to (reading snapshot) (policies.reading policy))

unfoldable pub revised_out : List ℕ → List ℕ → List ℕ → List ℕ
revised_out snapshot policy out = cond (ltb (length out) (length snapshot)) out (left_by (reading snapshot) (policies.reading policy) out)

-- the answer and the output are those of what reading the snapshot and reading the policy answer
abbrev pub Revises : Answer → AnswerOf Policy → List ℕ → Said → List ℕ → Type 0
Revises a p out answer after = (answer ≡ answer_to a p) × (after ≡ left_by a p out)
