-- The promise of judging determines its answer: number and values tell it.
use Rattle.std.specs.Prelude.{◌≡◌, refl, ℕ, [], Result}
use Rattle.std.proofs.Common.{sym}
use Rattle.refusal.specs.declared.Refusal.{Refusal}
use Rattle.refusal.specs.declared.Refused.{Refused}
use Rattle.refusal.specs.Numbers.{refuses, gives}
use Rattle.refusal.proofs.NumbersLaws.{same_refusal, gives_refuses, answer_tells}
use Rattle.snapshot.specs.Reading.{AnswerOf, accepted, refused}
use Rattle.policy.specs.Policy.{Policy}
use Rattle.sessions.specs.Sessions.{said, said_of}

-- "that any two results meeting it are equal is proved"
pub said_tells : (a b : Result (Unit {0}) Refused) → said a ≡ said b → a ≡ b
said_tells = answer_tells (λ _. []) (λ t u e. refl)

-- and the numbers of what reading answers tell that
pub read_accepted : (a : AnswerOf Policy) → gives [] ≡ said_of a → (policy : Policy) × (a ≡ accepted policy)
read_accepted (accepted policy) e = (policy, refl)
read_accepted (refused q place) e = absurd (gives_refuses q place [] e)

pub read_refused : (a : AnswerOf Policy) (r : Refusal) (at : ℕ) → refuses r at ≡ said_of a → a ≡ refused r at
read_refused (accepted policy) r at e = absurd (gives_refuses r at [] (sym e))
read_refused (refused q place) r at e = same_refusal refused q r place at (sym e)
