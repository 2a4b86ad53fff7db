-- The promise of revising determines its answer and the output.
use Rattle.std.specs.Prelude.{ℕ, ◌+◌, ◌≡◌, refl, List, Result, Ok, Err}
use Rattle.std.proofs.Common.{arith, sym, ap, ap₂, ◌∙◌}
use Rattle.refusal.specs.declared.Refusal.{Refusal}
use Rattle.refusal.specs.declared.Refused.{Refused}
use Rattle.refusal.specs.Numbers.{Said, number_of}
use Rattle.refusal.proofs.NumbersLaws.{value, number_tells, number_range}
use Rattle.revise.specs.declared.RevisionError.{RevisionError}
use Rattle.revise.specs.declared.RevisionError.TheVariants.{Snapshot, Policy}
use Rattle.revise.specs.Revising.{refuses, said, revised_answer, revised_out}

-- a refusal of either is told by its number and its place
refuses_tells : {A : Type 0} (make : Refused → A) (of : ℕ) (r q : Refused) → refuses of r.refusal r.place ≡ refuses of q.refusal q.place → make r ≡ make q
refuses_tells make of r q e =
    ap₂ (λ (f : Refusal) (at : ℕ). make (record { refusal = f; place = at }))
    (number_tells r.refusal q.refusal (let n : of + number_of r.refusal ≡ of + number_of q.refusal = ap (λ (s : Said). s.number) e in omega arith)) (ap (λ (s : Said). value s 0) e)

-- which was refused, if any, is told by the number
pub said_tells : (a b : Result (Unit {0}) RevisionError) → said a ≡ said b → a ≡ b
said_tells (Ok x) (Ok y) e = refl
said_tells (Ok x) (Err (Snapshot q)) e = absurd (let n = ap (λ (s : Said). s.number) e in omega (arith, n))
said_tells (Ok x) (Err (Policy q)) e = absurd (let n = ap (λ (s : Said). s.number) e in omega (arith, n))
said_tells (Err (Snapshot r)) (Ok y) e = absurd (let n = ap (λ (s : Said). s.number) e in omega (arith, n))
said_tells (Err (Snapshot r)) (Err (Snapshot q)) e = refuses_tells (λ f. Err (Snapshot f)) 100 r q e
said_tells (Err (Snapshot r)) (Err (Policy q)) e = absurd (let n = ap (λ (s : Said). s.number) e in omega (arith, n, (number_range r.refusal).1, (number_range q.refusal).0))
said_tells (Err (Policy r)) (Ok y) e = absurd (let n = ap (λ (s : Said). s.number) e in omega (arith, n))
said_tells (Err (Policy r)) (Err (Snapshot q)) e = absurd (let n = ap (λ (s : Said). s.number) e in omega (arith, n, (number_range q.refusal).1, (number_range r.refusal).0))
said_tells (Err (Policy r)) (Err (Policy q)) e = refuses_tells (λ f. Err (Policy f)) 200 r q e

-- "that any two results meeting it are equal is proved"
pub unique : (snapshot policy out : List ℕ) (r q : Result (Unit {0}) RevisionError) (u v : List ℕ)
    → (said r ≡ revised_answer snapshot policy out) × (u ≡ revised_out snapshot policy out)
    → (said q ≡ revised_answer snapshot policy out) × (v ≡ revised_out snapshot policy out) → (r ≡ q) × (u ≡ v)
unique snapshot policy out r q u v a b = (said_tells r q (a.0 ∙ sym b.0), a.1 ∙ sym b.1)
