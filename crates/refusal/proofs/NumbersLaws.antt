-- A number tells its refusal: no two refusals share one, and each lies in 1 to 12. So an answer in numbers tells what it is.
use Rattle.std.specs.Prelude.{ℕ, ◌≤◌, ◌≡◌, refl, List, [], ◌∷◌, get_or, Result, Ok, Err}
use Rattle.std.proofs.Common.{arith, sym, ap, ap₂, ◌∙◌, lit≤}
use Rattle.refusal.specs.declared.Refusal.{Refusal}
use Rattle.refusal.specs.declared.Refused.{Refused}
use Rattle.refusal.specs.declared.Refusal.TheVariants.{Room, Cut, Kind, Place, Field, Order, Twin, Full, Count, Tail, Table, NoPrefix}
use Rattle.refusal.specs.Numbers.{number_of, Said, refuses, gives, said_by}

-- the refusals in the order of their numbers, from 1
abbrev in_order : List Refusal
in_order = Room ∷ Cut ∷ Kind ∷ Place ∷ Field ∷ Order ∷ Twin ∷ Full ∷ Count ∷ Tail ∷ Table ∷ NoPrefix ∷ []

listed : (a : Refusal) → get_or (Room ∷ in_order) (number_of a) Room ≡ a
listed Room = refl
listed Cut = refl
listed Kind = refl
listed Place = refl
listed Field = refl
listed Order = refl
listed Twin = refl
listed Full = refl
listed Count = refl
listed Tail = refl
listed Table = refl
listed NoPrefix = refl

-- two refusals with the same number are one
pub number_tells : (a b : Refusal) → number_of a ≡ number_of b → a ≡ b
number_tells a b e = sym (listed a) ∙ ap (λ (n : ℕ). get_or (Room ∷ in_order) n Room) e ∙ listed b

-- every number lies in 1 to 12
pub number_range : (a : Refusal) → (1 ≤ number_of a) × (number_of a ≤ 12)
number_range Room = (lit≤ tt, lit≤ tt)
number_range Cut = (lit≤ tt, lit≤ tt)
number_range Kind = (lit≤ tt, lit≤ tt)
number_range Place = (lit≤ tt, lit≤ tt)
number_range Field = (lit≤ tt, lit≤ tt)
number_range Order = (lit≤ tt, lit≤ tt)
number_range Twin = (lit≤ tt, lit≤ tt)
number_range Full = (lit≤ tt, lit≤ tt)
number_range Count = (lit≤ tt, lit≤ tt)
number_range Tail = (lit≤ tt, lit≤ tt)
number_range Table = (lit≤ tt, lit≤ tt)
number_range NoPrefix = (lit≤ tt, lit≤ tt)

-- the k-th value of an answer
abbrev pub value : Said → ℕ → ℕ
value s k = get_or s.values k 0

-- a refusal is told by its number and its place
refuses_tells : (a b : Refusal) (at place : ℕ) → refuses a at ≡ refuses b place → (a ≡ b) × (at ≡ place)
refuses_tells a b at place e = (number_tells a b (ap (λ (s : Said). s.number) e), ap (λ (s : Said). value s 0) e)

-- so whatever is made of them is the same
pub same_refusal : {A : Type 0} (make : Refusal → ℕ → A) (a b : Refusal) (at place : ℕ) → refuses a at ≡ refuses b place → make a at ≡ make b place
same_refusal make a b at place e = let (r, p) = refuses_tells a b at place e in ap₂ make r p

-- and nothing that is given is one
pub gives_refuses : (a : Refusal) (at : ℕ) (values : List ℕ) → gives values ≡ refuses a at → ⊥
gives_refuses a at values e = let n = ap (λ (s : Said). s.number) e in omega (arith, n, (number_range a).0)

-- an answer in numbers tells the answer, where the numbers of what is given tell that
pub answer_tells : {A : Type 0} (numbers : A → List ℕ) → ((a b : A) → gives (numbers a) ≡ gives (numbers b) → a ≡ b)
    → (x y : Result A Refused) → said_by (λ a. gives (numbers a)) x ≡ said_by (λ a. gives (numbers a)) y → x ≡ y
answer_tells numbers tells (Ok a) (Ok b) e = ap Ok (tells a b e)
answer_tells numbers tells (Ok a) (Err q) e = absurd (gives_refuses q.refusal q.place (numbers a) e)
answer_tells numbers tells (Err r) (Ok b) e = absurd (gives_refuses r.refusal r.place (numbers b) (sym e))
answer_tells numbers tells (Err r) (Err q) e = same_refusal (λ f at. Err (record { refusal = f; place = at })) r.refusal q.refusal r.place q.place e
