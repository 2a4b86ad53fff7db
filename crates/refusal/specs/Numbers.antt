-- Numbers for a no: the table of refusals, each with its number; and what a call answers, in these numbers.
use Rattle.std.specs.Prelude.{ℕ, List, [], ◌∷◌, Result, Ok, Err}
use Rattle.refusal.specs.declared.Refusal.{Refusal}
use Rattle.refusal.specs.declared.Refused.{Refused}
use Rattle.refusal.specs.declared.Refusal.TheVariants.{Room, Cut, Kind, Place, Field, Order, Twin, Full, Count, Tail, Table, NoPrefix}

-- the number of each refusal; 13 to 20 are free for the refusals of later requests
abbrev pub number_of : Refusal → ℕ
number_of Room = 1
number_of Cut = 2
number_of Kind = 3
number_of Place = 4
number_of Field = 5
number_of Order = 6
number_of Twin = 7
number_of Full = 8
number_of Count = 9
number_of Tail = 10
number_of Table = 11
number_of NoPrefix = 12

-- an answer in document 01's numbers: 0, or that of a refusal; and the values that come with it
pub record Said : Type 0 where
  pub number : ℕ
  pub values : List ℕ

-- a refusal with its place
abbrev pub refuses : Refusal → ℕ → Said
refuses r at = record { number = number_of r; values = at ∷ [] }

-- no refusal, and these values
abbrev pub gives : List ℕ → Said
gives values = record { number = 0; values = values }

-- what a call says that gives a value or refuses, where `giving` says what a value is
abbrev pub said_by : {A : Type 0} → (A → Said) → Result A Refused → Said
said_by giving (Ok a) = giving a
said_by giving (Err e) = refuses e.refusal e.place
