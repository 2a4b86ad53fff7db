-- What the first pass answers, and what it knows at each place of it.
use Rattle.std.specs.Prelude.{ℕ, suc, ◌+◌, ◌-◌, ◌≤◌, ◌<◌, ◌≡◌, List, [], ◌∷◌, ◌++◌, length, drop, Option, Some, None, Result, Ok, Err}
use Rattle.refusal.specs.declared.Refused.{Refused}
use Rattle.refusal.specs.Numbers.{Said, refuses, gives, said_by}
use Rattle.snapshot.specs.declared.Counts.{Counts}
use Rattle.snapshot.specs.Format.{Snapshot, Pair, row, rows, records}
use Rattle.snapshot.specs.Reading.{Answer, accepted, refused, reading, routers, distances, items}
use Rattle.snapshot.specs.Tables.{counts_of}
use Rattle.cursor.specs.declared.Cursor.{Cursor}
use Rattle.cursor.specs.declared.Sofar.{Sofar}
use Rattle.cursor.specs.Steps.{refused_at, router_place, ids_at, Tells}

-- accepted: the numbers of routers, prefixes and routes
abbrev pub counted : Counts → Said
counted c = gives (c.routers ∷ c.prefixes ∷ c.routes ∷ [])

-- an answer of the code, in the project's numbers
abbrev pub said : Result Counts Refused → Said
said = said_by counted

-- what reading answers, in the same numbers: the snapshot's counts, or the refusal and its place
abbrev pub said_of : Answer → Said
said_of (accepted s) = counted (counts_of s)
said_of (refused r at) = refuses r at

-- the answer of the code to what reading answers
abbrev pub told : Answer → Result Counts Refused
told (accepted s) = Ok (counts_of s)
told (refused r at) = Err (refused_at at r)

-- how many of each were read so far
abbrev pub counts_so_far : Sofar → Counts
counts_so_far k = record { routers = k.routers; prefixes = k.prefixes; routes = k.routes }

-- the answer at the end record, where so much was read
abbrev pub answered : Sofar → Result (Unit {0}) Refused → Result Counts Refused
answered k (Ok u) = Ok (counts_so_far k)
answered k (Err e) = Err e

-- a section ended as it is to be known, or reading refuses the input there
abbrev pub Went : List ℕ → (Cursor → Type 0) → Result Cursor Refused → Type 0
Went bs known (Ok c) = known c
Went bs known (Err e) = reading bs ≡ refused e.refusal e.place

-- i of n routers were read, and their records stand from a place on
pub record Routers (bs : List ℕ) (n first i : ℕ) (c : Cursor) : Type 0 where
  pub within : i ≤ n
  pub place : c.at ≡ router_place first i
  pub same : reading bs ≡ routers n (n - i) (ids_at bs first i) c.at (drop c.at bs)
  pub records : c.records ≡ 1 + i
  pub low : c.records ≤ c.at

-- the n routers were read, and the distances of these pairs are due
pub record Distances (bs : List ℕ) (n : ℕ) (due : List Pair) (c : Cursor) : Type 0 where
  pub ids : List ℕ
  pub ds : List ℕ
  pub long : length ids ≡ n
  pub same : reading bs ≡ distances due ids ds c.at (drop c.at bs)
  pub records : c.records ≡ 1 + n + length ds
  pub low : c.records ≤ c.at

-- the rows of the routers from `from` on are due
pub record Rows (bs : List ℕ) (n from : ℕ) (c : Cursor) : Type 0 where
  pub within : from ≤ n
  pub left : Distances bs n (rows n from (n - from)) c

-- the row of a router is due from `to` on, and then those after it
pub record Row (bs : List ℕ) (n from to : ℕ) (c : Cursor) : Type 0 where
  pub known : from < n
  pub within : to ≤ n
  pub left : Distances bs n (row from to (n - to) ++ rows n (suc from) (n - suc from)) c

-- the snapshot was read so far as `k` tells
pub record Items (bs : List ℕ) (c : Cursor) (k : Sofar) : Type 0 where
  pub s : Snapshot
  pub same : reading bs ≡ items s c.at (drop c.at bs)
  pub tells : Tells s k
  pub count : c.records ≡ records s
  pub low : c.records ≤ c.at

-- after an item: the next place, further on in the input, with what is to be known there; or the answer
abbrev pub Follows : List ℕ → Cursor → Sofar → Result (Option (Cursor × Sofar)) Refused → Type 0
Follows bs c k (Ok (Some t)) = Items bs t.0 t.1 × (c.at < t.0.at) × (t.0.at ≤ length bs)
Follows bs c k (Ok None) = Ok (counts_so_far k) ≡ told (reading bs)
Follows bs c k (Err e) = Err e ≡ told (reading bs)
