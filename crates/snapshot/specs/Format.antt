-- The snapshot of document 01: what it holds, its bytes, and what it must obey.
use Rattle.std.specs.Prelude.{ℕ, zero, suc, ◌+◌, ◌-◌, ◌*◌, ◌^◌, ◌≤◌, ◌<◌, ◌≡◌, Bool, true, false, cond, not, List, [], ◌∷◌, ◌++◌, length, get_or, T, leb, eqb}
use Rattle.refusal.specs.declared.Refusal.{Refusal}
use Rattle.refusal.specs.declared.Refusal.TheVariants.{Field, Order, Twin, Count}
use Rattle.model.specs.Rows.{some}
use Rattle.model.specs.Decision.{Route}
use Rattle.snapshot.specs.Limits.{most_prefixes, most_in_prefix, most_routes}
use Rattle.snapshot.specs.Ranges.{none, count_tests, id_tests, router_tests, distance_tests, pair_tests, prefix_tests, route_tests, rises, rises_route}
use Rattle.snapshot.specs.Records.{count_form, router_form, distance_form, prefix_form, route_forms, end_form, written, written_in, Fits}

-- a prefix: its address, its length in bits, its routes
pub record Prefix : Type 0 where
  pub address : ℕ
  pub bits : ℕ
  pub routes : List Route

-- a snapshot: the routers' ids, the n(n-1) distances in the order of their records, the prefixes
pub record Snapshot : Type 0 where
  pub ids : List ℕ
  pub distances : List ℕ
  pub prefixes : List Prefix

-- a test that must hold, and the refusal if it fails
infix 10 ◌else◌
pub data Check : Type 0 where
  ◌else◌ : Bool → Refusal → Check

-- the refusal of the first that fails, or where all hold what comes after them
unfoldable pub judged : {A : Type 0} → List Check → (Refusal → A) → (Unit {0} → A) → A
judged [] stop go = go tt
judged ((true else r) ∷ checks) stop go = judged checks stop go
judged ((false else r) ∷ checks) stop go = stop r

-- all hold
abbrev pub Holds : List Check → Type 0
Holds [] = Unit {0}
Holds ((b else r) ∷ checks) = T b × Holds checks

-- ---- the pairs of routers, by from, then to, leaving out equal ones

-- two routers
pub record Pair : Type 0 where
  pub from : ℕ
  pub to : ℕ

-- so many pairs of one router, from the one with `to` on
abbrev pub row : ℕ → ℕ → ℕ → List Pair
row from to zero = []
row from to (suc left) = cond (eqb from to) (row from (suc to) left) (record { from = from; to = to } ∷ row from (suc to) left)

-- the pairs of so many routers, from `from` on
abbrev pub rows : ℕ → ℕ → ℕ → List Pair
rows n from zero = []
rows n from (suc left) = row from 0 n ++ rows n (suc from) left

-- the pairs of n routers
abbrev pub pairs : ℕ → List Pair
pairs n = rows n 0 n

-- ---- what the values of a record must obey, in the order of the checks; `before` are the like ones that were given before it

-- a number of routers in its range
abbrev pub count_checks : ℕ → List Check
count_checks n = (none (count_tests n) else Field) ∷ []

-- routers by index from 0, no id twice
abbrev pub router_checks : ℕ → List ℕ → ℕ → ℕ → List Check
router_checks n before index id =
    (none (router_tests n index id) else Field)
    ∷ (eqb index (length before) else Order)
    ∷ (not (some (eqb id) before) else Twin)
    ∷ []

-- the distance of the pair that is due
abbrev pub distance_checks : ℕ → Pair → ℕ → ℕ → ℕ → List Check
distance_checks n due from to distance =
    (none (pair_tests n from to distance) else Field)
    ∷ (eqb from due.from else Order)
    ∷ (eqb to due.to else Order)
    ∷ []

-- the latest of a list, where it has one, passes a test
abbrev pub latest : {A : Type 0} → (A → Bool) → List A → Bool
latest test [] = true
latest test (x ∷ []) = test x
latest test (x ∷ y ∷ ys) = latest test (y ∷ ys)

-- prefixes rise strictly by address, then length
abbrev pub prefix_checks : List Prefix → ℕ → ℕ → List Check
prefix_checks before address bits =
    (none (prefix_tests address bits) else Field)
    ∷ (latest (λ p. rises p.address p.bits address bits) before else Order)
    ∷ []

-- routes of a prefix rise
abbrev pub route_checks : ℕ → List Route → Route → List Check
route_checks n before r =
    (none (route_tests n r) else Field)
    ∷ (latest (λ q. rises_route q r) before else Order)
    ∷ []

-- the end record's number
abbrev pub end_checks : ℕ → ℕ → List Check
end_checks records number = (eqb number records else Count) ∷ []

-- ---- the bytes

-- a route record's values, in the order of its fields
abbrev pub route_fields : Route → List ℕ
route_fields r =
    r.router ∷ r.asn ∷ r.preference ∷ r.path ∷ r.origin ∷ r.mark ∷ r.med ∷ r.nid ∷ r.peer ∷ []

-- the router records, from an index on
abbrev pub routers_bytes : ℕ → List ℕ → List ℕ
routers_bytes index [] = []
routers_bytes index (id ∷ ids) = written router_form (index ∷ id ∷ []) ++ routers_bytes (suc index) ids

-- the distance records of these pairs
abbrev pub distances_bytes : List Pair → List ℕ → List ℕ
distances_bytes ps [] = []
distances_bytes [] (d ∷ ds) = []
distances_bytes (p ∷ ps) (d ∷ ds) = written distance_form (p.from ∷ p.to ∷ d ∷ []) ++ distances_bytes ps ds

-- the route records of a prefix
abbrev pub routes_bytes : List Route → List ℕ
routes_bytes [] = []
routes_bytes (r ∷ rs) = written_in route_forms (route_fields r) ++ routes_bytes rs

-- the prefix records, each with its routes
abbrev pub prefixes_bytes : List Prefix → List ℕ
prefixes_bytes [] = []
prefixes_bytes (p ∷ ps) = written prefix_form (p.address ∷ p.bits ∷ []) ++ (routes_bytes p.routes ++ prefixes_bytes ps)

-- the number of routes of all prefixes
abbrev pub routes_in : List Prefix → ℕ
routes_in [] = 0
routes_in (p ∷ ps) = length p.routes + routes_in ps

-- the number of records before the end record
abbrev pub records : Snapshot → ℕ
records s = 1 + length s.ids + length s.distances + length s.prefixes + routes_in s.prefixes

-- all but the end record
abbrev pub encode_open : Snapshot → List ℕ
encode_open s =
    written count_form (length s.ids ∷ [])
    ++ (routers_bytes 0 s.ids
    ++ (distances_bytes (pairs (length s.ids)) s.distances
    ++ prefixes_bytes s.prefixes))

-- the bytes of a snapshot
abbrev pub encode : Snapshot → List ℕ
encode s = encode_open s ++ written end_form (records s ∷ [])

-- ---- the snapshots

-- each member, given those before it
abbrev pub Each : {A : Type 0} → (List A → A → Type 0) → List A → List A → Type 0
Each good before [] = Unit {0}
Each good before (x ∷ xs) = good before x × Each good (before ++ (x ∷ [])) xs

-- a router id of four bytes, in its range, given once
pub record GoodId (before : List ℕ) (id : ℕ) : Type 0 where
  pub fits : id < 256 ^ 4
  pub ranges : T (none (id_tests id))
  pub alone : T (not (some (eqb id) before))

-- a distance in its range
abbrev pub GoodDistance : List ℕ → ℕ → Type 0
GoodDistance before d = T (none (distance_tests d))

-- a route whose values fit their fields, in its ranges, above the one before it
pub record GoodRoute (n : ℕ) (before : List Route) (r : Route) : Type 0 where
  pub fits : Fits (route_forms.chosen (route_fields r)).widths (route_fields r)
  pub obeys : Holds (route_checks n before r)

-- a prefix of four bytes' address, in its ranges, above the one before it, with good routes
pub record GoodPrefix (n : ℕ) (before : List Prefix) (p : Prefix) : Type 0 where
  pub fits : p.address < 256 ^ 4
  pub obeys : Holds (prefix_checks before p.address p.bits)
  pub most : length p.routes ≤ most_in_prefix
  pub routes : Each (GoodRoute n) [] p.routes

-- what a snapshot must obey
pub record Valid (s : Snapshot) : Type 0 where
  pub count : T (none (count_tests (length s.ids)))
  pub ids : Each GoodId [] s.ids
  pub square : length s.distances ≡ length s.ids * (length s.ids - 1)
  pub distances : Each GoodDistance [] s.distances
  pub few_prefixes : length s.prefixes ≤ most_prefixes
  pub few_routes : routes_in s.prefixes ≤ most_routes
  pub prefixes : Each (GoodPrefix (length s.ids)) [] s.prefixes

-- how many pairs come before this one
abbrev pub pairs_before : ℕ → ℕ → ℕ → ℕ
pairs_before n from to = from * (n - 1) + cond (leb to from) to (to - 1)

-- the distance between two routers, 0 from one to itself
abbrev pub distance : Snapshot → ℕ → ℕ → ℕ
distance s from to = cond (eqb from to) 0 (get_or s.distances (pairs_before (length s.ids) from to) 0)
