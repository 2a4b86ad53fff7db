-- Writing tables back as a snapshot's bytes: what is answered, and what stands in the output afterwards.
use Rattle.std.specs.Prelude.{ℕ, ◌+◌, ◌-◌, ◌*◌, ◌≤◌, ◌<◌, Bool, List, [], ◌∷◌, ◌++◌, map, length, T, Result}
use Rattle.std.proofs.lemmas.List.Edits.{sets}
use Rattle.refusal.specs.declared.Refusal.TheVariants.{Room, Table}
use Rattle.refusal.specs.declared.Refused.{Refused}
use Rattle.refusal.specs.Numbers.{Said, refuses, gives, said_by}
use Rattle.model.specs.Rows.{table, column}
use Rattle.snapshot.specs.declared.Counts.{Counts}
use Rattle.snapshot.specs.Ranges.{any_of, none}
use Rattle.snapshot.specs.Records.{count_form, router_form, distance_form, prefix_form, end_form, four_byte, route_form_by, sum, written, size}
use Rattle.snapshot.specs.Format.{Prefix, Snapshot, Pair, row, pairs, routers_bytes, distances_bytes, routes_bytes, encode, Valid}
use Rattle.snapshot.specs.Tables.{Tables, short, Held}
use Rattle.tables.specs.Judging.{routes_at, cell, Holding}

-- ---- what is answered, in numbers

-- so many bytes were written
abbrev pub wrote : ℕ → Said
wrote n = gives (n ∷ [])

-- the answer of the code
abbrev pub said : Result ℕ Refused → Said
said = said_by wrote

-- ---- what writing promises, of counts, tables and the output before it: the answer, and the output after it

pub data Writes (counts : Counts) (t : Tables) (before : List ℕ) : Said → List ℕ → Type 0 where
  -- a lent table is shorter than its limit
  room : T (any_of (short t)) → Writes counts t before (refuses Room 0) before
  -- the tables are not those of any snapshot
  unheld : T (none (short t)) → (Holding counts t → ⊥) → Writes counts t before (refuses Table 0) before
  -- the output is shorter than the written snapshot
  full : T (none (short t)) → (s : Snapshot) → Valid s → Held counts t s → length before < length (encode s) → Writes counts t before (refuses Room 0) before
  -- the snapshot's bytes stand at the start, all others are as before
  done : T (none (short t)) → (s : Snapshot) → Valid s → Held counts t s → length (encode s) ≤ length before
      → Writes counts t before (wrote (length (encode s))) (sets before 0 (encode s))

-- ---- the bytes of the sections, from tables

-- the distances of pairs
abbrev pub pairs_bytes : List ℕ → List Pair → List ℕ
pairs_bytes ds ps = distances_bytes ps (map (λ p. cell ds p.from p.to) ps)

-- those from one router; all
abbrev pub row_bytes : List ℕ → ℕ → ℕ → List ℕ
row_bytes ds n from = pairs_bytes ds (row from 0 n)

abbrev pub rows_bytes : List ℕ → ℕ → List ℕ
rows_bytes ds n = pairs_bytes ds (pairs n)

-- all records before the prefixes
abbrev pub network_bytes : List ℕ → List ℕ → ℕ → List ℕ
network_bytes ids ds n = written count_form (n ∷ []) ++ (routers_bytes 0 (table n (column ids)) ++ rows_bytes ds n)

-- the prefix of a number, with its routes from a row on
abbrev pub prefix_from : Tables → ℕ → ℕ → Prefix
prefix_from t p row = record { address = column t.address p; bits = column t.bits p; routes = routes_at t.rows row (column t.routes p) }

-- a prefix with its routes
abbrev pub prefix_bytes : Prefix → List ℕ
prefix_bytes p = written prefix_form (p.address ∷ p.bits ∷ []) ++ routes_bytes p.routes

-- ---- what is known from the counts and the ASes

-- the pairs of n routers
abbrev pub pair_count : ℕ → ℕ
pair_count n = n * (n - 1)

-- the bytes of a route's record, by whether its AS is past those of two bytes
abbrev pub size_by : Bool → ℕ
size_by four = size (route_form_by four)

-- the bytes of the records of the first n routes, by their ASes
abbrev pub routes_of : List ℕ → ℕ → ℕ
routes_of asn n = sum (table n (λ k. size_by (four_byte (column asn k))))

-- the bytes of the snapshot, and its records before the end record
abbrev pub size_of : Counts → List ℕ → ℕ
size_of c asn =
    size count_form
    + size router_form * c.routers
    + size distance_form * pair_count c.routers
    + size prefix_form * c.prefixes
    + routes_of asn c.routes
    + size end_form

abbrev pub records_of : Counts → ℕ
records_of c = 1 + c.routers + pair_count c.routers + c.prefixes + c.routes
