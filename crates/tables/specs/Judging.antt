-- Judging tables: the only snapshot that counts and tables can hold, and what a judgement says of them.
use Rattle.std.specs.Prelude.{ℕ, ◌+◌, ◌-◌, ◌*◌, ◌≤◌, ◌<◌, ◌≡◌, Bool, true, false, cond, not, ◌&&◌, List, ◌∷◌, map, T, eqb, Result, Ok, Err}
use Rattle.refusal.specs.declared.Refusal.{Refusal}
use Rattle.refusal.specs.declared.Refusal.TheVariants as refusal
use Rattle.refusal.specs.Numbers.{number_of}
use Rattle.model.specs.Rows.{table, column, start}
use Rattle.model.specs.Decision.{Route}
use Rattle.snapshot.specs.declared.Counts.{Counts}
use Rattle.snapshot.specs.Limits.{stride, most_prefixes, most_routes}
use Rattle.snapshot.specs.Ranges.{any_of, none, count_tests, distance_tests, rises}
use Rattle.snapshot.specs.Format.{Prefix, Snapshot, pairs, GoodId, GoodRoute, GoodPrefix, Valid}
use Rattle.snapshot.specs.Tables.{Columns, Tables, short, Held}

-- ---- the only snapshot that they can hold

-- the route in a row of the columns
abbrev pub route_at : Columns → ℕ → Route
route_at c q = record {
  router = column c.router q;
  asn = column c.asn q;
  preference = column c.preference q;
  path = column c.path q;
  origin = column c.origin q;
  mark = column c.mark q;
  med = column c.med q;
  nid = column c.nid q;
  peer = column c.peer q;
}

-- so many routes from a row on
abbrev pub routes_at : Columns → ℕ → ℕ → List Route
routes_at c at n = table n (λ k. route_at c (at + k))

-- the prefix of a number
abbrev pub prefix_at : Tables → ℕ → Prefix
prefix_at t p = record {
  address = column t.address p;
  bits = column t.bits p;
  routes = routes_at t.rows (start t.routes p) (column t.routes p);
}

-- the distance from one router to another
abbrev pub cell : List ℕ → ℕ → ℕ → ℕ
cell distances from to = column distances (from * stride + to)

-- the snapshot of these counts and tables
abbrev pub snapshot_of : Counts → Tables → Snapshot
snapshot_of counts t = record {
  ids = table counts.routers (column t.ids);
  distances = map (λ p. cell t.distances p.from p.to) (pairs counts.routers);
  prefixes = table counts.prefixes (prefix_at t);
}

-- ---- what each part must obey

-- counts in their ranges
pub record InRange (counts : Counts) : Type 0 where
  pub routers : T (none (count_tests counts.routers))
  pub prefixes : counts.prefixes ≤ most_prefixes
  pub routes : counts.routes ≤ most_routes

-- the id of a router, after those of the routers before it
abbrev pub IdGood : List ℕ → ℕ → Type 0
IdGood ids k = GoodId (table k (column ids)) (column ids k)

-- an equal pair that is not 0, or a distance outside its range
abbrev pub cell_tests : ℕ → ℕ → ℕ → List Bool
cell_tests from to distance = (eqb from to && not (eqb distance 0)) ∷ distance_tests distance

pub record CellGood (distances : List ℕ) (from to : ℕ) : Type 0 where
  pub ranges : T (none (cell_tests from to (cell distances from to)))

-- a row of two columns does not rise above the row before it; the first row has none before it
abbrev pub late_at : (ℕ → ℕ) → (ℕ → ℕ) → ℕ → ℕ → Bool
late_at a b first row = cond (eqb first row) false (not (rises (a (row - 1)) (b (row - 1)) (a row) (b row)))

-- the k-th route from a row on, after those before it
abbrev pub RouteGood : ℕ → Columns → ℕ → ℕ → Type 0
RouteGood n c at k = GoodRoute n (routes_at c at k) (route_at c (at + k))

-- a prefix with its routes, after the prefixes before it
abbrev pub PrefixGood : ℕ → Tables → ℕ → Type 0
PrefixGood n t p = GoodPrefix n (table p (prefix_at t)) (prefix_at t p)

-- a fact of each number below n
abbrev pub Below : ℕ → (ℕ → Type 0) → Type 0
Below n P = (k : ℕ) → k < n → P k

-- the prefixes, and that their numbers of routes add up
abbrev pub Totalled : Counts → Tables → Type 0
Totalled counts t = Below counts.prefixes (PrefixGood counts.routers t) × (start t.routes counts.prefixes ≡ counts.routes)

-- all of them
pub record Parts (counts : Counts) (t : Tables) : Type 0 where
  pub range : InRange counts
  pub ids : Below counts.routers (IdGood t.ids)
  pub distances : Below counts.routers (λ from. Below counts.routers (CellGood t.distances from))
  pub prefixes : Totalled counts t

-- ---- judgements

-- an answer that is yes exactly when a fact holds
pub record Decides (P : Type 0) (answer : Bool) : Type 0 where
  pub yes : answer ≡ true → P
  pub no : answer ≡ false → P → ⊥

-- counts and tables are those of some snapshot
pub record Holding (counts : Counts) (t : Tables) : Type 0 where
  pub snapshot : Snapshot
  pub valid : Valid snapshot
  pub held : Held counts t snapshot

-- whether they are
abbrev pub Judged : Counts → Tables → Bool → Type 0
Judged counts t answer = Decides (Holding counts t) answer

-- ---- verdicts

-- the number for a verdict: 0, or that of the refusal
abbrev pub numbered : Result Unit Refusal → ℕ
numbered (Ok _) = 0
numbered (Err r) = number_of r

-- the number that counts and tables are given
pub data Verdicts (counts : Counts) (t : Tables) : ℕ → Type 0 where
  -- a lent table is shorter than its limit
  room : T (any_of (short t)) → Verdicts counts t (number_of refusal.Room)
  -- they are not those of any snapshot
  unheld : T (none (short t)) → (Holding counts t → ⊥) → Verdicts counts t (number_of refusal.Table)
  held : T (none (short t)) → Holding counts t → Verdicts counts t 0
