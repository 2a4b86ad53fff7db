-- What the passes of a policy's sessions leave in the columns of the routes.
use Rattle.std.specs.Prelude.{ℕ, zero, suc, ◌≤◌, ◌<◌, ◌≡◌, Bool, cond, List, [], ◌∷◌, length, set, leb, ltb}
use Rattle.model.specs.Rows.{table, column, start}
use Rattle.model.specs.Decision.{Route}
use Rattle.snapshot.specs.Limits.{most_prefixes}
use Rattle.snapshot.specs.Tables.{Columns, columns, Tables, tables}
use Rattle.tables.specs.Judging.{route_at}
use Rattle.policy.specs.Policy.{Clause, Session, Policy}
use Rattle.policy.specs.Rewriting.{preferred}
use Rattle.policy.specs.Passing.{unruled, pass}
use Rattle.snapshot.specs.declared.LentTables as lent_all
use Rattle.passes.specs.declared.RewriteTables as lent

-- the columns among lent tables,
abbrev pub rewrite_columns : lent.RewriteTables → Columns
rewrite_columns t = columns t.router.now t.asn.now t.preference.now t.path.now t.origin.now t.mark.now t.med.now t.nid.now t.peer.now

-- and all of them
abbrev pub rewrite_tables : lent.RewriteTables → Tables
rewrite_tables t = tables t.ids.now t.distances.now t.address.now t.bits.now t.routes.now (rewrite_columns t)

-- the tables lent are the same as before, whatever stands in those that are lent to be rewritten
pub record KeepsRewrite (a b : lent.RewriteTables) : Type 0 where
  pub ids : b.ids ≡ a.ids
  pub distances : b.distances ≡ a.distances
  pub address : b.address ≡ a.address
  pub bits : b.bits ≡ a.bits
  pub routes : b.routes ≡ a.routes
  pub router : b.router ≡ a.router
  pub asn : b.asn ≡ a.asn
  pub path : b.path ≡ a.path
  pub origin : b.origin ≡ a.origin
  pub nid : b.nid ≡ a.nid
  pub peer : b.peer ≡ a.peer
  pub preference : b.preference.ghost_name ≡ a.preference.ghost_name
  pub mark : b.mark.ghost_name ≡ a.mark.ghost_name
  pub med : b.med.ghost_name ≡ a.med.ghost_name

-- what is lent to be rewritten is what was lent to be filled
pub record LendsOn (a : lent_all.LentTables) (b : lent.RewriteTables) : Type 0 where
  pub preference : b.preference.ghost_name ≡ a.preference.ghost_name
  pub mark : b.mark.ghost_name ≡ a.mark.ghost_name
  pub med : b.med.ghost_name ≡ a.med.ghost_name

-- an entry below n is new, another as it was
abbrev pub entry : ℕ → (ℕ → ℕ) → List ℕ → ℕ → ℕ
entry n new xs q = cond (ltb q n) (new q) (column xs q)

-- a list whose entries below n are new
abbrev pub entries : ℕ → (ℕ → ℕ) → List ℕ → List ℕ
entries n new xs = table (length xs) (entry n new xs)

-- the columns with the preference, mark and MED of each row below n altered; all other entries are as before
abbrev pub altered : ℕ → (ℕ → Route → Route) → Columns → Columns
altered n f c = record {
  router = c.router;
  asn = c.asn;
  preference = entries n (λ q. (f q (route_at c q)).preference) c.preference;
  path = c.path;
  origin = c.origin;
  mark = entries n (λ q. (f q (route_at c q)).mark) c.mark;
  med = entries n (λ q. (f q (route_at c q)).med) c.med;
  nid = c.nid;
  peer = c.peer;
}

-- the number of the prefix, of the first so many, that a row belongs to, by their numbers of routes: the last that starts no later
abbrev pub owner_of : List ℕ → ℕ → ℕ → ℕ
owner_of routes zero q = 0
owner_of routes (suc n) q = cond (leb (start routes n) q) n (owner_of routes n q)

-- the rows of so many prefixes are marked with these
pub record Owned (routes : List ℕ) (n : ℕ) (owner : List ℕ) : Type 0 where
  pub marked : (q : ℕ) → q < start routes n → column owner q ≡ owner_of routes n q

-- a field of the prefix that a row belongs to, where `owner` has its number
abbrev pub of_row : List ℕ → List ℕ → ℕ → ℕ
of_row field owner q = column field (column owner q)

-- the route in a row rewritten by a session's clauses and by whether MED is set to 0 on it; `address` and `bits` tell its prefix
abbrev pub ruled_row : List Clause → Bool → ℕ → ℕ → ℕ → Columns → Columns
ruled_row cs reset address bits q c = record {
  router = c.router;
  asn = c.asn;
  preference = set c.preference q (preferred cs address bits (column c.path q) (column c.asn q));
  path = c.path;
  origin = c.origin;
  mark = cond reset (set c.mark q 1) c.mark;
  med = cond reset (set c.med q 0) c.med;
  nid = c.nid;
  peer = c.peer;
}

-- the pass of one session along n rows; `address` and `bits` tell the prefix of a row
abbrev pub passed : Session → (ℕ → ℕ) → (ℕ → ℕ) → ℕ → Columns → Columns
passed s address bits n = altered n (λ q. pass s (address q) (bits q))

-- the passes of some sessions, one after the other
abbrev pub passed_all : Policy → (ℕ → ℕ) → (ℕ → ℕ) → ℕ → Columns → Columns
passed_all [] address bits n c = c
passed_all (s ∷ ss) address bits n c = passed_all ss address bits n (passed s address bits n c)

-- every preference set to 100, then the passes
abbrev pub applied : Policy → (ℕ → ℕ) → (ℕ → ℕ) → ℕ → Columns → Columns
applied policy address bits n c = passed_all policy address bits n (altered n (λ q. unruled) c)

-- a field of the prefix that a row belongs to, by the numbers of routes of so many prefixes
abbrev pub prefix_field : List ℕ → List ℕ → ℕ → ℕ → ℕ
prefix_field field routes prefixes q = column field (owner_of routes prefixes q)

-- the columns that a policy looks at or rewrites have so many rows
pub record Long (n : ℕ) (c : Columns) : Type 0 where
  pub router : n ≤ length c.router
  pub asn : n ≤ length c.asn
  pub preference : n ≤ length c.preference
  pub path : n ≤ length c.path
  pub mark : n ≤ length c.mark
  pub med : n ≤ length c.med
  pub peer : n ≤ length c.peer

-- each row has the number of a prefix, and each prefix an address and a length
pub record Told (owner : List ℕ) (t : Tables) : Type 0 where
  pub below : (q : ℕ) → q < length owner → column owner q < most_prefixes
  pub addresses : most_prefixes ≤ length t.address
  pub lengths : most_prefixes ≤ length t.bits

-- so many prefixes and rows, and tables with room for them
pub record Lent (prefixes rows : ℕ) (t : Tables) : Type 0 where
  pub few : prefixes ≤ most_prefixes
  pub addresses : most_prefixes ≤ length t.address
  pub lengths : most_prefixes ≤ length t.bits
  pub counted : most_prefixes ≤ length t.routes
  pub total : rows ≡ start t.routes prefixes
  pub columns : Long rows t.rows
