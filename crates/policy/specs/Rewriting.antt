-- What a policy makes of a snapshot, and of the tables that hold one.
use Rattle.std.specs.Prelude.{ℕ, Bool, true, cond, ◌&&◌, List, [], ◌∷◌, map, eqb}
use Rattle.std.proofs.lemmas.List.Edits.{sets}
use Rattle.model.specs.Decision.{Route}
use Rattle.snapshot.specs.Format.{Prefix, Snapshot}
use Rattle.snapshot.specs.Reading.{with_prefixes}
use Rattle.snapshot.specs.Tables.{Columns, Tables}
use Rattle.policy.specs.Policy.{Clause, exact, direct, any, Session, Policy}

-- the preference of a session or route that no clause fits
abbrev pub usual : ℕ
usual = 100

-- a clause fits a route of a prefix (address, length) with a path of so many ASes from a neighbour: the exact prefix; a path of length 1
-- from that AS; everything
abbrev pub fits : Clause → ℕ → ℕ → ℕ → ℕ → Bool
fits (exact a b preference) address bits path neighbour = eqb a address && eqb b bits
fits (direct asn preference) address bits path neighbour = eqb path 1 && eqb asn neighbour
fits (any preference) address bits path neighbour = true

-- the preference that a clause gives
abbrev pub preference_of : Clause → ℕ
preference_of (exact address bits preference) = preference
preference_of (direct asn preference) = preference
preference_of (any preference) = preference

-- the first clause that fits decides the preference
abbrev pub preferred : List Clause → ℕ → ℕ → ℕ → ℕ → ℕ
preferred [] address bits path neighbour = usual
preferred (c ∷ cs) address bits path neighbour =
    cond (fits c address bits path neighbour) (preference_of c) (preferred cs address bits path neighbour)

-- a route with another preference, mark and MED
abbrev pub with : Route → ℕ → ℕ → ℕ → Route
with r preference mark med = record {
  router = r.router;
  asn = r.asn;
  preference = preference;
  path = r.path;
  origin = r.origin;
  mark = mark;
  med = med;
  nid = r.nid;
  peer = r.peer;
}

-- a route was heard on a session: its router and peer address are the session's
abbrev pub heard_on : Session → Route → Bool
heard_on s r = eqb s.router r.router && eqb s.peer r.peer

-- what a session makes of a route heard on it
abbrev pub by_session : Session → ℕ → ℕ → Route → Route
by_session s address bits r =
    with r (preferred s.clauses address bits r.path r.asn) (cond s.zero 1 r.mark) (cond s.zero 0 r.med)

-- what a policy makes of a route of a prefix
abbrev pub ruled : Policy → ℕ → ℕ → Route → Route
ruled [] address bits r = with r usual r.mark r.med
ruled (s ∷ ss) address bits r = cond (heard_on s r) (by_session s address bits r) (ruled ss address bits r)

-- of a prefix
abbrev pub ruled_prefix : Policy → Prefix → Prefix
ruled_prefix policy p = record { address = p.address; bits = p.bits; routes = map (ruled policy p.address p.bits) p.routes }

-- of a snapshot
abbrev pub rewritten : Policy → Snapshot → Snapshot
rewritten policy s = with_prefixes s (map (ruled_prefix policy) s.prefixes)

-- the same tables with other columns of routes
abbrev pub with_rows : Tables → Columns → Tables
with_rows t c = record { ids = t.ids; distances = t.distances; address = t.address; bits = t.bits; routes = t.routes; rows = c }

-- the columns with these routes' preferences, marks and MEDs, from the first row on
abbrev pub put_ruled : Columns → List Route → Columns
put_ruled c rs = record {
  router = c.router;
  asn = c.asn;
  preference = sets c.preference 0 (map (λ r. r.preference) rs);
  path = c.path;
  origin = c.origin;
  mark = sets c.mark 0 (map (λ r. r.mark) rs);
  med = sets c.med 0 (map (λ r. r.med) rs);
  nid = c.nid;
  peer = c.peer;
}
