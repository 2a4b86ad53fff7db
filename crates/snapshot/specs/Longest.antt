-- A snapshot of the most routers, prefixes and routes.
use Rattle.std.specs.Prelude.{ℕ, zero, suc, ◌*◌, ◌-◌, List, [], ◌∷◌, replicate}
use Rattle.model.specs.Rows.{span}
use Rattle.model.specs.Decision.{Route}
use Rattle.snapshot.specs.Limits.{most_routers, most_prefixes, most_bits, last_two_byte_asn}
use Rattle.snapshot.specs.Format.{Prefix, Snapshot}

-- a route of router 0 with this peer address, of an AS of four bytes
abbrev pub route_from : ℕ → Route
route_from peer = record { router = 0; asn = suc last_two_byte_asn; preference = 0; path = 1; origin = 0; mark = 0; med = 0; nid = 1; peer = peer }

-- so many routes, behind the one of this peer
abbrev pub routes_after : ℕ → ℕ → List Route
routes_after peer zero = []
routes_after peer (suc left) = route_from (suc peer) ∷ routes_after (suc peer) left

-- so many prefixes of one address each, from this one on, of sixteen routes each
abbrev pub prefixes_on : ℕ → ℕ → List Prefix
prefixes_on address zero = []
prefixes_on address (suc left) = record { address = address; bits = most_bits; routes = routes_after 0 16 } ∷ prefixes_on (suc address) left

-- the most of everything
abbrev pub full_snapshot : Snapshot
full_snapshot = record { ids = span 1 most_routers; distances = replicate (most_routers * (most_routers - 1)) 0; prefixes = prefixes_on 0 most_prefixes }
