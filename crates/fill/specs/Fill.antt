-- What the second pass takes from a judged input: each entry stands at a known place, and the prefixes one after another.
use Rattle.std.specs.Prelude.{ℕ, zero, suc, ◌+◌, ◌-◌, ◌*◌, ◌/◌, ◌%◌, ◌≤◌, Bool, cond, ◌&&◌, List, [], ◌∷◌, map, length, get_or, set, leb, eqb}
use Rattle.std.proofs.lemmas.List.Edits.{sets}
use Rattle.wire.specs.Numbers.{number_at}
use Rattle.model.specs.Rows.{table}
use Rattle.model.specs.Decision.{Route}
use Rattle.snapshot.specs.Limits.{most_routers, stride, most_routes}
use Rattle.snapshot.specs.Records.{count_form, prefix_form, route_forms, stands, size, form_at, values_at}
use Rattle.snapshot.specs.Format.{Prefix, pairs_before}
use Rattle.snapshot.specs.Reading.{route_of}
use Rattle.snapshot.specs.Tables.{Columns, Tables, Wide, used, put_routes, all_routes}
use Rattle.cursor.specs.Steps.{ids_at}

-- the ids of the first n routers, whose records stand behind the count record
abbrev pub ids_in : List ℕ → ℕ → List ℕ
ids_in bs = ids_at bs (size count_form)

-- the distance from one of n routers to another, 0 from one to itself
abbrev pub distance_in : List ℕ → ℕ → ℕ → ℕ → ℕ
distance_in bs n from to = cond (eqb from to) 0 (number_at 4 bs (7 * pairs_before n from to + (6 * n + 5)))

-- what an entry of a table of distances is to hold
abbrev pub entry_in : List ℕ → ℕ → List ℕ → ℕ → ℕ
entry_in bs n ds k = cond (used n k) (distance_in bs n (k / stride) (k % stride)) (get_or ds k 0)

-- where the prefixes of n routers begin
abbrev pub behind_distances : ℕ → ℕ
behind_distances n = 6 * n + 2 + 7 * (n * (n - 1))

-- the input has the routers and distances of n routers
pub record Spans (bs : List ℕ) (n : ℕ) : Type 0 where
  pub some : 1 ≤ n
  pub few : n ≤ most_routers
  pub long : behind_distances n ≤ length bs

-- a whole route record stands at a place
abbrev pub is_route : List ℕ → ℕ → Bool
is_route bs at = stands route_forms (get_or bs at 0) && leb (at + size (form_at route_forms bs at)) (length bs)

-- the routes from a place on, at most so many
unfoldable pub routes_from : ℕ → List ℕ → ℕ → List Route
routes_from zero bs at = []
routes_from (suc room) bs at =
    let f = form_at route_forms bs at in
    cond (is_route bs at) (route_of (values_at f bs at) ∷ routes_from room bs (at + size f)) []

-- the place behind them
unfoldable pub behind_routes : ℕ → List ℕ → ℕ → ℕ
behind_routes zero bs at = at
behind_routes (suc room) bs at = cond (is_route bs at) (behind_routes room bs (at + size (form_at route_forms bs at))) at

-- the prefix at a place, with these routes
abbrev pub prefix_with : List ℕ → ℕ → List Route → Prefix
prefix_with bs at rs = let v = values_at prefix_form bs at in record { address = get_or v 0 0; bits = get_or v 1 0; routes = rs }

-- so many prefixes from a place on, where so many routes stand before them
unfoldable pub prefixes_from : ℕ → List ℕ → ℕ → ℕ → List Prefix
prefixes_from zero bs at row = []
prefixes_from (suc left) bs at row =
    let first = at + size prefix_form in
    let rs = routes_from (most_routes - row) bs first in
    cond (leb first (length bs)) (prefix_with bs at rs ∷ prefixes_from left bs (behind_routes (most_routes - row) bs first) (row + length rs)) []

-- these tables with a prefix and its number of routes in a row
abbrev pub with_prefix : Tables → ℕ → ℕ → ℕ → ℕ → Tables
with_prefix t p address bits inside = record t { address = set t.address p address; bits = set t.bits p bits; routes = set t.routes p inside }

-- the columns of prefixes and routes
pub record Lists : Type 0 where
  pub address : List ℕ
  pub bits : List ℕ
  pub routes : List ℕ
  pub rows : Columns

-- the columns of these lists
abbrev pub lists : List ℕ → List ℕ → List ℕ → Columns → Lists
lists address bits routes rows = record { address = address; bits = bits; routes = routes; rows = rows }

-- those of tables
abbrev pub lists_in : Tables → Lists
lists_in t = lists t.address t.bits t.routes t.rows

-- these columns with prefixes and their routes from the front on
abbrev pub put_prefixes : Lists → List Prefix → Lists
put_prefixes t ps = record {
  address = sets t.address 0 (map (λ p. p.address) ps);
  bits = sets t.bits 0 (map (λ p. p.bits) ps);
  routes = sets t.routes 0 (map (λ p. length p.routes) ps);
  rows = put_routes t.rows 0 (all_routes ps);
}

-- the prefix columns have room for so many prefixes, and the route columns for the most routes
pub record WideLists (n : ℕ) (t : Lists) : Type 0 where
  pub address : n ≤ length t.address
  pub bits : n ≤ length t.bits
  pub routes : n ≤ length t.routes
  pub rows : Wide most_routes t.rows

-- the tables with what an input of n routers and m prefixes says
abbrev pub filled_from : List ℕ → ℕ → ℕ → Tables → Tables
filled_from bs n m t =
    let ps = put_prefixes (lists_in t) (prefixes_from m bs (behind_distances n) 0) in
    record {
      ids = sets t.ids 0 (ids_in bs n);
      distances = table (length t.distances) (entry_in bs n t.distances);
      address = ps.address;
      bits = ps.bits;
      routes = ps.routes;
      rows = ps.rows;
    }
