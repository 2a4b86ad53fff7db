-- What the cursor's methods answer, as the definitions of the snapshot have it.
use Rattle.std.specs.Prelude.{ℕ, ◌+◌, ◌*◌, ◌≡◌, Bool, false, cond, not, ◌&&◌, List, [], ◌∷◌, ◌++◌, length, get_or, ltb, eqb, Result, Ok, Err}
use Rattle.wire.specs.Numbers.{number_at}
use Rattle.refusal.specs.declared.Refusal.{Refusal}
use Rattle.refusal.specs.declared.Refusal.TheVariants.{Cut, Kind, Place, Full, Field, Order, Tail}
use Rattle.refusal.specs.declared.Refused.{Refused}
use Rattle.refusal.specs.Numbers.{Said, refuses, gives, said_by}
use Rattle.snapshot.specs.declared.Route.{Route}
use Rattle.model.specs.Rows.{some, table}
use Rattle.model.specs.Decision as model
use Rattle.snapshot.specs.Ranges.{none, prefix_tests, route_tests, rises, rises_route}
use Rattle.snapshot.specs.Records.{Form, forms, of_kind, known, sum, size, only, router_form, prefix_form, route_forms, four_byte, route_form_by, end_form, values_at}
use Rattle.snapshot.specs.Format.{Pair, Snapshot, routes_in, latest, Check, ◌else◌, judged}
use Rattle.snapshot.specs.Reading.{record_checks, open_routes, route_of, prefix_room, route_room, end_values}
use Rattle.cursor.specs.declared.Cursor.{Cursor}
use Rattle.cursor.specs.declared.Sofar.{Sofar}
use Rattle.cursor.specs.declared.Network.{Network}

-- a refusal with its place, as the code has it
abbrev pub refused_at : ℕ → Refusal → Refused
refused_at at r = record { refusal = r; place = at }

-- what checks of the record at a place find: nothing, or the refusal of the first that fails
abbrev pub finding : ℕ → List Check → Result (Unit {0}) Refused
finding at [] = Ok tt
finding at ((b else r) ∷ checks) = cond b (finding at checks) (Err (refused_at at r))

-- the length of the body of a kind of a table, or KIND
abbrev pub body_of : List Form → ℕ → Result ℕ Refusal
body_of table k = of_kind table k (λ f. Ok (sum f.widths)) (Err Kind)

-- the length of the body of a kind, 0 where it is not known
abbrev pub body_length : List Form → ℕ → ℕ
body_length table k = of_kind table k (λ f. sum f.widths) 0

-- the checks of every record before its values: CUT for the kind byte, KIND, PLACE, FULL, CUT for the body
abbrev pub opening_checks : List Form → List ℕ → ℕ → ℕ → Bool → Bool → List Check
opening_checks table bs at due astray full =
    let k = get_or bs at 0 in
    (ltb at (length bs) else Cut)
    ∷ (known table k else Kind)
    ∷ (eqb k due else Place)
    ∷ (not astray else Place)
    ∷ (not full else Full)
    ∷ (ltb (at + body_length table k) (length bs) else Cut)
    ∷ []

-- the same checks where the body of the kind is given: after CUT for the kind byte,
abbrev pub body_checks : Result ℕ Refusal → List ℕ → ℕ → ℕ → Bool → Bool → List Check
body_checks (Err r) bs at due astray full = (false else r) ∷ []
body_checks (Ok n) bs at due astray full =
    (eqb (get_or bs at 0) due else Place)
    ∷ (not astray else Place)
    ∷ (not full else Full)
    ∷ (ltb (at + n) (length bs) else Cut)
    ∷ []

-- and with it
abbrev pub opening_by : Result ℕ Refusal → List ℕ → ℕ → ℕ → Bool → Bool → List Check
opening_by body bs at due astray full = (ltb at (length bs) else Cut) ∷ body_checks body bs at due astray full

-- the checks of an end record behind so many records, where the body of the kind is given
abbrev pub end_by : Result ℕ Refusal → ℕ → List ℕ → ℕ → List Check
end_by body records bs at = opening_by body bs at 6 false false ++ end_values records (values_at end_form bs at)

-- the cursor before the first record
abbrev pub begin : Cursor
begin = record { at = 0; records = 0 }

-- the cursor behind a record of so many bytes
abbrev pub behind : Cursor → ℕ → Cursor
behind c n = record { at = c.at + n; records = c.records + 1 }

-- the cursor behind a record of a form
abbrev pub after : Cursor → Form → Cursor
after c f = behind c (size f)

-- the pair of routers whose distance is due
abbrev pub due : ℕ → ℕ → Pair
due from to = record { from = from; to = to }

-- the next pair of numbers does not rise above the latest of so many
abbrev pub late_behind : ℕ → ℕ → ℕ → ℕ → ℕ → Bool
late_behind before a b c d = not (eqb before 0) && not (rises a b c d)

-- the checks of a prefix's values, by what is known of those before it
abbrev pub prefix_faults : Sofar → ℕ → ℕ → List Check
prefix_faults k address bits =
    (none (prefix_tests address bits) else Field)
    ∷ (not (late_behind k.prefixes k.address k.bits address bits) else Order)
    ∷ []

-- the checks of a route's values, by what is known of those before it
abbrev pub route_faults : Sofar → model.Route → List Check
route_faults k r =
    (none (route_tests k.routers r) else Field)
    ∷ (not (late_behind k.inside k.router k.peer r.router r.peer) else Order)
    ∷ []

-- the checks of a route's values in a record of a kind: that they choose it comes first
abbrev pub route_faults_in : Sofar → ℕ → model.Route → List Check
route_faults_in k kind r = (eqb kind (route_form_by (four_byte r.asn)).kind else Field) ∷ route_faults k r

-- the checks of a prefix record, by what is known of those before it
unfoldable pub prefix_next : Sofar → List ℕ → List Check
prefix_next k = record_checks forms (only prefix_form) (prefix_room k.prefixes) (λ v. prefix_faults k (get_or v 0 0) (get_or v 1 0))

-- the checks of a route record, by what is known of those before it
unfoldable pub route_next : Sofar → List ℕ → List Check
route_next k = record_checks forms route_forms (route_room k.prefixes k.inside k.routes) (λ v. route_faults k (route_of v))

-- the id of the router record at a place
abbrev pub id_at : List ℕ → ℕ → ℕ
id_at bs at = get_or (values_at router_form bs at) 1 0

-- where the record of router i stands, if that of the first stands at a place
abbrev pub router_place : ℕ → ℕ → ℕ
router_place first i = first + size router_form * i

-- the ids of the first n routers, whose records stand from a place on
abbrev pub ids_at : List ℕ → ℕ → ℕ → List ℕ
ids_at bs first n = table n (λ i. id_at bs (router_place first i))

-- whether an id is one of these
unfoldable pub given_before : ℕ → List ℕ → Bool
given_before id ids = some (eqb id) ids

-- the prefix of the record at a place
abbrev pub network_at : List ℕ → ℕ → Network
network_at bs at = let v = values_at prefix_form bs at in record { address = get_or v 0 0; bits = get_or v 1 0 }

-- how many bits of the four bytes from a route's neighbour AS on stand behind it
abbrev pub bits_behind : Bool → ℕ
bits_behind four = cond four 0 16

-- the route of a router and a neighbour AS whose other fields stand from a place on
abbrev pub route_behind : List ℕ → ℕ → ℕ → ℕ → Route
route_behind bs at router asn = record {
  router = router;
  asn = asn;
  preference = number_at 4 bs at;
  path = number_at 2 bs (at + 4);
  origin = number_at 1 bs (at + 6);
  mark = number_at 1 bs (at + 7);
  med = number_at 4 bs (at + 8);
  nid = number_at 4 bs (at + 12);
  peer = number_at 4 bs (at + 16);
}

-- the route of the record at a place, in its form for ASes of four bytes or of two
abbrev pub route_at : List ℕ → ℕ → Bool → Route
route_at bs at four = let v = values_at (route_form_by four) bs at in record {
  router = get_or v 0 0;
  asn = get_or v 1 0;
  preference = get_or v 2 0;
  path = get_or v 3 0;
  origin = get_or v 4 0;
  mark = get_or v 5 0;
  med = get_or v 6 0;
  nid = get_or v 7 0;
  peer = get_or v 8 0;
}

-- what to know with no prefix read
abbrev pub nothing : ℕ → Sofar
nothing n = record { routers = n; prefixes = 0; routes = 0; inside = 0; address = 0; bits = 0; router = 0; peer = 0 }

-- what to know with one more prefix
abbrev pub more_prefix : Sofar → Network → Sofar
more_prefix k p =
    record { routers = k.routers; prefixes = k.prefixes + 1; routes = k.routes; inside = 0; address = p.address; bits = p.bits; router = 0; peer = 0 }

-- what to know with one more route
abbrev pub more_route : Sofar → Route → Sofar
more_route k r =
    record { routers = k.routers; prefixes = k.prefixes; routes = k.routes + 1; inside = k.inside + 1; address = k.address; bits = k.bits; router = r.router; peer = r.peer }

-- `k` says what is to be known of the snapshot read so far
pub record Tells (s : Snapshot) (k : Sofar) : Type 0 where
  pub routers : k.routers ≡ length s.ids
  pub prefixes : k.prefixes ≡ length s.prefixes
  pub routes : k.routes ≡ routes_in s.prefixes
  pub inside : k.inside ≡ length (open_routes s.prefixes)
  pub above : (address bits : ℕ)
      → latest (λ p. rises p.address p.bits address bits) s.prefixes ≡ not (late_behind k.prefixes k.address k.bits address bits)
  pub beyond : (r : model.Route)
      → latest (λ q. rises_route q r) (open_routes s.prefixes) ≡ not (late_behind k.inside k.router k.peer r.router r.peer)

-- ---- the answers in the project's numbers

-- a record was taken: the place of the next cursor and its number of records, then what the record says
abbrev pub took : Cursor → List ℕ → Said
took c values = gives (c.at ∷ c.records ∷ values)

-- an answer to a record, where `says` gives the numbers of what the record says
abbrev pub record_said : {A : Type 0} → (A → List ℕ) → Result (Cursor × A) Refused → Said
record_said says = said_by (λ t. took t.0 (says t.1))

-- of a record that says one number
abbrev pub step_said : Result (Cursor × ℕ) Refused → Said
step_said = record_said (λ n. n ∷ [])

-- of a prefix: address and length
abbrev pub prefix_said : Result (Cursor × Network) Refused → Said
prefix_said = record_said (λ p. p.address ∷ p.bits ∷ [])

-- of a route: its fields
abbrev pub route_said : Result (Cursor × Route) Refused → Said
route_said = record_said (λ r. r.router ∷ r.asn ∷ r.preference ∷ r.path ∷ r.origin ∷ r.mark ∷ r.med ∷ r.nid ∷ r.peer ∷ [])

-- of the end, which says nothing
abbrev pub end_said : Result (Unit {0}) Refused → Said
end_said = said_by (λ _. gives [])

-- what is answered where these checks judge the record at a place: the refusal of the first that fails, or this
abbrev pub judged_at : ℕ → List Check → Said → Said
judged_at at checks answer = judged checks (λ r. refuses r at) (λ _. answer)

-- after the end record: nothing
abbrev pub ending : List ℕ → ℕ → Said
ending bs at = cond (ltb at (length bs)) (refuses Tail at) (gives [])
