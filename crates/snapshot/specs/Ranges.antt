-- The ranges of document 01, each in one definition: a list of tests, any of which puts a value outside its range. Reading and
-- the judging of tables go by these.
use Rattle.std.specs.Prelude.{ℕ, ◌-◌, ◌%◌, ◌^◌, Bool, false, not, ◌&&◌, ◌||◌, List, [], ◌∷◌, leb, ltb, eqb}
use Rattle.model.specs.Decision.{Route}
use Rattle.snapshot.specs.Limits.{most_routers, farthest, most_bits, stand_in_asn, last_two_byte_asn, last_asn, longest_path, last_origin}

-- whether a test holds, or one of a list
abbrev pub or_any : Bool → List Bool → Bool
or_any a [] = a
or_any a (b ∷ bs) = or_any (a || b) bs

-- whether one of a list of tests holds
abbrev pub any_of : List Bool → Bool
any_of bs = or_any false bs

-- whether none of a list of tests holds
abbrev pub none : List Bool → Bool
none bs = not (any_of bs)

-- number of routers n, 1 to 64
abbrev pub count_tests : ℕ → List Bool
count_tests n = eqb n 0 ∷ ltb most_routers n ∷ []

-- router id not 0
abbrev pub id_tests : ℕ → List Bool
id_tests id = eqb id 0 ∷ []

-- a router record's index and id
abbrev pub router_tests : ℕ → ℕ → ℕ → List Bool
router_tests n index id = leb n index ∷ id_tests id

-- distance 0 to 16,777,215
abbrev pub distance_tests : ℕ → List Bool
distance_tests distance = ltb farthest distance ∷ []

-- a distance record's two indices and distance
abbrev pub pair_tests : ℕ → ℕ → ℕ → ℕ → List Bool
pair_tests n from to distance = leb n from ∷ leb n to ∷ distance_tests distance

-- prefix length 0 to 32 with no address bit set beyond it
abbrev pub prefix_tests : ℕ → ℕ → List Bool
prefix_tests address bits = ltb most_bits bits ∷ not (eqb (address % 2 ^ (most_bits - bits)) 0) ∷ []

-- neighbour AS 1 to 65,534 but 23456, or 65,536 to 4,294,967,294
abbrev pub asn_tests : ℕ → List Bool
asn_tests asn = eqb asn 0 ∷ eqb asn stand_in_asn ∷ eqb asn last_two_byte_asn ∷ ltb last_asn asn ∷ []

-- router below n; neighbour AS in its range; local preference any; path length 1 to 65,535; origin 0 to 2; MED mark 0 or 1, and with
-- mark 0 the four MED bytes are 0; neighbour id and peer address not 0
abbrev pub route_tests : ℕ → Route → List Bool
route_tests n r =
    leb n r.router
    ∷ any_of (asn_tests r.asn)
    ∷ eqb r.path 0
    ∷ ltb longest_path r.path
    ∷ ltb last_origin r.origin
    ∷ ltb 1 r.mark
    ∷ (eqb r.mark 0 && not (eqb r.med 0))
    ∷ eqb r.nid 0
    ∷ eqb r.peer 0
    ∷ []

-- a pair of numbers rises strictly above another: by the first number, then by the second
abbrev pub rises : ℕ → ℕ → ℕ → ℕ → Bool
rises a b c d = ltb a c || eqb a c && ltb b d

-- routes rise strictly by router, then peer address
abbrev pub rises_route : Route → Route → Bool
rises_route p q = rises p.router p.peer q.router q.peer
