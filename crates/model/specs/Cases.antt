-- Sums on paper: the cases P1 to P11, and more that separate what those leave alike, each with its early and its late rows.
use Rattle.std.specs.Prelude.{ℕ, cond, List, [], ◌∷◌, eqb, get_or}
use Rattle.model.specs.Decision.{Route, Mesh, mesh_of, none}

-- a case: a prefix, and the rows that its routers hold early and late
pub record Case : Type 0 where
  pub mesh : Mesh
  pub early : List ℕ
  pub late : List ℕ

-- unless said otherwise: preference 100, path 2, origin 0, MED present
abbrev route : ℕ → ℕ → ℕ → ℕ → ℕ → Route
route router asn med nid peer = record { router = router; asn = asn; preference = 100; path = 2; origin = 0; mark = 1; med = med; nid = nid; peer = peer }

-- a route with another preference, path length and origin
abbrev preferring : ℕ → ℕ → ℕ → ℕ → ℕ → ℕ → Route
preferring router preference path origin nid peer =
    record { router = router; asn = 1; preference = preference; path = path; origin = origin; mark = 1; med = 0; nid = nid; peer = peer }

-- a route with no MED
abbrev unmarked : ℕ → ℕ → ℕ → ℕ → Route
unmarked router asn nid peer = record { router = router; asn = asn; preference = 100; path = 2; origin = 0; mark = 0; med = 0; nid = nid; peer = peer }

-- all distances alike; and distances by a list for each router
abbrev apart : ℕ → ℕ → ℕ → ℕ
apart d from to = cond (eqb from to) 0 d

abbrev listed : List (List ℕ) → ℕ → ℕ → ℕ
listed rows from to = get_or (get_or rows from []) to 0

-- a case that is settled
abbrev settled : Mesh → List ℕ → Case
settled mesh rows = record { mesh = mesh; early = rows; late = rows }

-- C is 7 from A and from B, which are 1 apart
abbrev seven_away : ℕ → ℕ → ℕ
seven_away = listed ((0 ∷ 1 ∷ 7 ∷ []) ∷ (1 ∷ 0 ∷ 7 ∷ []) ∷ (7 ∷ 7 ∷ 0 ∷ []) ∷ [])

-- the ids of so many routers
abbrev one : List ℕ
one = 1 ∷ []

abbrev two : List ℕ
two = 1 ∷ 2 ∷ []

abbrev three : List ℕ
three = 1 ∷ 2 ∷ 3 ∷ []

-- P1: no routes: settled, all none.
abbrev p1 : Case
p1 = settled (mesh_of three (apart 1) []) (none ∷ none ∷ none ∷ [])

-- P2: one router, one route: settled, own.
abbrev p2 : Case
p2 = settled (mesh_of one (apart 1) (route 0 1 0 1 1 ∷ [])) (0 ∷ [])

-- P3: A has preference 110 path 5, B preference 100 path 1: both hold A's.
abbrev p3 : Case
p3 = settled (mesh_of two (apart 1) (preferring 0 110 5 0 1 1 ∷ preferring 1 100 1 0 2 2 ∷ [])) (0 ∷ 0 ∷ [])

-- P4: A has AS 1 MED 0 id 2 and AS 2 MED 5 id 1; B has AS 2 MED 0. Settled: A its AS 1 route, B its own.
abbrev p4 : Case
p4 = settled (mesh_of two (apart 1) (route 0 1 0 2 1 ∷ route 0 2 5 1 2 ∷ route 1 2 0 3 3 ∷ [])) (0 ∷ 2 ∷ [])

-- P5: routers 10.0.0.1 to 10.0.0.3, peers 192.0.2.1, .2, .5 and .6: each of A and B has its first choice put out by the other's second. Open.
abbrev p5 : Case
p5 = record {
  mesh = mesh_of (167772161 ∷ 167772162 ∷ 167772163 ∷ []) (listed ((0 ∷ 4 ∷ 5 ∷ []) ∷ (4 ∷ 0 ∷ 9 ∷ []) ∷ (5 ∷ 9 ∷ 0 ∷ []) ∷ []))
      (route 0 65001 0 2 3221225985 ∷ route 0 65002 5 1 3221225986 ∷ route 1 65002 0 2 3221225989 ∷ route 1 65001 5 1 3221225990 ∷ []);
  early = 1 ∷ 3 ∷ 1 ∷ [];
  late = 0 ∷ 2 ∷ 0 ∷ [];
}

-- P6: A has AS 1 MED 0 id 9 and AS 3 MED 0 id 1; B has AS 1 MED 7. Settled: A its AS 3 route, B its own.
abbrev p6 : Case
p6 = settled (mesh_of two (apart 1) (route 0 1 0 9 1 ∷ route 0 3 0 1 2 ∷ route 1 1 7 3 3 ∷ [])) (1 ∷ 2 ∷ [])

-- P7: A has AS 2 MED 5, B AS 2 MED 0: both hold B's.
abbrev p7 : Case
p7 = settled (mesh_of two (apart 1) (route 0 2 5 1 1 ∷ route 1 2 0 2 2 ∷ [])) (1 ∷ 1 ∷ [])

-- P8: the same AS, A with MED absent, B with MED 1: both hold A's.
abbrev p8 : Case
p8 = settled (mesh_of two (apart 1) (unmarked 0 1 1 1 ∷ route 1 1 1 2 2 ∷ [])) (0 ∷ 0 ∷ [])

-- P9: one router, two ASes, equal neighbour ids: the lower peer address.
abbrev p9 : Case
p9 = settled (mesh_of one (apart 1) (route 0 1 0 1 1 ∷ route 0 2 0 1 2 ∷ [])) (0 ∷ [])

-- P10: C has none; A (AS 1) and B (AS 2) each have one, both 7 away: C takes that of the lower router id.
abbrev p10 : Case
p10 = settled (mesh_of three seven_away (route 0 1 0 1 1 ∷ route 1 2 0 2 2 ∷ [])) (0 ∷ 1 ∷ 0 ∷ [])

-- P11: A has AS 1 MED 9, B AS 2 MED 0: each its own.
abbrev p11 : Case
p11 = settled (mesh_of two (apart 1) (route 0 1 9 1 1 ∷ route 1 2 0 2 2 ∷ [])) (0 ∷ 1 ∷ [])

-- P10 with A's neighbour id above B's: C takes A's all the same, since step 7 asks for the owning router's id.
abbrev router_ids : Case
router_ids = settled (mesh_of three seven_away (route 0 1 0 9 1 ∷ route 1 2 0 2 2 ∷ [])) (0 ∷ 1 ∷ 0 ∷ [])

-- C has none, and is 2 from A and 3 from B; A is 9 from C and B is 1 from C: C takes A's, since the distance is from the chooser.
abbrev one_way : Case
one_way = settled (mesh_of three (listed ((0 ∷ 1 ∷ 9 ∷ []) ∷ (1 ∷ 0 ∷ 1 ∷ []) ∷ (2 ∷ 3 ∷ 0 ∷ []) ∷ [])) (route 0 1 0 1 1 ∷ route 1 2 0 2 2 ∷ [])) (0 ∷ 1 ∷ 0 ∷ [])

-- A and B are 0 apart, and their router ids are below their neighbours': each holds its own, since step 5 comes before the distance.
abbrev own_first : Case
own_first = settled (mesh_of two (apart 0) (route 0 1 0 8 1 ∷ route 1 2 0 9 2 ∷ [])) (0 ∷ 1 ∷ [])

-- A has AS 1 MED 5 id 1 and AS 1 MED 0 id 2, B none: the first is no contender of A's, and both hold the second.
abbrev own_med : Case
own_med = settled (mesh_of two (apart 1) (route 0 1 5 1 1 ∷ route 0 1 0 2 2 ∷ [])) (1 ∷ 1 ∷ [])

-- A and B have routes alike but for the path, A's one longer: both hold B's, though A's ids are lower.
abbrev shorter_path : Case
shorter_path = settled (mesh_of two (apart 1) (preferring 0 100 3 0 1 1 ∷ preferring 1 100 2 0 2 2 ∷ [])) (1 ∷ 1 ∷ [])

-- A and B have routes alike but for the origin, A's incomplete and B's EGP: both hold B's, though A's ids are lower.
abbrev lower_origin : Case
lower_origin = settled (mesh_of two (apart 1) (preferring 0 100 2 2 1 1 ∷ preferring 1 100 2 1 2 2 ∷ [])) (1 ∷ 1 ∷ [])

-- C has none, and is 9 from A and 3 from B: C takes B's, though A has the lower router id.
abbrev nearer : Case
nearer = settled (mesh_of three (listed ((0 ∷ 1 ∷ 9 ∷ []) ∷ (1 ∷ 0 ∷ 3 ∷ []) ∷ (9 ∷ 3 ∷ 0 ∷ []) ∷ [])) (route 0 1 0 1 1 ∷ route 1 2 0 2 2 ∷ [])) (0 ∷ 1 ∷ 1 ∷ [])

-- AS 3 has MED 0 at A, which nobody holds since A likes its AS 2 route better, 3 at B and 2 at C. Late, C holds the value in between: to
-- skip from 0 to what is then held, or to nothing, would let B have its AS 3 route too.
abbrev in_between : Case
in_between = record {
  mesh = mesh_of three (apart 1) (route 0 2 0 1 1 ∷ route 0 3 0 2 2 ∷ route 1 3 3 3 3 ∷ route 1 1 0 4 4 ∷ route 2 1 3 5 5 ∷ route 2 3 2 6 6 ∷ []);
  early = 0 ∷ 2 ∷ 4 ∷ [];
  late = 0 ∷ 3 ∷ 5 ∷ [];
}

-- the table
abbrev pub cases : List Case
cases =
    p1 ∷ p2 ∷ p3 ∷ p4 ∷ p5 ∷ p6 ∷ p7 ∷ p8 ∷ p9 ∷ p10 ∷ p11
    ∷ router_ids ∷ one_way ∷ own_first ∷ own_med ∷ shorter_path ∷ lower_origin ∷ nearer ∷ in_between
    ∷ []

-- every case of a list has a property
abbrev pub Every : (Case → Type 0) → List Case → Type 0
Every good [] = Unit {0}
Every good (c ∷ cs) = good c × Every good cs
