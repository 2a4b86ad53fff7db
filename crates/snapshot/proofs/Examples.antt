-- Worked cases of document 01, computed.
use Rattle.std.specs.Prelude.{ℕ, ◌≡◌, refl, List, [], ◌∷◌, ◌++◌, map, length, take, drop, set}
use Rattle.wire.specs.Numbers.{number_at}
use Rattle.refusal.specs.declared.Refusal.TheVariants.{Cut, Kind, Place, Field, Order, Twin, Count, Tail}
use Rattle.snapshot.specs.Format.{Snapshot, judged, encode, distance}
use Rattle.snapshot.specs.Reading.{Answer, accepted, refused, either, open_routes, record_checks, prefix_record, route_record, end_record, item, items_within, items, distance_record, distances, router_record, routers, count_record, reading}

-- P5's 169 bytes
abbrev pub p5_bytes : List ℕ
p5_bytes =
    (1 ∷ 3 ∷ [])
    ++ (2 ∷ 0 ∷ 10 ∷ 0 ∷ 0 ∷ 1 ∷ [])
    ++ (2 ∷ 1 ∷ 10 ∷ 0 ∷ 0 ∷ 2 ∷ [])
    ++ (2 ∷ 2 ∷ 10 ∷ 0 ∷ 0 ∷ 3 ∷ [])
    ++ (3 ∷ 0 ∷ 1 ∷ 0 ∷ 0 ∷ 0 ∷ 4 ∷ [])
    ++ (3 ∷ 0 ∷ 2 ∷ 0 ∷ 0 ∷ 0 ∷ 5 ∷ [])
    ++ (3 ∷ 1 ∷ 0 ∷ 0 ∷ 0 ∷ 0 ∷ 4 ∷ [])
    ++ (3 ∷ 1 ∷ 2 ∷ 0 ∷ 0 ∷ 0 ∷ 9 ∷ [])
    ++ (3 ∷ 2 ∷ 0 ∷ 0 ∷ 0 ∷ 0 ∷ 5 ∷ [])
    ++ (3 ∷ 2 ∷ 1 ∷ 0 ∷ 0 ∷ 0 ∷ 9 ∷ [])
    ++ (4 ∷ 198 ∷ 51 ∷ 100 ∷ 0 ∷ 24 ∷ [])
    ++ (5 ∷ 0 ∷ 253 ∷ 233 ∷ 0 ∷ 0 ∷ 0 ∷ 100 ∷ 0 ∷ 2 ∷ 0 ∷ 1 ∷ 0 ∷ 0 ∷ 0 ∷ 0 ∷ 0 ∷ 0 ∷ 0 ∷ 2 ∷ 192 ∷ 0 ∷ 2 ∷ 1 ∷ [])
    ++ (5 ∷ 0 ∷ 253 ∷ 234 ∷ 0 ∷ 0 ∷ 0 ∷ 100 ∷ 0 ∷ 2 ∷ 0 ∷ 1 ∷ 0 ∷ 0 ∷ 0 ∷ 5 ∷ 0 ∷ 0 ∷ 0 ∷ 1 ∷ 192 ∷ 0 ∷ 2 ∷ 2 ∷ [])
    ++ (5 ∷ 1 ∷ 253 ∷ 234 ∷ 0 ∷ 0 ∷ 0 ∷ 100 ∷ 0 ∷ 2 ∷ 0 ∷ 1 ∷ 0 ∷ 0 ∷ 0 ∷ 0 ∷ 0 ∷ 0 ∷ 0 ∷ 2 ∷ 192 ∷ 0 ∷ 2 ∷ 5 ∷ [])
    ++ (5 ∷ 1 ∷ 253 ∷ 233 ∷ 0 ∷ 0 ∷ 0 ∷ 100 ∷ 0 ∷ 2 ∷ 0 ∷ 1 ∷ 0 ∷ 0 ∷ 0 ∷ 5 ∷ 0 ∷ 0 ∷ 0 ∷ 1 ∷ 192 ∷ 0 ∷ 2 ∷ 6 ∷ [])
    ++ (6 ∷ 0 ∷ 0 ∷ 0 ∷ 15 ∷ [])

-- P5
abbrev pub p5 : Snapshot
p5 = record {
  ids = 167772161 ∷ 167772162 ∷ 167772163 ∷ [];
  distances = 4 ∷ 5 ∷ 4 ∷ 9 ∷ 5 ∷ 9 ∷ [];
  prefixes = record {
    address = 3325256704;
    bits = 24;
    routes =
        record { router = 0; asn = 65001; preference = 100; path = 2; origin = 0; mark = 1; med = 0; nid = 2; peer = 3221225985 } ∷
        record { router = 0; asn = 65002; preference = 100; path = 2; origin = 0; mark = 1; med = 5; nid = 1; peer = 3221225986 } ∷
        record { router = 1; asn = 65002; preference = 100; path = 2; origin = 0; mark = 1; med = 0; nid = 2; peer = 3221225989 } ∷
        record { router = 1; asn = 65001; preference = 100; path = 2; origin = 0; mark = 1; med = 5; nid = 1; peer = 3221225990 } ∷ [];
  } ∷ [];
}

p5_length : length p5_bytes ≡ 169
p5_length = refl

p5_written : encode p5 ≡ p5_bytes
p5_written = refl

p5_distance : distance p5 2 1 ≡ 9
p5_distance = refl

-- P5 with the last route of another AS
abbrev pub p5_with : ℕ → Snapshot
p5_with asn = record {
  ids = p5.ids;
  distances = p5.distances;
  prefixes = record {
    address = 3325256704;
    bits = 24;
    routes =
        take 3 (open_routes p5.prefixes)
        ++ (record { router = 1; asn = asn; preference = 100; path = 2; origin = 0; mark = 1; med = 5; nid = 1; peer = 3221225990 } ∷ []);
  } ∷ [];
}

-- and its bytes, with those of the last route up to its AS
abbrev pub last_route : List ℕ → List ℕ
last_route front = take 140 p5_bytes ++ (front ++ drop 144 p5_bytes)

-- an input and its answer
pub record Case : Type 0 where
  pub input : List ℕ
  pub answer : Answer

-- P5 itself; nothing; a kind byte and no body; cut between records, and in a body; an unknown kind; known kinds out of place;
-- a distance too far; the wrong pair; a router id given twice; a prefix with an address bit beyond its length; a wrong count; a byte too many;
-- the last route of the AS that stands for many; of an AS of four bytes, in its form, and of one of two in that form
abbrev pub table : List Case
table =
    record { input = p5_bytes; answer = accepted p5 }
    ∷ record { input = []; answer = refused Cut 0 }
    ∷ record { input = (1 ∷ []); answer = refused Cut 0 }
    ∷ record { input = (take 164 p5_bytes); answer = refused Cut 164 }
    ∷ record { input = (take 163 p5_bytes); answer = refused Cut 140 }
    ∷ record { input = (set p5_bytes 20 8); answer = refused Kind 20 }
    ∷ record { input = (set p5_bytes 20 4); answer = refused Place 20 }
    ∷ record { input = (set p5_bytes 20 7); answer = refused Place 20 }
    ∷ record { input = (set p5_bytes 23 1); answer = refused Field 20 }
    ∷ record { input = (set p5_bytes 22 2); answer = refused Order 20 }
    ∷ record { input = (set p5_bytes 13 1); answer = refused Twin 8 }
    ∷ record { input = (set p5_bytes 66 1); answer = refused Field 62 }
    ∷ record { input = (set p5_bytes 168 14); answer = refused Count 164 }
    ∷ record { input = (p5_bytes ++ (0 ∷ [])); answer = refused Tail 169 }
    ∷ record { input = (set (set p5_bytes 142 91) 143 160); answer = refused Field 140 }
    ∷ record { input = last_route (7 ∷ 1 ∷ 0 ∷ 1 ∷ 0 ∷ 0 ∷ []); answer = accepted (p5_with 65536) }
    ∷ record { input = last_route (7 ∷ 1 ∷ 0 ∷ 0 ∷ 253 ∷ 233 ∷ []); answer = refused Field 140 }
    ∷ []

pub table_read : map (λ c. reading c.input) table ≡ map (λ c. c.answer) table
unfolding reading routers distances items items_within item judged either count_record router_record distance_record prefix_record route_record end_record record_checks number_at
table_read = refl
