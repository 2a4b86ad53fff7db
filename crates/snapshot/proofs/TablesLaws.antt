-- Laws of the lent tables: they have room exactly where none is shorter than its limit; and the routes of all prefixes.
use Rattle.std.specs.Prelude.{◌≡◌, refl, Bool, false, List, [], ◌∷◌, ◌++◌, T, length}
use Rattle.std.proofs.Common.{arith, sym, ap, ◌∙◌, append_assoc, length-append, ltb-false, le-ltb}
use Rattle.model.specs.Decision.{Route}
use Rattle.snapshot.specs.Ranges.{any_of, none}
use Rattle.snapshot.proofs.RangesLaws.{none_at, none_cons}
use Rattle.snapshot.specs.Tables.{Tables, prefix_tables, short, RoomPrefixes, Room, all_routes}
use Rattle.snapshot.specs.Lent.{zeros}
use Rattle.snapshot.specs.Format.{Prefix, routes_in}

-- where no table is shorter than its limit, each has its room
pub has_room : (t : Tables) → T (none (short t)) → Room t
has_room t enough =
    let each = none_at (short t) enough in
    record {
      ids = ltb-false _ _ (each 0);
      distances = ltb-false _ _ (each 1);
      prefixes = record {
        address = ltb-false _ _ (each 2);
        bits = ltb-false _ _ (each 3);
        routes = ltb-false _ _ (each 4);
        rows = record {
          router = ltb-false _ _ (each 5);
          asn = ltb-false _ _ (each 6);
          preference = ltb-false _ _ (each 7);
          path = ltb-false _ _ (each 8);
          origin = ltb-false _ _ (each 9);
          mark = ltb-false _ _ (each 10);
          med = ltb-false _ _ (each 11);
          nid = ltb-false _ _ (each 12);
          peer = ltb-false _ _ (each 13);
        };
      };
    }

-- no table of zeros is shorter than its limit
pub zeros_have_room : {t : Tables} → t ≡ zeros → any_of (short t) ≡ false
zeros_have_room e = ap (λ (t : Tables). any_of (short t)) e

abbrev AllFalse : List Bool → Type 0
AllFalse [] = Unit {0}
AllFalse (b ∷ bs) = (b ≡ false) × AllFalse bs

all_false : (bs : List Bool) → AllFalse bs → T (none bs)
all_false [] h = tt
all_false (b ∷ bs) h = none_cons bs h.0 (all_false bs h.1)

-- and the other way round
pub room_enough : (t : Tables) → Room t → T (none (short t))
room_enough t room =
    let p = room.prefixes in
    let r = p.rows in
    all_false (short t) (
      le-ltb _ _ room.ids,
      (
        le-ltb _ _ room.distances,
        (
          le-ltb _ _ p.address,
          (
            le-ltb _ _ p.bits,
            (
              le-ltb _ _ p.routes,
              (
                le-ltb _ _ r.router,
                (
                  le-ltb _ _ r.asn,
                  (
                    le-ltb _ _ r.preference,
                    (
                      le-ltb _ _ r.path,
                      (le-ltb _ _ r.origin, (le-ltb _ _ r.mark, (le-ltb _ _ r.med, (le-ltb _ _ r.nid, (le-ltb _ _ r.peer, tt))))),
                    ),
                  ),
                ),
              ),
            ),
          ),
        ),
      ),
    )

-- the tables of prefixes have their room alone
pub room_alone : {t : Tables} → RoomPrefixes t → RoomPrefixes (prefix_tables t.address t.bits t.routes t.rows)
room_alone room = record { address = room.address; bits = room.bits; routes = room.routes; rows = room.rows }

-- ---- the routes of all prefixes

pub length_all : (ps : List Prefix) → length (all_routes ps) ≡ routes_in ps
length_all [] = refl
length_all (p ∷ ps) = let e = length-append p.routes (all_routes ps) in let ih = length_all ps in omega arith

pub all_append : (ps qs : List Prefix) → all_routes (ps ++ qs) ≡ all_routes ps ++ all_routes qs
all_append [] qs = refl
all_append (p ∷ ps) qs = ap (λ (l : List Route). p.routes ++ l) (all_append ps qs) ∙ sym (append_assoc p.routes (all_routes ps) (all_routes qs))
