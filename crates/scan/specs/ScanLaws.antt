-- How the first pass goes on: one law for each turn of its loops and each way out of them.
use Prim.Native.Nat.{ℕ, suc, ◌+◌, ◌-◌, ◌≤◌, ◌<◌, zero-le}
use Rattle.std.proofs.Common.{add-one, sym, ◌∙◌, length-drop, leb→le, lt-ltb, le-ltb}
use Rattle.std.proofs.Math.Decide.{dec_le}
use native.Mathlib.Omega.{arith}
use Rattle.std.specs.Prelude.{◌≡◌, refl, ◌≢◌, Bool, cond, not, get_or, drop, T, leb, eqb, Result, Ok, Err}
use Rattle.std.proofs.Math.Path.{ap, subst}
use mathlib.Core.List.{List, [], ◌∷◌, ◌++◌}
use Rattle.std.proofs.Math.ListN.{length}
use Rattle.std.proofs.Math.Dec.{ltb→lt}
use Rattle.std.proofs.lemmas.Bool.Decides.{nat_tests}
use Rattle.refusal.specs.declared.Refused.{Refused}
use Rattle.refusal.specs.declared.Refusal.TheVariants.{Tail}
use Rattle.refusal.specs.Numbers.{Said, refuses, gives}
use Rattle.refusal.proofs.NumbersLaws.{same_refusal, gives_refuses}
use Rattle.model.proofs.RowLaws.{table_length, table_snoc}
use Rattle.model.specs.Decision as model
use Rattle.snapshot.specs.declared.Route.{Route}
use Rattle.snapshot.specs.Limits.{most_prefixes, most_in_prefix, most_routes}
use Rattle.snapshot.specs.Ranges.{rises, rises_route}
use Rattle.snapshot.specs.Plain.{route_is}
use Rattle.snapshot.specs.Records.{Form, forms, only, count_form, router_form, distance_form, prefix_form, route_form_by, route_forms, end_form, form_of, stands, size, values_at}
use Rattle.snapshot.specs.Format.{Snapshot, Prefix, Pair, pairs, row, rows, records, routes_in, latest, Check, Holds}
use Rattle.snapshot.specs.Reading.{Answer, accepted, refused, unless, prefix_extra, prefix_values, prefix_record, route_extra, route_values, route_record, end_record, open_routes, add_route, with_prefixes, prefix_of, route_of, tail, items, distance_record, distances, router_record, routers, count_record, reading}
use Rattle.snapshot.proofs.ChecksLaws.{judged_cases, passed, length_snoc, latest_snoc, routes_in_append, routes_in_add, length_add, some_prefix}
use Rattle.snapshot.proofs.PlaceLaws.{kind_at, reading_count, routers_one, routers_none, distances_one, distances_none, items_one_prefix, items_one_route, items_last, tail_none, tail_some}
use Rattle.snapshot.proofs.PairsLaws.{due_other}
use Rattle.cursor.specs.declared.Cursor.{Cursor}
use Rattle.cursor.specs.declared.Network.{Network}
use Rattle.cursor.specs.declared.Sofar.{Sofar}
use Rattle.cursor.specs.Steps.{refused_at, begin, after, due, id_at, router_place, ids_at, prefix_next, route_next, network_at, route_at, took, record_said, step_said, prefix_said, route_said, end_said, judged_at, ending, late_behind, Tells, nothing, more_prefix, more_route}
use Rattle.cursor.specs.StepsLaws.{prefix_told, route_told, route_says}
use Rattle.cursor.specs.Theorems.{step_tells, prefix_tells, route_tells, end_tells}
use Rattle.scan.specs.Theorems.{said_tells}
use Rattle.scan.specs.Scan.{said, said_of, told, counts_so_far, answered, Routers, Distances, Row, Items}
use Rattle.snapshot.proofs.ReturnsLaws.{open_last}
use Rattle.snapshot.specs.declared.Counts.{Counts}

-- ---- an answer and what it says

-- the code's answer to what reading answers says it
pub said_told : (a : Answer) → said (told a) ≡ said_of a
said_told (accepted s) = refl
said_told (refused r at) = refl

-- and it is the only one that does
pub said_is : {r : Result Counts Refused} (bs : List ℕ) → said r ≡ said_of (reading bs) → r ≡ told (reading bs)
said_is {r} bs e = said_tells r (told (reading bs)) (e ∙ sym (said_told (reading bs)))

-- a record's body lies within the input
within_body : (bs : List ℕ) (at : ℕ) (k : ℕ) → T (leb (suc k) (length (drop at bs))) → at + suc k ≤ length bs
within_body bs at k t = omega (arith, leb→le (suc k) (length (drop at bs)) t, length-drop at bs)

-- ---- what the answer to a record says: of any type, where its numbers tell it

module _ {A : Type 0} (says : A → List ℕ) (tells : (x y : Result (Cursor × A) Refused) → record_said says x ≡ record_said says y → x ≡ y)
    (checks : List Check) (at : ℕ) (next : Cursor) (a : A) (go : Unit {0} → Answer) where
  abbrev answer_of : Said
  answer_of = judged_at at checks (took next (says a))

  -- its refusal is reading's
  record_stop : {q : Refused} → record_said says (Err q) ≡ answer_of → unless checks at go ≡ refused q.refusal q.place
  record_stop {q} e =
      judged_cases checks (λ f. refuses f at) (λ _. took next (says a)) (λ r. refused r at) go (record_said says (Err q)) (sym e)
      (λ f d g. g ∙ same_refusal refused f q.refusal at q.place d)
      (λ h d g. absurd (gives_refuses q.refusal q.place _ d))

  -- and where it was taken its checks hold, the next cursor and the value are those of the record, and reading goes on
  record_taken : {c : Cursor} {v : A} → record_said says (Ok (c, v)) ≡ answer_of → Holds checks × (c ≡ next) × (v ≡ a) × (unless checks at go ≡ go tt)
  record_taken {c} {v} e =
      judged_cases checks (λ f. refuses f at) (λ _. took next (says a)) (λ r. refused r at) go (record_said says (Ok (c, v))) (sym e)
      (λ f d g. absurd (gives_refuses f at _ (sym d)))
      (λ h d g.
      let same = tells (Ok (c, v)) (Ok (next, a)) (sym d) in
      let pair : ◌≡◌ {A = Cursor × A} (c, v) (next, a) = cc in
      (h, ap (λ (t : Cursor × A). t.0) pair, ap (λ (t : Cursor × A). t.1) pair, g))

-- the fields of a route, as an answer has them
abbrev fields_of : Route → List ℕ
fields_of r = r.router ∷ r.asn ∷ r.preference ∷ r.path ∷ r.origin ∷ r.mark ∷ r.med ∷ r.nid ∷ r.peer ∷ []

-- ---- the number of routers

module _ (bs : List ℕ) where
  abbrev count_at : ℕ
  count_at = get_or (values_at count_form bs 0) 0 0

  abbrev count_said : Cursor → Result (Cursor × ℕ) Refused → Type 0
  count_said b x = step_said x ≡ judged_at b.at (count_record (drop b.at bs)) (took (after b count_form) (values_at count_form bs b.at))

  module _ {b : Cursor} (start : begin ≡ b) where
    pub count_stop : {q : Refused} → count_said b (Err q) → reading bs ≡ refused q.refusal q.place
    count_stop {q} e =
        reading_count bs
        ∙ record_stop (λ n. n ∷ []) step_tells (count_record bs) 0 (after begin count_form) count_at _ (subst (λ (b : Cursor). count_said b (Err q)) (sym start) e)

    pub count_next : {c : Cursor} {n : ℕ} → count_said b (Ok (c, n)) → Routers bs n c.at 0 c
    unfolding count_record
    count_next {c} {n} e =
        let (h, at, is, go) = record_taken (λ n. n ∷ []) step_tells (count_record bs) 0 (after begin count_form) count_at
        (λ _. routers count_at count_at [] (size count_form) (drop (size count_form) bs)) (subst (λ (b : Cursor). count_said b (Ok (c, n))) (sym start) e) in
        record {
          within = zero-le;
          place = omega arith;
          same = rw (at, is) (reading_count bs ∙ go ∙ ap (λ (m : ℕ). routers count_at m [] (size count_form) (drop (size count_form) bs)) (let z : count_at ≡ count_at - 0 = omega arith in z));
          records = rw at refl;
          low = rw at (omega arith);
        }

-- ---- the routers

module _ {bs : List ℕ} {n first i : ℕ} {c : Cursor} (s : Routers bs n first i c) where
  abbrev router_checks_at : List Check
  router_checks_at = router_record n (ids_at bs first i) (drop c.at bs)

  routers_now : i < n → reading bs ≡ unless router_checks_at c.at λ _.
      routers n (n - suc i) (ids_at bs first i ++ (id_at bs c.at ∷ [])) (c.at + size router_form) (drop (c.at + size router_form) bs)
  routers_now l =
      s.same ∙ ap (λ (m : ℕ). routers n m (ids_at bs first i) c.at (drop c.at bs)) (let z : n - i ≡ suc (n - suc i) = omega arith in z)
      ∙ routers_one bs c.at n (n - suc i) (ids_at bs first i)

  abbrev router_said : Result (Cursor × ℕ) Refused → Type 0
  router_said x = step_said x ≡ judged_at c.at router_checks_at (took (after c router_form) (id_at bs c.at ∷ []))

  pub routers_stop : {q : Refused} → i < n → router_said (Err q) → reading bs ≡ refused q.refusal q.place
  routers_stop l e = routers_now l ∙ record_stop (λ n. n ∷ []) step_tells router_checks_at c.at (after c router_form) (id_at bs c.at) _ e

  pub routers_next : {next : Cursor} {id : ℕ} → i < n → router_said (Ok (next, id)) → Routers bs n first (i + 1) next
  routers_next {next} {id} l e =
      let (h, at, is, go) = record_taken (λ n. n ∷ []) step_tells router_checks_at c.at (after c router_form) (id_at bs c.at)
      (λ _. routers n (n - suc i) (ids_at bs first i ++ (id_at bs c.at ∷ [])) (c.at + size router_form) (drop (c.at + size router_form) bs)) e in
      let more : ids_at bs first (i + 1) ≡ ids_at bs first i ++ (id_at bs c.at ∷ []) =
      ap (ids_at bs first) (add-one i) ∙ table_snoc (λ k. id_at bs (router_place first k)) i ∙ ap (λ (k : ℕ). ids_at bs first i ++ (id_at bs k ∷ [])) (sym s.place) in
      let left : n - (i + 1) ≡ n - suc i = omega arith in
      let here : c.at ≡ router_place first i = s.place in
      let count : c.records ≡ 1 + i = s.records in
      let below : c.records ≤ c.at = s.low in
      record {
        within = omega arith;
        place = rw at (omega arith);
        same = rw (at, more, left) (routers_now l ∙ go);
        records = rw at (omega arith);
        low = rw at (omega arith);
      }

  pub routers_end : n ≤ i → Distances bs n (pairs n) c
  routers_end l =
      let w : i ≤ n = s.within in
      let is : i ≡ n = omega arith in
      let long : length (ids_at bs first i) ≡ n = table_length i (λ k. id_at bs (router_place first k)) ∙ is in
      let count : c.records ≡ 1 + i = s.records in
      record {
        ids = ids_at bs first i;
        ds = [];
        long = long;
        same = s.same ∙ ap (λ (m : ℕ). routers n m (ids_at bs first i) c.at (drop c.at bs)) (let z : n - i ≡ 0 = omega arith in z)
            ∙ routers_none bs c.at n (ids_at bs first i) ∙ ap (λ (m : ℕ). distances (pairs m) (ids_at bs first i) [] c.at (drop c.at bs)) long;
        records = omega arith;
        low = s.low;
      }

-- ---- the distances

module _ {bs : List ℕ} {n : ℕ} {c : Cursor} (p : Pair) (more : List Pair) (s : Distances bs n (p ∷ more) c) where
  abbrev distance_checks_at : List Check
  distance_checks_at = distance_record n p (drop c.at bs)

  abbrev distance_at : ℕ
  distance_at = get_or (values_at distance_form bs c.at) 2 0

  distances_now : reading bs ≡ unless distance_checks_at c.at λ _.
      distances more s.ids (s.ds ++ (distance_at ∷ [])) (c.at + size distance_form) (drop (c.at + size distance_form) bs)
  distances_now =
      s.same ∙ distances_one bs c.at p more s.ids s.ds
      ∙ ap (λ (m : ℕ). unless (distance_record m p (drop c.at bs)) c.at λ _.
      distances more s.ids (s.ds ++ (distance_at ∷ [])) (c.at + size distance_form) (drop (c.at + size distance_form) bs)) s.long

  abbrev distance_said : Result (Cursor × ℕ) Refused → Type 0
  distance_said x = step_said x ≡ judged_at c.at distance_checks_at (took (after c distance_form) (distance_at ∷ []))

  distances_stop : {q : Refused} → distance_said (Err q) → reading bs ≡ refused q.refusal q.place
  distances_stop e = distances_now ∙ record_stop (λ n. n ∷ []) step_tells distance_checks_at c.at (after c distance_form) distance_at _ e

  distances_next : {next : Cursor} {d : ℕ} → distance_said (Ok (next, d)) → Distances bs n more next
  distances_next {next} {d} e =
      let (h, at, is, go) = record_taken (λ n. n ∷ []) step_tells distance_checks_at c.at (after c distance_form) distance_at
      (λ _. distances more s.ids (s.ds ++ (distance_at ∷ [])) (c.at + size distance_form) (drop (c.at + size distance_form) bs)) e in
      let count : c.records ≡ 1 + n + length s.ds = s.records in
      let below : c.records ≤ c.at = s.low in
      let one = length_snoc s.ds distance_at in
      record {
        ids = s.ids;
        ds = s.ds ++ (distance_at ∷ []);
        long = s.long;
        same = rw at (distances_now ∙ go);
        records = rw at (omega arith);
        low = rw at (omega arith);
      }

module _ {bs : List ℕ} {n : ℕ} {c : Cursor} where
  due_is : {xs ys : List Pair} → xs ≡ ys → Distances bs n xs c → Distances bs n ys c
  due_is e s = subst (λ (l : List Pair). Distances bs n l c) e s

  module _ {from to : ℕ} (s : Row bs n from to c) where
    abbrev others : List Pair
    others = rows n (suc from) (n - suc from)

    row_due : to < n → (from ≡ to → ⊥) → Distances bs n (due from to ∷ (row from (suc to) (n - suc to) ++ others)) c
    row_due l e = due_is (ap (λ (l : List Pair). l ++ others) (due_other n from to l e)) s.left

    abbrev due_said : Result (Cursor × ℕ) Refused → Type 0
    due_said x = step_said x
        ≡ judged_at c.at (distance_record n (due from to) (drop c.at bs)) (took (after c distance_form) (get_or (values_at distance_form bs c.at) 2 0 ∷ []))

    pub row_stop : {q : Refused} → to < n → (from ≡ to → ⊥) → due_said (Err q) → reading bs ≡ refused q.refusal q.place
    row_stop l e d = distances_stop (due from to) (row from (suc to) (n - suc to) ++ others) (row_due l e) d

    pub row_next : {next : Cursor} {d : ℕ} → to < n → (from ≡ to → ⊥) → due_said (Ok (next, d)) → Row bs n from (to + 1) next
    row_next {next} {d} l e is = record {
      known = s.known;
      within = omega arith;
      left = subst (λ (t : ℕ). Distances bs n (row from t (n - t) ++ others) next) (sym (add-one to))
          (distances_next (due from to) (row from (suc to) (n - suc to) ++ others) (row_due l e) is);
    }

-- ---- what is known of the prefixes and routes read so far

-- where there is one before, it is late where it does not rise
late_some : (m a b x y : ℕ) → not (late_behind (m + 1) a b x y) ≡ rises a b x y
late_some m a b x y = grind (arith, nat_tests)

open_add : (p : Prefix) (ps : List Prefix) (r : model.Route) → open_routes (add_route (p ∷ ps) r) ≡ open_routes (p ∷ ps) ++ (r ∷ [])
open_add p [] r = refl
open_add p (q ∷ []) r = refl
open_add p (q ∷ x ∷ ps) r = open_add q (x ∷ ps) r

latest_add : (a b : ℕ) (p : Prefix) (ps : List Prefix) (r : model.Route)
    → latest (λ p. rises p.address p.bits a b) (add_route (p ∷ ps) r) ≡ latest (λ p. rises p.address p.bits a b) (p ∷ ps)
latest_add a b p [] r = refl
latest_add a b p (q ∷ []) r = refl
latest_add a b p (q ∷ x ∷ ps) r = latest_add a b q (x ∷ ps) r

tells_nothing : (ids ds : List ℕ) → Tells (record { ids = ids; distances = ds; prefixes = [] }) (nothing (length ids))
tells_nothing ids ds = record { routers = refl; prefixes = refl; routes = refl; inside = refl; above = λ a b. refl; beyond = λ r. refl }

module _ {s : Snapshot} {k : Sofar} (t : Tells s k) where
  tells_prefix : (p : Network) → Tells (with_prefixes s (s.prefixes ++ (record { address = p.address; bits = p.bits; routes = [] } ∷ []))) (more_prefix k p)
  tells_prefix p =
      let q : Prefix = record { address = p.address; bits = p.bits; routes = [] } in
      let ps : List Prefix = s.prefixes in
      let one = length_snoc ps q in
      let count : k.prefixes ≡ length ps = t.prefixes in
      let none : open_routes (ps ++ (q ∷ [])) ≡ [] = open_last ps q in
      let sum = routes_in_append ps (q ∷ []) in
      let routes : k.routes ≡ routes_in ps = t.routes in
      record {
        routers = t.routers;
        prefixes = omega arith;
        routes = omega arith;
        inside = ap length (sym none);
        above = λ a b. latest_snoc (λ p. rises p.address p.bits a b) ps q ∙ sym (late_some k.prefixes p.address p.bits a b);
        beyond = λ r. ap (latest (λ q. rises_route q r)) none;
      }

  tells_route : (r : Route) → T (not (eqb (length s.prefixes) 0)) → Tells (with_prefixes s (add_route s.prefixes (route_is r))) (more_route k r)
  tells_route r some =
      let ps : List Prefix = s.prefixes in
      let q : model.Route = route_is r in
      let size : length (add_route ps q) ≡ length ps = some_prefix (λ ps. length (add_route ps q) ≡ length ps) (λ p ps. length_add p ps q) ps some in
      let more : routes_in (add_route ps q) ≡ suc (routes_in ps) = some_prefix (λ ps. routes_in (add_route ps q) ≡ suc (routes_in ps)) (λ p ps. routes_in_add p ps q) ps some in
      let opens : open_routes (add_route ps q) ≡ open_routes ps ++ (q ∷ []) = some_prefix (λ ps. open_routes (add_route ps q) ≡ open_routes ps ++ (q ∷ [])) (λ p ps. open_add p ps q) ps some in
      let one : length (open_routes (add_route ps q)) ≡ suc (length (open_routes ps)) = ap length opens ∙ length_snoc (open_routes ps) q in
      let count : k.prefixes ≡ length ps = t.prefixes in
      let routes : k.routes ≡ routes_in ps = t.routes in
      let inside : k.inside ≡ length (open_routes ps) = t.inside in
      record {
        routers = t.routers;
        prefixes = omega arith;
        routes = omega arith;
        inside = omega arith;
        above = λ a b. some_prefix
            (λ ps. latest (λ p. rises p.address p.bits a b) (add_route ps q) ≡ latest (λ p. rises p.address p.bits a b) ps)
            (λ p ps. latest_add a b p ps q) ps some ∙ t.above a b;
        beyond = λ x. ap (latest (λ q. rises_route q x)) opens ∙ latest_snoc (λ q. rises_route q x) (open_routes ps) q
            ∙ sym (late_some k.inside r.router r.peer x.router x.peer);
      }

-- ---- the items

pub items_start : {bs : List ℕ} {n : ℕ} {c : Cursor} → Distances bs n [] c → Items bs c (nothing n)
items_start {bs} {n} {c} s =
    let long : length s.ids ≡ n = s.long in
    let count : c.records ≡ 1 + n + length s.ds = s.records in
    record {
      s = record { ids = s.ids; distances = s.ds; prefixes = [] };
      same = s.same ∙ distances_none bs c.at s.ids s.ds;
      tells = subst (λ (m : ℕ). Tells (record { ids = s.ids; distances = s.ds; prefixes = [] }) (nothing m)) long (tells_nothing s.ids s.ds);
      count = omega arith;
      low = s.low;
    }

module _ {bs : List ℕ} {c : Cursor} {k : Sofar} (i : Items bs c k) where
  abbrev at : ℕ
  at = c.at

  -- ---- a prefix
  module _ (is : get_or bs c.at 0 ≡ 4) where
    abbrev prefixed : Snapshot
    prefixed = with_prefixes i.s (i.s.prefixes ++ (prefix_of (values_at prefix_form bs at) ∷ []))

    abbrev prefix_is : Result (Cursor × Network) Refused → Type 0
    prefix_is x = prefix_said x ≡ judged_at at (prefix_next k (drop at bs)) (took (after c prefix_form) (values_at prefix_form bs at))

    prefix_read : (x : Result (Cursor × Network) Refused) → prefix_is x
        → prefix_said x ≡ judged_at at (prefix_record i.s (drop at bs)) (took (after c prefix_form) (values_at prefix_form bs at))
    prefix_read x e = e ∙ sym (ap (λ (l : List Check). judged_at at l (took (after c prefix_form) (values_at prefix_form bs at))) (prefix_told i.tells (drop at bs)))

    pub prefix_stop : {q : Refused} → prefix_is (Err q) → reading bs ≡ refused q.refusal q.place
    prefix_stop {q} e =
        i.same ∙ items_one_prefix bs at i.s is
        ∙ record_stop (λ p. p.address ∷ p.bits ∷ []) prefix_tells (prefix_record i.s (drop at bs)) at (after c prefix_form) (network_at bs at) _ (prefix_read (Err q) e)

    pub prefix_next_lem : {next : Cursor} {p : Network} → prefix_is (Ok (next, p))
        → (k.prefixes < most_prefixes) × Items bs next (more_prefix k p) × (c.at < next.at) × (next.at ≤ length bs)
    unfolding prefix_record
    prefix_next_lem {next} {p} e =
        let (hold, to, its, h) = record_taken (λ p. p.address ∷ p.bits ∷ []) prefix_tells (prefix_record i.s (drop at bs)) at (after c prefix_form) (network_at bs at)
        (λ _. items prefixed (at + size prefix_form) (drop (at + size prefix_form) bs)) (prefix_read (Ok (next, p)) e) in
        let q = passed forms (only prefix_form) (prefix_extra i.s) (prefix_values i.s) (drop at bs) hold in
        let few : length i.s.prefixes < most_prefixes = ltb→lt _ _ q.free.0 in
        let count : k.prefixes ≡ length i.s.prefixes = i.tells.prefixes in
        let ps = i.s.prefixes in
        let one = length_snoc ps (prefix_of (values_at prefix_form bs at)) in
        let sum = routes_in_append ps (prefix_of (values_at prefix_form bs at) ∷ []) in
        let number : c.records ≡ records i.s = i.count in
        let low : c.records ≤ c.at = i.low in
        let inside = within_body bs at _ q.whole in (
          omega arith,
          subst (λ (c : Cursor). Items bs c (more_prefix k p)) (sym to)
              (subst (λ (p : Network). Items bs (after c prefix_form) (more_prefix k p)) (sym its)
              (record {
                s = prefixed;
                same = i.same ∙ items_one_prefix bs at i.s is ∙ h;
                tells = tells_prefix i.tells (network_at bs at);
                count = omega arith;
                low = omega arith;
              })),
          subst (λ (n : Cursor). c.at < n.at) (sym to) (omega arith),
          subst (λ (n : Cursor). n.at ≤ length bs) (sym to) inside,
        )

  -- ---- a route
  module _ (is : T (stands route_forms (get_or bs c.at 0))) where
    abbrev four : Bool
    four = eqb (get_or bs at 0) 7

    abbrev form : Form
    form = route_form_by four

    abbrev routed : Snapshot
    routed = with_prefixes i.s (add_route i.s.prefixes (route_of (values_at form bs at)))

    abbrev route_is_said : Result (Cursor × Route) Refused → Type 0
    route_is_said x = route_said x ≡ judged_at at (route_next k (drop at bs)) (took (after c form) (values_at form bs at))

    route_read : (x : Result (Cursor × Route) Refused) → route_is_said x
        → route_said x ≡ judged_at at (route_record i.s (drop at bs)) (route_said (Ok (after c form, route_at bs at four)))
    route_read x e =
        e
        ∙ sym (ap (λ (l : List Check). judged_at at l (took (after c form) (values_at form bs at))) (route_told i.tells (drop at bs)))
        ∙ sym (ap (judged_at at (route_record i.s (drop at bs))) (route_says (after c form) bs at four))

    pub route_stop : {q : Refused} → route_is_said (Err q) → reading bs ≡ refused q.refusal q.place
    route_stop {q} e =
        i.same ∙ items_one_route bs at i.s is
        ∙ record_stop fields_of route_tells (route_record i.s (drop at bs)) at (after c form) (route_at bs at four) _ (route_read (Err q) e)

    pub route_next_lem : {next : Cursor} {r : Route} → route_is_said (Ok (next, r))
        → (k.routes < most_routes) × (k.inside < most_in_prefix) × Items bs next (more_route k r) × (c.at < next.at) × (next.at ≤ length bs)
    unfolding route_record
    route_next_lem {next} {r} e =
        let (hold, to, its, h) = record_taken fields_of route_tells (route_record i.s (drop at bs)) at (after c form) (route_at bs at four)
        (λ _. items routed (at + size form) (drop (at + size form) bs)) (route_read (Ok (next, r)) e) in
        let q = passed forms route_forms (route_extra i.s) (route_values i.s) (drop at bs) hold in
        let ps = i.s.prefixes in
        let some = q.free.0 in
        let few : length (open_routes ps) < most_in_prefix = ltb→lt _ _ q.free.1.0 in
        let all : routes_in ps < most_routes = ltb→lt _ _ q.free.1.1.0 in
        let inside : k.inside ≡ length (open_routes ps) = i.tells.inside in
        let routes : k.routes ≡ routes_in ps = i.tells.routes in
        let v : model.Route = route_of (values_at form bs at) in
        let same_length : length (add_route ps v) ≡ length ps = some_prefix (λ ps. length (add_route ps v) ≡ length ps) (λ p ps. length_add p ps v) ps some in
        let more : routes_in (add_route ps v) ≡ suc (routes_in ps) = some_prefix (λ ps. routes_in (add_route ps v) ≡ suc (routes_in ps)) (λ p ps. routes_in_add p ps v) ps some in
        let number : c.records ≡ records i.s = i.count in
        let low : c.records ≤ c.at = i.low in
        let body : at + size form ≤ length bs = subst (λ (k : ℕ). at + size (form_of route_forms k) ≤ length bs) (kind_at bs at) (within_body bs at _ q.whole) in (
          omega arith,
          omega arith,
          subst (λ (c : Cursor). Items bs c (more_route k r)) (sym to)
              (subst (λ (r : Route). Items bs (after c form) (more_route k r)) (sym its)
              (record {
                s = routed;
                same = i.same ∙ items_one_route bs at i.s is ∙ h;
                tells = tells_route i.tells (route_at bs at four) some;
                count = omega arith;
                low = omega arith;
              })),
          subst (λ (n : Cursor). c.at < n.at) (sym to) (omega arith),
          subst (λ (n : Cursor). n.at ≤ length bs) (sym to) body,
        )

  -- ---- the end
  module _ (no4 : get_or bs c.at 0 ≢ 4) (other : T (not (stands route_forms (get_or bs c.at 0)))) where
    abbrev end_step_of : Said
    end_step_of = judged_at at (end_record forms c.records (drop at bs)) (ending bs (at + 5))

    last : reading bs ≡ unless (end_record forms c.records (drop at bs)) at λ _. tail i.s (at + size end_form) (drop (at + size end_form) bs)
    last =
        i.same ∙ items_last bs at i.s no4 other
        ∙ ap (λ (n : ℕ). unless (end_record forms n (drop at bs)) at λ _. tail i.s (at + size end_form) (drop (at + size end_form) bs)) (sym i.count)

    counts_told : Ok (counts_so_far k) ≡ told (accepted i.s)
    counts_told =
        let a : k.routers ≡ length i.s.ids = i.tells.routers in
        let b : k.prefixes ≡ length i.s.prefixes = i.tells.prefixes in
        let d : k.routes ≡ routes_in i.s.prefixes = i.tells.routes in
        rw (a, b, d)

    module _ (x : Result (Unit {0}) Refused) where
      tail_answer : Dec (at + 5 < length bs) → ending bs (at + 5) ≡ end_said x → answered k x ≡ told (tail i.s (at + 5) (drop (at + 5) bs))
      tail_answer (yes h) d =
          ap (answered k) (end_tells x (Err (refused_at (at + 5) Tail)) (sym d ∙ ap (λ (b : Bool). cond b (refuses Tail (at + 5)) (gives [])) (lt-ltb (at + 5) (length bs) h)))
          ∙ sym (ap told (tail_some bs (at + 5) i.s h))
      tail_answer (no h) d =
          ap (answered k) (end_tells x (Ok tt) (sym d ∙ ap (λ (b : Bool). cond b (refuses Tail (at + 5)) (gives [])) (le-ltb (at + 5) (length bs) (omega arith))))
          ∙ counts_told ∙ sym (ap told (tail_none bs (at + 5) i.s (omega arith)))

      pub end_answer : end_said x ≡ end_step_of → answered k x ≡ told (reading bs)
      end_answer e =
          judged_cases (end_record forms c.records (drop at bs)) (λ f. refuses f at) (λ _. ending bs (at + 5))
          (λ r. refused r at) (λ _. tail i.s (at + size end_form) (drop (at + size end_form) bs)) (end_said x) (sym e)
          (λ r d h. ap (answered k) (end_tells x (Err (refused_at at r)) (sym d)) ∙ sym (ap told (last ∙ h)))
          (λ p d h. tail_answer (dec_le (suc (at + 5)) (length bs)) d ∙ sym (ap told (last ∙ h)))
