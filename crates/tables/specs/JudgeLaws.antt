-- Laws by which judging is proved: what a test that passed, or failed, says of the part that it judges.
use Rattle.std.specs.Prelude.{ℕ, zero, suc, ◌+◌, ◌-◌, ◌^◌, ◌≤◌, ◌<◌, ◌≡◌, refl, Bool, true, false, not, ◌||◌, Option, List, [], ◌∷◌, length, T, eqb, ltb}
use Rattle.std.proofs.Common.{zero-le, zero-add, arith, sym, ap, ◌∙◌, subst, true≢false, below_none, below_more, eq-eqb, ne_eqb, eqb-true, le-ltb, ltb-false, leb-false}
use Rattle.std.proofs.lemmas.Bool.{false≢true, eqb-false, not-true, not-false}
use denote.Param.Members.{Mut}
use Rattle.std.proofs.iter.Yields.{nat_range_steps}
use Rattle.std.proofs.lemmas.Iterator.{cases_from_all, YieldsList-from_range}
use Rattle.std.specs.Bool.{MatchBool}
use Rattle.std.specs.Fn.{Called}
use Rattle.std.specs.Iterator.{YieldsThen}
use Rattle.std.specs.Option.{MatchOption}
use Rattle.std.specs.declared.ops.Range.{Range}
use Rattle.std.specs.List.{FoldsTo, AllWithin, HoldsAt, range_with_len}
use Rattle.std.proofs.lemmas.List.FromFn.{length-range_with_len, get_or-range_with_len}
use Rattle.model.specs.Rows.{some, table, column, start}
use Rattle.model.specs.Decision.{Route}
use Rattle.model.proofs.RowLaws.{table_length, start_first, start_next, start_within, by, or_false, test_true}
use Rattle.snapshot.specs.declared.Counts.{Counts}
use Rattle.snapshot.specs.Limits.{most_routers, farthest, most_in_prefix, last_two_byte_asn, last_asn, longest_path, last_origin}
use Rattle.snapshot.specs.Ranges.{none, any_of, id_tests, prefix_tests, asn_tests, route_tests, rises, rises_route}
use Rattle.snapshot.proofs.RangesLaws.{none_any, none_at}
use Rattle.snapshot.specs.Records.{four_byte, route_form_by, route_forms, Fits}
use Rattle.snapshot.specs.Format.{GoodId, GoodRoute, Each, latest, route_fields}
use Rattle.snapshot.specs.Tables.{Columns, Tables}
use Rattle.snapshot.proofs.ChecksLaws.{count_range}
use Rattle.tables.specs.Judging.{route_at, routes_at, prefix_at, cell, late_at, CellGood, RouteGood, PrefixGood, Below, InRange, Totalled, Decides}
use Rattle.tables.specs.ListsLaws.{latest_table, each_below, below_each, none_table, table_none}
use Rattle.tables.specs.PartsLaws.{cell_zero, cell_range, cell_good}

-- ---- numbers below n, each judged

pub decides_not : {P : Type 0} → (P → ⊥) → Decides P false
decides_not f = record { yes = λ e. absurd (false≢true e); no = λ _. f }

-- what `all` answers of the numbers below n, where the closure decides of each
module _ {P : ℕ → Type 0} where
  decides_each : (n : ℕ) (answer : Bool) → MatchBool answer (AllWithin P (range_with_len 0 n) 0 (length (range_with_len 0 n))) ((k : ℕ) × (k < length (range_with_len 0 n)) × HoldsAt (λ k. P k → ⊥) (range_with_len 0 n) k)
      → Decides (Below n P) answer
  decides_each n true all = record {
    yes = λ _ k l. subst P (get_or-range_with_len 0 n k 0 l ∙ zero-add k) (all k 0 zero-le (omega (arith, length-range_with_len 0 n)));
    no = λ e. absurd (true≢false e);
  }
  decides_each n false one =
      decides_not (λ below. let l : one.0 < n = omega (arith, length-range_with_len 0 n, one.1) in one.2 0 (subst P (sym (get_or-range_with_len 0 n one.0 0 l ∙ zero-add one.0)) (below one.0 l)))

  pub all_decides : {F : Type 0} {g : Mut F (ℕ × Unit {0}) Bool} {f : F} {u : Range ℕ} (n : ℕ) {answer : Bool}
      → (xs : List ℕ) × (o : Option ℕ) × (j : F) × YieldsThen nat_range_steps (record { start = 0; end = n }) xs o u × FoldsTo (λ p x q. Called g p (x, tt) true q) f xs j × MatchOption o (answer ≡ true) (λ x. (answer ≡ false) × ((h : F) × Called g j (x, tt) false h))
      → ((k : ℕ) (q : F) → Called g f (k, tt) true q → (q ≡ f) × P k) → ((k : ℕ) (q : F) → Called g f (k, tt) false q → P k → ⊥)
      → Decides (Below n P) answer
  all_decides n {answer} ran on out =
      decides_each n answer (cases_from_all _ _ _ P (λ k. P k → ⊥) ran (YieldsList-from_range 0 n n refl (omega arith)) on out)

-- ---- tests

pub off : (b : Bool) → T (not b) → b ≡ false
off true t = absurd t
off false t = refl

off_yes : {b : Bool} → b ≡ false → T (not b)
off_yes e = subst (λ (b : Bool). T (not b)) (sym e) tt

-- a list of tests of which none holds
tests_good : {b : Bool} (bs : List Bool) → b ≡ any_of bs → b ≡ false → T (none bs)
tests_good bs e h = none_any bs (sym e ∙ h)

-- ---- counts

-- so many routers have room
pub few_routers : {counts : Counts} → InRange counts → counts.routers ≤ most_routers
few_routers {counts} range = (count_range counts.routers range.routers).1

-- ---- ids

module _ (before : List ℕ) (id : ℕ) {bad twin : Bool} (e : bad ≡ any_of (id_tests id)) (f : twin ≡ some (eqb id) before) where
  id_good : id < 256 ^ 4 → (bad || twin) ≡ false → GoodId before id
  id_good fits h =
      let (x, y) = or_false bad twin h in
      record { fits = fits; ranges = tests_good (id_tests id) e x; alone = off_yes (sym f ∙ y) }

  id_bad : (bad || twin) ≡ true → GoodId before id → ⊥
  id_bad h good =
      let x : bad ≡ false = e ∙ off (any_of (id_tests id)) good.ranges in
      let y : twin ≡ false = f ∙ off (some (eqb id) before) good.alone in
      false≢true (sym (rw (x, y)) ∙ h)

  pub id_decides : id < 256 ^ 4 → Decides (GoodId before id) (not (bad || twin))
  id_decides fits = record { yes = λ a. id_good fits (not-true (bad || twin) a); no = λ a. id_bad (not-false (bad || twin) a) }

-- ---- distances

-- a router's own cell that is not 0, and cells that are too far, decide of the distances from it
module _ {ds : List ℕ} {from n : ℕ} {own beyond : Bool} where
  pub row_decides : from < n → own ≡ not (eqb (cell ds from from) 0) → beyond ≡ some (ltb farthest) (table n (cell ds from))
      → Decides (Below n (CellGood ds from)) (not (own || beyond))
  row_decides l e f = record {
    yes = λ on to m.
        let (mine, near) = or_false own beyond (not-true (own || beyond) on) in
        let zero : cell ds from from ≡ 0 = eqb-true (cell ds from from) 0 (not-false (eqb (cell ds from from) 0) (sym e ∙ mine)) in
        record {
          ranges = cell_good from to (cell ds from to) (λ same. ap (cell ds from) (sym same) ∙ zero) (off_yes (table_none (ltb farthest) (cell ds from) n (sym f ∙ near) to m));
        };
    no = λ out good.
        let zero : cell ds from from ≡ 0 = cell_zero from from (cell ds from from) (good from l).ranges refl in
        let mine : own ≡ false = e ∙ ap not (eq-eqb (cell ds from from) 0 zero) in
        let near : beyond ≡ false = f ∙ none_table (ltb farthest) (cell ds from) n (λ to m. off (ltb farthest (cell ds from to)) (cell_range from to (cell ds from to) (good to m).ranges)) in
        true≢false (sym (rw (mine, near)) ∙ out);
  }

-- ---- rows that rise

-- whether the k-th of a table does not rise above the latest before it
late_is : {A : Type 0} (a b : ℕ → ℕ) (f : ℕ → A) (x y : A → ℕ) (first row k : ℕ) → row ≡ first + k → ((j : ℕ) → x (f j) ≡ a (first + j)) → ((j : ℕ) → y (f j) ≡ b (first + j))
    → late_at a b first row ≡ not (latest (λ q. rises (x q) (y q) (a row) (b row)) (table k f))
late_is a b f x y first row zero e ex ey = rw (eq-eqb first row (omega arith))
late_is a b f x y first row (suc j) e ex ey =
    let one : row - 1 ≡ first + j = omega arith in
    rw (ne_eqb first row (omega arith), latest_table f (λ q. rises (x q) (y q) (a row) (b row)) j, one, ex j, ey j)

not_off : {b : Bool} (c : Bool) → b ≡ not c → b ≡ false → T c
not_off c e h = subst T (sym (not-false c (sym e ∙ h))) tt

not_on : {b : Bool} (c : Bool) → b ≡ not c → T c → b ≡ false
not_on c e t = e ∙ ap not (test_true c t)

-- ---- routes

-- the fields of four bytes that any number of four bytes may stand in
pub record Words (r : Route) : Type 0 where
  pub preference : r.preference < 256 ^ 4
  pub med : r.med < 256 ^ 4
  pub nid : r.nid < 256 ^ 4
  pub peer : r.peer < 256 ^ 4

route_fits : (n : ℕ) (r : Route) → n ≤ most_routers → T (none (route_tests n r)) → Words r → Fits (route_forms.chosen (route_fields r)).widths (route_fields r)
route_fits n r h t w =
    let each = none_at (route_tests n r) t in
    let router = leb-false n r.router (each 0) in
    let asn = ltb-false last_asn r.asn (none_at (asn_tests r.asn) (none_any (asn_tests r.asn) (each 1)) 3) in
    let path = ltb-false longest_path r.path (each 3) in
    let origin = ltb-false last_origin r.origin (each 4) in
    let mark = ltb-false 1 r.mark (each 5) in
    let fits_by : (width : ℕ) → r.asn < 256 ^ width → Fits (1 ∷ width ∷ 4 ∷ 2 ∷ 1 ∷ 1 ∷ 4 ∷ 4 ∷ 4 ∷ []) (route_fields r) =
    λ width l. (omega arith, (l, (w.preference, (omega arith, (omega arith, (omega arith, (w.med, (w.nid, (w.peer, tt))))))))) in
    let in_form : (four : Bool) → Type 0 = λ four. Fits (route_form_by four).widths (route_fields r) in
    by (four_byte r.asn)
    (λ e. subst in_form (sym e) (fits_by 4 (omega arith)))
    (λ e. subst in_form (sym e) (fits_by 2 (omega (arith, ltb-false last_two_byte_asn r.asn e))))

module _ (n : ℕ) (c : Columns) (at k : ℕ) (r : Route) {bad late : Bool} (is : r ≡ route_at c (at + k)) (e : bad ≡ any_of (route_tests n r))
    (f : late ≡ late_at (column c.router) (column c.peer) at (at + k)) where
  abbrev rising : Bool
  rising = latest (λ q. rises_route q (route_at c (at + k))) (routes_at c at k)

  above : late ≡ not rising
  above =
      f ∙ late_is (column c.router) (column c.peer) (λ j. route_at c (at + j)) (λ q. q.router) (λ q. q.peer) at (at + k) k refl (λ j. refl) (λ j. refl)

  tested : bad ≡ any_of (route_tests n (route_at c (at + k)))
  tested = e ∙ ap (λ (r : Route). any_of (route_tests n r)) is

  route_good : n ≤ most_routers → Words (route_at c (at + k)) → (bad || late) ≡ false → RouteGood n c at k
  route_good few words h =
      let (x, y) = or_false bad late h in
      let ranges = tests_good (route_tests n (route_at c (at + k))) tested x in
      record { fits = route_fits n (route_at c (at + k)) few ranges words; obeys = (ranges, (not_off rising above y, tt)) }

  route_bad : (bad || late) ≡ true → RouteGood n c at k → ⊥
  route_bad h good =
      let x : bad ≡ false = tested ∙ off (any_of (route_tests n (route_at c (at + k)))) good.obeys.0 in
      let y : late ≡ false = not_on rising above good.obeys.1.0 in
      false≢true (sym (rw (x, y)) ∙ h)

  pub route_decides : n ≤ most_routers → Words (route_at c (at + k)) → Decides (RouteGood n c at k) (not (bad || late))
  route_decides few words = record { yes = λ a. route_good few words (not-true (bad || late) a); no = λ a. route_bad (not-false (bad || late) a) }

-- ---- prefixes

module _ (n : ℕ) (t : Tables) (p at : ℕ) {bad late : Bool} (here : at ≡ start t.routes p) (e : bad ≡ any_of (prefix_tests (column t.address p) (column t.bits p)))
    (f : late ≡ late_at (column t.address) (column t.bits) 0 p) where
  abbrev over : Bool
  over = ltb most_in_prefix (column t.routes p)

  abbrev climbing : Bool
  climbing = latest (λ q. rises q.address q.bits (column t.address p) (column t.bits p)) (table p (prefix_at t))

  climbs : late ≡ not climbing
  climbs =
      let zero_on : (j : ℕ) → j ≡ 0 + j = λ j. omega arith in
      f ∙ late_is (column t.address) (column t.bits) (prefix_at t) (λ q. q.address) (λ q. q.bits) 0 p p (zero_on p)
      (λ j. ap (column t.address) (zero_on j)) (λ j. ap (column t.bits) (zero_on j))

  long : length (prefix_at t p).routes ≡ column t.routes p
  long = table_length (column t.routes p) (λ k. route_at t.rows (start t.routes p + k))

  pub prefix_bad : (over || bad || late) ≡ true → PrefixGood n t p → ⊥
  prefix_bad h good =
      let m : length (prefix_at t p).routes ≤ most_in_prefix = good.most in
      let l = long in
      let o : over ≡ false = le-ltb most_in_prefix (column t.routes p) (omega arith) in
      let x : bad ≡ false = e ∙ off (any_of (prefix_tests (column t.address p) (column t.bits p))) good.obeys.0 in
      let y : late ≡ false = not_on climbing climbs good.obeys.1.0 in
      false≢true (sym (rw (o, x, y)) ∙ h)

  -- where the prefix passed, its routes decide
  pub prefix_good : {answer : Bool} → column t.address p < 256 ^ 4 → (over || bad || late) ≡ false
      → Decides (Below (column t.routes p) (RouteGood n t.rows at)) answer → Decides (PrefixGood n t p) answer
  prefix_good fits h judged =
      let (o, y) = or_false (over || bad) late h in
      let (z, x) = or_false over bad o in
      let m = ltb-false most_in_prefix (column t.routes p) z in
      let l = long in
      let route : ℕ → ℕ → Route = λ at k. route_at t.rows (at + k) in
      let count : ℕ = column t.routes p in
      record {
        yes = λ a. record {
          fits = fits;
          obeys = (tests_good (prefix_tests (column t.address p) (column t.bits p)) e x, (not_off climbing climbs y, tt));
          most = omega arith;
          routes = subst (λ (at : ℕ). Each (GoodRoute n) [] (table count (route at))) here (below_each (GoodRoute n) (route at) count (judged.yes a));
        };
        no = λ a good. judged.no a (each_below (GoodRoute n) (route at) count (subst (λ (at : ℕ). Each (GoodRoute n) [] (table count (route at))) (sym here) good.routes));
      }

-- those below p passed, and their routes end at `at`
pub record Counting (counts : Counts) (t : Tables) (p at : ℕ) : Type 0 where
  pub passed : Below p (PrefixGood counts.routers t)
  pub here : at ≡ start t.routes p
  pub within : at ≤ counts.routes

module _ {counts : Counts} {t : Tables} where
  pub counting : Counting counts t 0 0
  counting = record { passed = below_none (PrefixGood counts.routers t); here = sym (start_first t.routes); within = zero-le }

  module _ {p at : ℕ} (c : Counting counts t p at) where
    module _ (l : p < counts.prefixes) where
      pub counting_next : {next : ℕ} → next ≡ at + column t.routes p → next ≤ counts.routes → PrefixGood counts.routers t p → Counting counts t (p + 1) next
      counting_next e m good =
          let h = c.here in
          let s = start_next t.routes p in
          record { passed = below_more (PrefixGood counts.routers t) p c.passed good; here = omega arith; within = m }

      pub counting_over : counts.routes < at + column t.routes p → Decides (Totalled counts t) false
      counting_over m =
          let h = c.here in
          let s = start_within t.routes p counts.prefixes l in
          decides_not (λ total. let sum = total.1 in omega arith)

      pub counting_not : (PrefixGood counts.routers t p → ⊥) → Decides (Totalled counts t) false
      counting_not f = decides_not (λ total. f (total.0 p l))

    pub counting_end : p ≡ counts.prefixes → Decides (Totalled counts t) (eqb at counts.routes)
    counting_end e =
        let sum : at ≡ start t.routes counts.prefixes = c.here ∙ ap (start t.routes) e in
        record {
          yes = λ a. (subst (λ (n : ℕ). Below n (PrefixGood counts.routers t)) e c.passed, sym sum ∙ eqb-true at counts.routes a);
          no = λ a total. eqb-false at counts.routes a (sum ∙ total.1);
        }
