-- What the cursor's methods rest on: a record is judged by its opening, then by its values.
use Prim.Native.Nat.{ℕ, zero, suc, ◌+◌, ◌/◌, ◌^◌, ◌<◌}
use Rattle.std.proofs.Common.{add-one, div-one, arith, ◌∙◌, subst, ltb→lt, eqb→eq, lit≤}
use Rattle.std.specs.Prelude.{◌≡◌, Bool, cond, not, ◌||◌, length, get_or, drop, leb, ltb, eqb, map, Result, Ok, Err}
use Rattle.std.proofs.Math.Path.{refl, sym, ap, ap₂, fun_ext}
use Rattle.std.proofs.Math.Bool.{true, false}
use mathlib.Core.List.{List, [], ◌∷◌, ◌++◌}
use Rattle.std.proofs.lemmas.Bool.Decides.{nat_tests}
use Rattle.wire.specs.Numbers.{number_at}
use Rattle.wire.specs.NumbersLaws.{number_2, number_4}
use Rattle.refusal.specs.declared.Refusal.{Refusal}
use Rattle.refusal.specs.declared.Refusal.TheVariants.{Cut, Kind, Place, Full, Field, Order, Twin}
use Rattle.refusal.specs.declared.Refused.{Refused}
use Rattle.snapshot.specs.Limits.{most_prefixes, most_in_prefix, most_routes}
use Rattle.model.specs.Rows.{some, span}
use Rattle.std.specs.List.{list_any, range_with_len}
use Rattle.model.proofs.RowLaws.{table_length}
use Rattle.snapshot.specs.Plain.{route_is}
use Rattle.snapshot.specs.Ranges.{none, router_tests, prefix_tests, route_tests}
use Rattle.snapshot.specs.Records.{Form, Forms, forms, of_kind, only, sum, size, known, count_form, router_form, distance_form, prefix_form, route_form_by, route_forms, end_form, form_at, values_at}
use Rattle.snapshot.proofs.RecordsLaws.{of_routes}
use Rattle.refusal.specs.Numbers.{Said, refuses}
use Rattle.snapshot.specs.Format.{Snapshot, Check, ◌else◌, judged, Holds, count_checks, distance_checks, end_checks}
use Rattle.snapshot.specs.Reading.{count_values, count_record, router_values, router_record, distance_values, distance_record, record_checks, prefix_room, prefix_record, route_room, route_extra, route_record, route_of, end_values, end_record}
use Rattle.snapshot.proofs.ChecksLaws.{judged_append, judged_front}
use Rattle.snapshot.proofs.PlaceLaws.{record_at}
use Rattle.cursor.specs.declared.Cursor.{Cursor}
use Rattle.cursor.specs.declared.Sofar.{Sofar}
use Rattle.cursor.specs.Steps.{refused_at, finding, body_of, body_length, opening_checks, body_checks, opening_by, end_by, prefix_next, route_next, bits_behind, route_at, Tells, took, route_said, judged_at, id_at, given_before, router_place, ids_at, due, prefix_faults, route_faults, route_faults_in}

-- ---- findings

-- what is done on a finding
abbrev pub on_finding : {A : Type 0} → (Refused → A) → (Unit {0} → A) → Result (Unit {0}) Refused → A
on_finding stop go (Ok u) = go u
on_finding stop go (Err e) = stop e

module _ (at : ℕ) where
  pub finding_holds : (checks : List Check) → Ok tt ≡ finding at checks → Holds checks
  finding_holds [] e = tt
  finding_holds ((true else r) ∷ checks) e = (tt, finding_holds checks e)
  finding_holds ((false else r) ∷ checks) e = absurd cc

  pub holds_finding : (checks : List Check) → Holds checks → Ok tt ≡ finding at checks
  holds_finding [] h = refl
  holds_finding ((true else r) ∷ checks) h = holds_finding checks h.1
  holds_finding ((false else r) ∷ checks) h = absurd h.0

  pub judged_finding : {A : Type 0} (checks : List Check) (stop : Refused → A) (go : Unit {0} → A)
      → judged checks (λ r. stop (refused_at at r)) go ≡ on_finding stop go (finding at checks)
  unfolding judged
  judged_finding [] stop go = refl
  judged_finding ((true else r) ∷ checks) stop go = judged_finding checks stop go
  judged_finding ((false else r) ∷ checks) stop go = refl

-- a record that opened has its body
pub opened : (table : List Form) (bs : List ℕ) (at due : ℕ) (astray full : Bool) → Ok tt ≡ finding at (opening_checks table bs at due astray full)
    → at + body_length table due < length bs
opened table bs at due astray full e =
    let h : Holds (opening_checks table bs at due astray full) = finding_holds at (opening_checks table bs at due astray full) e in
    subst (λ (k : ℕ). at + body_length table k < length bs) (eqb→eq (get_or bs at 0) due h.1.1.0) (ltb→lt _ _ h.1.1.1.1.1.0)

-- a kind that has a body is known
module _ (k : ℕ) where
  abbrev body_in : List Form → Result ℕ Refusal
  body_in fs = of_kind fs k (λ f. Ok (sum f.widths)) (Err Kind)

  body_known : (fs : List Form) (n : ℕ) → Ok n ≡ body_in fs
      → (of_kind fs k (λ f. true) false ≡ true) × (of_kind fs k (λ f. sum f.widths) 0 ≡ n)
  body_known [] n e = absurd cc
  body_known (f ∷ fs) n e = go (eqb k f.kind) e (body_known fs n)
    where
      go : (b : Bool) → Ok n ≡ cond b (Ok (sum f.widths)) (body_in fs)
          → (Ok n ≡ body_in fs → (of_kind fs k (λ f. true) false ≡ true) × (of_kind fs k (λ f. sum f.widths) 0 ≡ n))
          → (cond b true (of_kind fs k (λ f. true) false) ≡ true) × (cond b (sum f.widths) (of_kind fs k (λ f. sum f.widths) 0) ≡ n)
      go true e ih = (refl, let d : n ≡ sum f.widths = cc in sym d)
      go false e ih = ih e

  -- and one that is refused is not, and is refused as KIND
  body_unknown : (fs : List Form) (r : Refusal) → Err r ≡ body_in fs → (of_kind fs k (λ f. true) false ≡ false) × (r ≡ Kind)
  body_unknown [] r e = (refl, cc)
  body_unknown (f ∷ fs) r e = go (eqb k f.kind) e (body_unknown fs r)
    where
      go : (b : Bool) → Err r ≡ cond b (Ok (sum f.widths)) (body_in fs)
          → (Err r ≡ body_in fs → (of_kind fs k (λ f. true) false ≡ false) × (r ≡ Kind))
          → (cond b true (of_kind fs k (λ f. true) false) ≡ false) × (r ≡ Kind)
      go true e ih = absurd cc
      go false e ih = ih e

module _ (bs : List ℕ) (at due : ℕ) (astray full : Bool) where
  -- the opening by the body that a table gives is the opening by the table
  pub opening_table : (table : List Form) (body : Result ℕ Refusal) → body ≡ body_of table (get_or bs at 0)
      → finding at (opening_by body bs at due astray full) ≡ finding at (opening_checks table bs at due astray full)
  opening_table table (Err r) e =
      let (unknown, is) = body_unknown (get_or bs at 0) table r e in
      let rest : Result (Unit {0}) Refused = finding at (body_checks (Ok (body_length table (get_or bs at 0))) bs at due astray full) in
      ap₂ (λ (b : Bool) (r : Refusal). cond (ltb at (length bs)) (cond b rest (Err (refused_at at r))) (Err (refused_at at Cut))) (sym unknown) is
  opening_table table (Ok n) e =
      let (some, is) = body_known (get_or bs at 0) table n e in
      ap₂ (λ (b : Bool) (n : ℕ). finding at ((ltb at (length bs) else Cut) ∷ (b else Kind) ∷ body_checks (Ok n) bs at due astray full)) (sym some) (sym is)

  -- a record that opened has the body that is given for its kind
  pub opened_by : (body : Result ℕ Refusal) (n : ℕ) → (get_or bs at 0 ≡ due → body ≡ Ok n) → Ok tt ≡ finding at (opening_by body bs at due astray full)
      → at + n < length bs
  opened_by (Err r) n is e = absurd (finding_holds at (opening_by (Err r) bs at due astray full) e).1.0
  opened_by (Ok m) n is e =
      let h : Holds (opening_by (Ok m) bs at due astray full) = finding_holds at (opening_by (Ok m) bs at due astray full) e in
      let same : ◌≡◌ {A = Result ℕ Refusal} (Ok m) (Ok n) = is (eqb→eq (get_or bs at 0) due h.1.0) in
      subst (λ (n : ℕ). at + n < length bs) (let d : m ≡ n = cc in d) (ltb→lt _ _ h.1.1.1.1.0)

lt_as_le : (a b n : ℕ) → leb (a + suc b) n ≡ ltb (a + b) n
lt_as_le a b n = grind (arith, nat_tests)

-- PLACE and FULL as the code has them: two tests
abbrev pub extra_checks : Bool → Bool → List Check
extra_checks astray full = (not astray else Place) ∷ (not full else Full) ∷ []

module _ {A : Type 0} (table : List Form) (bs : List ℕ) (at : ℕ) (fs : Forms) (extra : List Check) (astray full : Bool) (checks : List ℕ → List Check)
    (stop : Refused → A) (go : Unit {0} → A) (long : body_length table (form_at fs bs at).kind ≡ sum (form_at fs bs at).widths)
    (same : (go : Unit {0} → A) → judged extra (λ r. stop (refused_at at r)) go ≡ judged (extra_checks astray full) (λ r. stop (refused_at at r)) go) where
  abbrev f : Form
  f = form_at fs bs at

  abbrev front : List Check
  front = (ltb at (length bs) else Cut) ∷ (known table (get_or bs at 0) else Kind) ∷ (eqb (get_or bs at 0) f.kind else Place) ∷ []

  -- the checks of its values: that they choose its form, and its own
  abbrev body : List Check
  body = (eqb f.kind (fs.chosen (values_at f bs at)).kind else Field) ∷ checks (values_at f bs at)

  abbrev refuse : Refusal → A
  refuse r = stop (refused_at at r)

  abbrev judgement : A
  judgement = judged (record_checks table fs extra checks (drop at bs)) refuse go

  -- a record's judgement: its opening, then its values
  pub record_found : judgement ≡ on_finding stop (λ _. on_finding stop go (finding at body)) (finding at (opening_checks table bs at f.kind astray full))
  record_found =
      ap (λ (c : List Check). judged c refuse go) (record_at bs table fs extra checks at)
      ∙ judged_front front (extra ++ ((leb (at + size f) (length bs) else Cut) ∷ body)) (extra_checks astray full ++ ((ltb (at + body_length table (get_or bs at 0)) (length bs) else Cut) ∷ body)) refuse go go
      (λ h. judged_append extra _ refuse go ∙ same _ ∙ sym (judged_append (extra_checks astray full) _ refuse go)
      ∙ ap (λ (b : Bool). judged (extra_checks astray full ++ ((b else Cut) ∷ body)) refuse go)
      (lt_as_le at (sum f.widths) (length bs)
      ∙ ap (λ (n : ℕ). ltb (at + n) (length bs)) (sym long ∙ ap (body_length table) (sym (eqb→eq (get_or bs at 0) f.kind h.1.1.0)))))
      ∙ judged_append (opening_checks table bs at f.kind astray full) body refuse go
      ∙ judged_finding at (opening_checks table bs at f.kind astray full) stop (λ _. judged body refuse go)
      ∙ ap (λ (x : A). on_finding stop (λ _. x) (finding at (opening_checks table bs at f.kind astray full))) (judged_finding at body stop go)

-- no check of PLACE or FULL
pub no_extra : {A : Type 0} (stop : Refusal → A) (go : Unit {0} → A) → judged [] stop go ≡ judged (extra_checks false false) stop go
unfolding judged
no_extra stop go = refl

-- the end record, by the body that a table gives for the kind that stands there
module _ {A : Type 0} (body : Result ℕ Refusal) (records : ℕ) (bs : List ℕ) (at : ℕ) (stop : Refused → A) (go : Unit {0} → A) where
  abbrev number : List Check
  number = end_values records (values_at end_form bs at)

  abbrev refuse_end : Refusal → A
  refuse_end r = stop (refused_at at r)

  abbrev end_judgement : A
  end_judgement = judged (end_by body records bs at) refuse_end go

  pub end_judged : end_judgement ≡ on_finding stop (λ _. on_finding stop go (finding at number)) (finding at (opening_by body bs at 6 false false))
  end_judged =
      judged_append (opening_by body bs at 6 false false) number refuse_end go
      ∙ judged_finding at (opening_by body bs at 6 false false) stop (λ _. judged number refuse_end go)
      ∙ ap (λ (x : A). on_finding stop (λ _. x) (finding at (opening_by body bs at 6 false false))) (judged_finding at number stop go)

  pub end_table : (table : List Form) → body_length table 6 ≡ 4 → body ≡ body_of table (get_or bs at 0)
      → end_judgement ≡ judged (end_record table records (drop at bs)) refuse_end go
  unfolding end_record
  end_table table long e =
      end_judged ∙ ap (on_finding stop (λ _. on_finding stop go (finding at number))) (opening_table bs at 6 false false table body e)
      ∙ sym (record_found table bs at (only end_form) [] false false (end_values records) stop go long (no_extra refuse_end))

-- ---- the two forms of a route

-- both bodies are in the table of kinds
pub route_long : (four : Bool) → body_length forms (route_form_by four).kind ≡ sum (route_form_by four).widths
route_long = of_routes (λ f. body_length forms f.kind ≡ sum f.widths) refl refl

-- and a route says the values of its record
pub route_says : (c : Cursor) (bs : List ℕ) (at : ℕ) (four : Bool) → route_said (Ok (c, route_at bs at four)) ≡ took c (values_at (route_form_by four) bs at)
route_says c bs at =
    of_routes (λ f. let v = values_at f bs at in
    took c (get_or v 0 0 ∷ get_or v 1 0 ∷ get_or v 2 0 ∷ get_or v 3 0 ∷ get_or v 4 0 ∷ get_or v 5 0 ∷ get_or v 6 0 ∷ get_or v 7 0 ∷ get_or v 8 0 ∷ []) ≡ took c v) refl refl

pub bits_few : (four : Bool) → bits_behind four < 32
bits_few true = lit≤ tt
bits_few false = lit≤ tt

-- the AS is what the bits behind it leave of four bytes
pub asn_left : (bs : List ℕ) (at : ℕ) → ((k : ℕ) → get_or bs k 0 < 256) → (four : Bool)
    → number_at 4 bs (at + 2) / 2 ^ bits_behind four ≡ get_or (values_at (route_form_by four) bs at) 1 0
asn_left bs at small true = div-one (number_at 4 bs (at + 2))
asn_left bs at small false =
    let c = small (at + 2 + 2) in
    let d = small (at + 2 + 3) in
    let n = number_4 bs (at + 2) in
    let m = number_2 bs (at + 2) in
    omega arith

-- ---- what is known of those before a prefix or a route

pub ltb_leb : (a b : ℕ) → ltb a b ≡ not (leb b a)
ltb_leb a b = grind (arith, nat_tests)

module _ {A : Type 0} (k : Sofar) (stop : Refusal → A) (go : Unit {0} → A) where
  pub prefix_room_lem : judged (prefix_room k.prefixes) stop go ≡ judged (extra_checks false (leb most_prefixes k.prefixes)) stop go
  unfolding judged
  prefix_room_lem = ap (λ (b : Bool). judged ((b else Full) ∷ []) stop go) (ltb_leb k.prefixes most_prefixes)

  join : (p a b : Bool) → judged ((not p else Place) ∷ (not a else Full) ∷ (not b else Full) ∷ []) stop go ≡ judged (extra_checks p (a || b)) stop go
  unfolding judged
  join true a b = refl
  join false true b = refl
  join false false b = refl

  pub route_room_lem : judged (route_room k.prefixes k.inside k.routes) stop go ≡ judged (extra_checks (eqb k.prefixes 0) (leb most_in_prefix k.inside || leb most_routes k.routes)) stop go
  route_room_lem =
      ap₂ (λ (a b : Bool). judged ((not (eqb k.prefixes 0) else Place) ∷ (a else Full) ∷ (b else Full) ∷ []) stop go)
      (ltb_leb k.inside most_in_prefix) (ltb_leb k.routes most_routes)
      ∙ join (eqb k.prefixes 0) (leb most_in_prefix k.inside) (leb most_routes k.routes)

-- where it tells what was read so far, the checks are those of the snapshot
module _ {s : Snapshot} {k : Sofar} (t : Tells s k) where
  pub prefix_told : (bs : List ℕ) → prefix_record s bs ≡ prefix_next k bs
  unfolding prefix_record prefix_next
  prefix_told bs =
      ap₂ (λ (n : ℕ) (values : List ℕ → List Check). record_checks forms (only prefix_form) (prefix_room n) values bs)
      (sym t.prefixes)
      (fun_ext (λ v. ap (λ (b : Bool). (none (prefix_tests (get_or v 0 0) (get_or v 1 0)) else Field) ∷ (b else Order) ∷ []) (t.above (get_or v 0 0) (get_or v 1 0))))

  room_told : route_extra s ≡ route_room k.prefixes k.inside k.routes
  room_told = rw (t.prefixes, t.inside, t.routes)

  pub route_told : (bs : List ℕ) → route_record s bs ≡ route_next k bs
  unfolding route_record route_next
  route_told bs =
      ap₂ (λ (room : List Check) (values : List ℕ → List Check). record_checks forms route_forms room values bs) room_told
      (fun_ext (λ v. ap₂ (λ (n : ℕ) (b : Bool). (none (route_tests n (route_of v)) else Field) ∷ (b else Order) ∷ []) (sym t.routers) (t.beyond (route_of v))))

-- ---- the judgement of each record

-- the checks of a router's values, where so many ids are given
abbrev pub router_faults : ℕ → List ℕ → ℕ → ℕ → ℕ → List Check
router_faults routers ids given index id =
    (none (router_tests routers index id) else Field)
    ∷ (eqb index given else Order)
    ∷ (not (given_before id ids) else Twin)
    ∷ []

-- a record's answer: what its opening finds, then what its values find, then this
abbrev pub found : Result (Unit {0}) Refused → Result (Unit {0}) Refused → Said → Said
found opening its answer = on_finding (λ e. refuses e.refusal e.place) (λ _. on_finding (λ e. refuses e.refusal e.place) (λ _. answer) its) opening

module _ (bs : List ℕ) (at : ℕ) (answer : Said) where
  -- a refusal in numbers
  abbrev refusing : Refused → Said
  refusing e = refuses e.refusal e.place

  pub count_found : judged_at at (count_record (drop at bs)) answer
      ≡ found (finding at (opening_checks forms bs at 1 false false)) (finding at (count_checks (number_at 1 bs (at + 1)))) answer
  unfolding count_record
  count_found = record_found forms bs at (only count_form) [] false false count_values refusing (λ _. answer) refl (no_extra _)

  pub router_found : (routers first given : ℕ) → judged_at at (router_record routers (ids_at bs first given) (drop at bs)) answer
      ≡ found (finding at (opening_checks forms bs at 2 false false)) (finding at (router_faults routers (ids_at bs first given) given (number_at 1 bs (at + 1)) (id_at bs at))) answer
  unfolding router_record given_before
  router_found routers first given =
      record_found forms bs at (only router_form) [] false false (router_values routers (ids_at bs first given)) refusing (λ _. answer) refl (no_extra _)
      ∙ ap (λ (n : ℕ). found (finding at (opening_checks forms bs at 2 false false)) (finding at (router_faults routers (ids_at bs first given) n (number_at 1 bs (at + 1)) (id_at bs at))) answer)
      (table_length given (λ i. id_at bs (router_place first i)))

  pub distance_found : (routers from to : ℕ) → judged_at at (distance_record routers (due from to) (drop at bs)) answer
      ≡ found (finding at (opening_checks forms bs at 3 false false))
      (finding at (distance_checks routers (due from to) (number_at 1 bs (at + 1)) (number_at 1 bs (at + 2)) (number_at 4 bs (at + 3)))) answer
  unfolding distance_record
  distance_found routers from to =
      record_found forms bs at (only distance_form) [] false false (distance_values routers (due from to)) refusing (λ _. answer) refl (no_extra _)

  pub prefix_found : (k : Sofar) → judged_at at (prefix_next k (drop at bs)) answer
      ≡ found (finding at (opening_checks forms bs at 4 false (leb most_prefixes k.prefixes)))
      (finding at (prefix_faults k (number_at 4 bs (at + 1)) (number_at 1 bs (at + 5)))) answer
  unfolding prefix_next
  prefix_found k =
      record_found forms bs at (only prefix_form) (prefix_room k.prefixes) false (leb most_prefixes k.prefixes)
      (λ v. prefix_faults k (get_or v 0 0) (get_or v 1 0)) refusing (λ _. answer) refl (prefix_room_lem k _)

  pub route_found : (k : Sofar) → let f = form_at route_forms bs at in let r = route_at bs at (eqb (get_or bs at 0) 7) in
      judged_at at (route_next k (drop at bs)) answer
      ≡ found (finding at (opening_checks forms bs at f.kind (eqb k.prefixes 0) (leb most_in_prefix k.inside || leb most_routes k.routes)))
      (finding at (route_faults_in k f.kind (route_is r))) answer
  unfolding route_next
  route_found k =
      record_found forms bs at route_forms (route_room k.prefixes k.inside k.routes) (eqb k.prefixes 0) (leb most_in_prefix k.inside || leb most_routes k.routes)
      (λ v. route_faults k (route_of v)) refusing (λ _. answer) (route_long (eqb (get_or bs at 0) 7)) (route_room_lem k _)

  -- of the end record, by the body of its kind
  pub end_found : (body : Result ℕ Refusal) (records : ℕ) → judged_at at (end_by body records bs at) answer
      ≡ found (finding at (opening_by body bs at 6 false false)) (finding at (end_checks records (number_at 4 bs (at + 1)))) answer
  end_found body records = end_judged body records bs at refusing (λ _. answer)

  -- and by the table of a file
  pub end_table_found : (table : List Form) (body : Result ℕ Refusal) (records : ℕ) → body_length table 6 ≡ 4 → body ≡ body_of table (get_or bs at 0)
      → judged_at at (end_by body records bs at) answer ≡ judged_at at (end_record table records (drop at bs)) answer
  end_table_found table body records long is = end_table body records bs at refusing (λ _. answer) table long is

-- ---- a search by number

-- over so many numbers from one on, and over the list of what they stand for
pub any_of_table : (test : ℕ → Bool) (f : ℕ → ℕ) (from n : ℕ) → list_any (λ i. test (f i)) (range_with_len from n) ≡ some test (map f (span from n))
any_of_table test f from zero = refl
any_of_table test f from (suc n) =
    ap (λ (b : Bool). test (f from) || b) (any_of_table test f (from + 1) n ∙ ap (λ (k : ℕ). some test (map f (span k n))) (add-one from))
