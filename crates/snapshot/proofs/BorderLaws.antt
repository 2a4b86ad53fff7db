-- The first 55,624 bytes of an input decide its answer.
use Prim.Native.Nat.{ℕ, zero, suc, ◌+◌, ◌-◌, ◌*◌, ◌≤◌, ◌<◌, min}
use Rattle.std.proofs.Common.{le_refl, not-suc-le-zero, le_of_suc-le-suc, mul-le-mul, arith, ◌∙◌, length-take, ltb→lt, lit≤, le-leb}
use Rattle.std.proofs.Math.Nat.{suc-sub-suc, sub-zero}
use Rattle.std.proofs.Math.Decide.{dec_le}
use Rattle.std.specs.Prelude.{◌≡◌, refl, true, false, not, length, get_or, take, drop, T, leb, eqb}
use Rattle.std.proofs.Math.Path.{sym, ap, ap₂}
use Rattle.std.proofs.Math.Bool.{Bool}
use mathlib.Core.List.{List, [], ◌∷◌, ◌++◌}
use Rattle.std.proofs.Math.Seq.{take-nil}
use Rattle.std.proofs.lemmas.Bool.{lt-leb}
use Rattle.refusal.specs.declared.Refusal.TheVariants.{Cut, Kind, Place, Field}
use Rattle.model.specs.Decision.{Route}
use Rattle.snapshot.specs.Limits.{most_routers, most_prefixes, most_routes}
use Rattle.snapshot.specs.Records.{Form, Forms, count_form, router_form, distance_form, prefix_form, route_forms, end_form, forms, only, form_of, stands, sum, size, known, kind, values, form_in, size_in, values_in}
use Rattle.snapshot.proofs.RecordsLaws.{fields_take, of_routes}
use Rattle.snapshot.specs.Format.{Prefix, Snapshot, Pair, pairs, Check, ◌else◌, Holds, routes_in, records}
use Rattle.snapshot.specs.Reading.{AnswerOf, refused, unless, either, is_nil, prefix_record, route_record, end_record, distance_record, router_record, count_record, record_checks, prefix_extra, prefix_values, route_extra, route_values, end_values, tail, item, items, prefix_of, route_of, with_prefixes, with_prefix, with_route, add_route, distance_values, distances, router_values, routers, count_values, reading}
use Rattle.snapshot.proofs.ChecksLaws.{judged_same, judged_front, Passed, passed, count_range, length_snoc, routes_in_append, routes_in_add, length_add, some_prefix}
use Rattle.snapshot.proofs.SectionsLaws.{drop_shorter, items_step}
use Rattle.snapshot.proofs.PairsLaws.{pairs_length}

-- ---- what a record's checks see of the bytes

drop_take : (k m : ℕ) (bs : List ℕ) → k ≤ m → drop k (take m bs) ≡ take (m - k) (drop k bs)
drop_take zero m bs h = ap (λ (j : ℕ). take j bs) (sym (sub-zero m))
drop_take (suc k) zero bs h = absurd (not-suc-le-zero h)
drop_take (suc k) (suc m) [] h = sym (take-nil (suc m - suc k))
drop_take (suc k) (suc m) (b ∷ bs) h = drop_take k m bs (le_of_suc-le-suc h) ∙ ap (λ (j : ℕ). take j (drop k bs)) (sym (suc-sub-suc m k))

enough_take : (k m : ℕ) (bs : List ℕ) → k ≤ m → leb k (length (take m bs)) ≡ leb k (length bs)
enough_take k m bs h = go (dec_le k (length bs))
  where
    l : length (take m bs) ≡ min m (length bs)
    l = length-take m bs

    go : Dec (k ≤ length bs) → leb k (length (take m bs)) ≡ leb k (length bs)
    go (yes e) = le-leb k (length (take m bs)) (omega (arith, l)) ∙ sym (le-leb k (length bs) e)
    go (no e) = lt-leb k (length (take m bs)) (omega (arith, l)) ∙ sym (lt-leb k (length bs) (omega arith))

pub kind_take : (m : ℕ) (bs : List ℕ) → 1 ≤ m → kind bs ≡ kind (take m bs)
kind_take zero bs h = absurd (not-suc-le-zero h)
kind_take (suc m) [] h = refl
kind_take (suc m) (b ∷ bs) h = refl

nil_take : (m : ℕ) (bs : List ℕ) → 1 ≤ m → is_nil bs ≡ is_nil (take m bs)
nil_take zero bs h = absurd (not-suc-le-zero h)
nil_take (suc m) [] h = refl
nil_take (suc m) (b ∷ bs) h = refl

pub tail_take : {A : Type 0} (s : A) (at m : ℕ) (bs : List ℕ) → 1 ≤ m → tail s at bs ≡ tail s at (take m bs)
tail_take s at zero bs h = absurd (not-suc-le-zero h)
tail_take s at (suc m) [] h = refl
tail_take s at (suc m) (b ∷ bs) h = refl

module _ (m : ℕ) (bs : List ℕ) where
  values_take : (f : Form) → size f ≤ m → values f (take m bs) ≡ values f bs
  values_take f h = fields_take f.widths m bs 1 (omega arith)

  -- what comes after the record depends on its values, its size and the bytes behind it
  pub record_take : {A : Type 0} (table : List Form) (fs : Forms) (extra : List Check) (checks : List ℕ → List Check) (at : ℕ) (after : List ℕ → ℕ → List ℕ → AnswerOf A)
      → 1 ≤ m → (Holds extra → size_in fs bs ≤ m)
      → (Passed fs extra checks bs → after (values_in fs bs) (size_in fs bs) (drop (size_in fs bs) bs) ≡ after (values_in fs bs) (size_in fs bs) (take (m - size_in fs bs) (drop (size_in fs bs) bs)))
      → unless (record_checks table fs extra checks bs) at (λ _. after (values_in fs bs) (size_in fs bs) (drop (size_in fs bs) bs))
      ≡ unless (record_checks table fs extra checks (take m bs)) at (λ _. after (values_in fs (take m bs)) (size_in fs (take m bs)) (drop (size_in fs (take m bs)) (take m bs)))
  unfolding record_checks
  record_take {A} table fs extra checks at after one h e =
      let f : Form = form_in fs bs in
      let next : Form → List ℕ → AnswerOf A = λ f l. after (values f l) (size f) (drop (size f) l) in
      let go' : Unit {0} → AnswerOf A = λ _. next (form_in fs (take m bs)) (take m bs) in
      let body : Bool → Form → List ℕ → List Check = λ b f v. (b else Cut) ∷ (eqb f.kind (fs.chosen v).kind else Field) ∷ checks v in
      let front : List ℕ → List Check = λ l. (not (is_nil l) else Cut) ∷ (known table (kind l) else Kind) ∷ (stands fs (kind l) else Place) ∷ extra in
      let body_of : Form → List ℕ → List Check = λ f l. body (leb (size f) (length l)) f (values f l) in
      let same : front bs ≡ front (take m bs) =
      ap₂ (λ (n : Bool) (k : ℕ). (not n else Cut) ∷ (known table k else Kind) ∷ (stands fs k else Place) ∷ extra) (nil_take m bs one) (kind_take m bs one) in
      judged_same (record_checks table fs extra checks bs) (λ r. refused r at) (λ _. next f bs) go'
      (λ p.
      let z = passed table fs extra checks bs p in
      e z
      ∙ sym (ap₂ (λ (v l : List ℕ). after v (size f) l) (values_take f (h z.free)) (drop_take (size f) m bs (h z.free)))
      ∙ ap (λ (k : ℕ). next (form_of fs k) (take m bs)) (kind_take m bs one))
      ∙ ap (λ (c : List Check). unless (c ++ body_of f bs) at go') same
      ∙ judged_front (front (take m bs)) (body_of f bs) (body_of f (take m bs)) (λ r. refused r at) go' go'
      (λ hf. ap₂ (λ (b : Bool) (v : List ℕ). unless (body b f v) at go')
      (sym (enough_take (size f) m bs (h hf.1.1.1))) (sym (values_take f (h hf.1.1.1))))
      ∙ ap (λ (k : ℕ). unless (front (take m bs) ++ body_of (form_of fs k) (take m bs)) at go') (kind_take m bs one)

pub either_both : {A : Type 0} (b b' : Bool) (f g f' g' : Unit {0} → A) → b ≡ b' → (T b → f tt ≡ f' tt) → (T (not b) → g tt ≡ g' tt) → either b f g ≡ either b' f' g'
unfolding either
either_both true b' f g f' g' e h l = h tt ∙ ap (λ (b : Bool). either b f' g') e
either_both false b' f g f' g' e h l = l tt ∙ ap (λ (b : Bool). either b f' g') e

-- ---- the sections

-- how many bytes may still be looked at
abbrev items_need : Snapshot → ℕ
items_need s = 6 * (most_prefixes - length s.prefixes) + (26 * (most_routes - routes_in s.prefixes) + 6)

items_take : (count : ℕ) (s : Snapshot) (at : ℕ) (bs : List ℕ) (m : ℕ) → length bs ≤ count → items_need s ≤ m → items s at bs ≡ items s at (take m bs)
unfolding item prefix_record route_record end_record
items_take zero s at [] m l need = ap (items s at) (sym (take-nil m))
items_take zero s at (b ∷ bs) m l need = absurd (not-suc-le-zero l)
items_take (suc count) s at [] m l need = ap (items s at) (sym (take-nil m))
items_take (suc count) s at (b ∷ bs) m l need =
    let all : List ℕ = b ∷ bs in
    let ps : List Prefix = s.prefixes in
    let k : ℕ = size_in route_forms all in
    let size_few : k ≤ 26 = of_routes (λ f. size f ≤ 26) (lit≤ tt) (lit≤ tt) (eqb b 7) in
    items_step s at all
    ∙ either_both _ _ _ _ _ _ (ap (λ (k : ℕ). eqb k 4) (kind_take m all (omega arith)))
    (λ _. record_take m all forms (only prefix_form) (prefix_extra s) (prefix_values s) at (λ v n. items (with_prefixes s (ps ++ (prefix_of v ∷ []))) (at + n)) (omega arith) (λ h. let q : length ps < most_prefixes = ltb→lt _ _ h.0 in omega arith)
    (λ z.
    let few : length ps < most_prefixes = ltb→lt _ _ z.free.0 in
    let one = length_snoc ps (prefix_of (values prefix_form all)) in
    let none = routes_in_append ps (prefix_of (values prefix_form all) ∷ []) in
    items_take count (with_prefix s all) (at + 6) (drop 5 bs) (m - 6) (drop_shorter 5 bs count l) (omega arith)))
    (λ _. either_both _ _ _ _ _ _ (ap (stands route_forms) (kind_take m all (omega arith)))
    (λ _. record_take m all forms route_forms (route_extra s) (route_values s) at (λ v n. items (with_prefixes s (add_route ps (route_of v))) (at + n)) (omega arith) (λ h. let q : routes_in ps < most_routes = ltb→lt _ _ h.1.1.0 in omega arith)
    (λ z.
    let free = z.free in
    let few : routes_in ps < most_routes = ltb→lt _ _ free.1.1.0 in
    let r : Route = route_of (values_in route_forms all) in
    let same : length (add_route ps r) ≡ length ps = some_prefix (λ ps. length (add_route ps r) ≡ length ps) (λ p ps. length_add p ps r) ps free.0 in
    let more : routes_in (add_route ps r) ≡ suc (routes_in ps) =
    some_prefix (λ ps. routes_in (add_route ps r) ≡ suc (routes_in ps)) (λ p ps. routes_in_add p ps r) ps free.0 in
    let body : ℕ = sum (form_in route_forms all).widths in
    items_take count (with_route s all) (at + k) (drop body bs) (m - k) (drop_shorter body bs count l) (omega arith)))
    (λ _. record_take m all forms (only end_form) [] (end_values (records s)) at (λ _ n. tail s (at + n)) (omega arith) (λ h. omega arith)
    (λ z. tail_take s (at + 5) (m - 5) (drop 4 bs) (omega arith))))
    ∙ sym (items_step s at (take m all))

distances_take : (due : List Pair) (ids ds : List ℕ) (at : ℕ) (bs : List ℕ) (m : ℕ) → 7 * length due + 27014 ≤ m
    → distances due ids ds at bs ≡ distances due ids ds at (take m bs)
unfolding distances distance_record
distances_take [] ids ds at bs m h = items_take (length bs) _ at bs m (le_refl (length bs)) (omega arith)
distances_take (p ∷ due) ids ds at bs m h =
    record_take m bs forms (only distance_form) [] (distance_values (length ids) p) at (λ v n. distances due ids (ds ++ (get_or v 2 0 ∷ [])) (at + n)) (omega arith) (λ _. omega arith)
    (λ z. distances_take due ids _ (at + 7) (drop 7 bs) (m - 7) (omega arith))

routers_take : (n left : ℕ) (ids : List ℕ) (at : ℕ) (bs : List ℕ) (m : ℕ) → length ids + left ≡ n → n ≤ most_routers → 6 * left + 55238 ≤ m
    → routers n left ids at bs ≡ routers n left ids at (take m bs)
unfolding routers router_record
routers_take n zero ids at bs m l few h =
    let count : length (pairs (length ids)) ≡ length ids * (length ids - 1) = pairs_length (length ids) in
    let small : length ids ≤ most_routers = omega arith in
    let square : length ids * (length ids - 1) ≤ 64 * 63 = mul-le-mul small (let l : length ids - 1 ≤ 63 = omega arith in l) in
    distances_take (pairs (length ids)) ids [] at bs m (omega arith)
routers_take n (suc left) ids at bs m l few h =
    record_take m bs forms (only router_form) [] (router_values n ids) at (λ v k. routers n left (ids ++ (get_or v 1 0 ∷ [])) (at + k)) (omega arith) (λ _. omega arith)
    (λ z.
    let x : ℕ = get_or (values router_form bs) 1 0 in
    let one = length_snoc ids x in
    routers_take n left (ids ++ (x ∷ [])) (at + 6) (drop 6 bs) (m - 6) (omega arith) few (omega arith))

pub reading_take : (bs : List ℕ) → reading bs ≡ reading (take 55624 bs)
unfolding reading count_record
reading_take bs =
    record_take 55624 bs forms (only count_form) [] count_values 0 (λ v. routers (get_or v 0 0) (get_or v 0 0) []) (lit≤ tt) (λ _. lit≤ tt)
    (λ z.
    let n : ℕ = get_or (values count_form bs) 0 0 in
    let few : n ≤ most_routers = (count_range n z.good.0).1 in
    routers_take n n [] 2 (drop 2 bs) 55622 (omega arith) few (omega arith))
