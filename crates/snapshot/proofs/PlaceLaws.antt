-- Reading for a program that has the whole input and a place in it: what it sees there, and the equations by which its loops go.
-- A loop's invariant is `reading bs ≡ routers n left ids at (drop at bs)`, and likewise for `distances` and `items`.
use Prim.Native.Nat.{ℕ, suc, ◌+◌, ◌-◌, ◌≤◌, ◌<◌}
use Rattle.std.proofs.Math.Decide.{dec_le}
use Rattle.std.proofs.Common.{arith, sym, ap, ◌∙◌, subst, length-drop, drop_of_length-le, drop-drop, drop-cons, get_or-drop, le-leb, lt-ltb, le-ltb}
use Rattle.std.specs.Prelude.{◌≡◌, ◌≢◌, not, length, get_or, drop, T, leb, ltb, eqb}
use Rattle.std.proofs.Math.Path.{refl, ap₂}
use Rattle.std.proofs.Math.Bool.{Bool}
use mathlib.Core.List.{List, [], ◌∷◌, ◌++◌}
use Rattle.std.proofs.lemmas.Bool.{lt-leb}
use Rattle.refusal.specs.declared.Refusal.TheVariants.{Cut, Kind, Place, Field, Tail}
use Rattle.snapshot.specs.Records.{Form, Forms, count_form, router_form, distance_form, prefix_form, route_forms, end_form, forms, form_of, form_at, stands, size, known, kind, values, values_at, size_in, values_in}
use Rattle.snapshot.proofs.RecordsLaws.{values_at_lem}
use Rattle.snapshot.specs.Format.{Snapshot, Pair, pairs, records, Check, ◌else◌}
use Rattle.snapshot.specs.Reading.{accepted, refused, unless, is_nil, record_checks, with_prefixes, prefix_of, route_of, add_route, prefix_record, route_record, end_record, tail, items, distance_record, distances, router_record, routers, count_record, reading}
use Rattle.snapshot.proofs.SectionsLaws.{items_prefix, items_route, items_end}

module _ (bs : List ℕ) where
  -- ---- what stands at a place

  more_at : (at : ℕ) → not (is_nil (drop at bs)) ≡ ltb at (length bs)
  more_at at = go (dec_le (suc at) (length bs))
    where
      go : Dec (at < length bs) → not (is_nil (drop at bs)) ≡ ltb at (length bs)
      go (yes h) = ap (λ (l : List ℕ). not (is_nil l)) (drop-cons bs at 0 h) ∙ sym (lt-ltb at (length bs) h)
      go (no h) = ap (λ (l : List ℕ). not (is_nil l)) (drop_of_length-le bs {i = at} (omega arith)) ∙ sym (le-ltb at (length bs) (omega arith))

  pub kind_at : (at : ℕ) → kind (drop at bs) ≡ get_or bs at 0
  kind_at at = get_or-drop at bs 0 0 ∙ ap (λ (i : ℕ). get_or bs i 0) (let e : at + 0 ≡ at = omega arith in e)

  enough_at : (at k : ℕ) → leb (suc k) (length (drop at bs)) ≡ leb (at + suc k) (length bs)
  enough_at at k = go (dec_le (at + suc k) (length bs))
    where
      l : length (drop at bs) ≡ length bs - at
      l = length-drop at bs

      go : Dec (at + suc k ≤ length bs) → leb (suc k) (length (drop at bs)) ≡ leb (at + suc k) (length bs)
      go (yes e) = le-leb (suc k) (length (drop at bs)) (omega (arith, l)) ∙ sym (le-leb (at + suc k) (length bs) e)
      go (no e) = lt-leb (suc k) (length (drop at bs)) (omega (arith, l)) ∙ sym (lt-leb (at + suc k) (length bs) (omega arith))

  -- the checks of the record at a place
  pub record_at : (table : List Form) (fs : Forms) (extra : List Check) (checks : List ℕ → List Check) (at : ℕ)
      → record_checks table fs extra checks (drop at bs)
      ≡ (let f = form_at fs bs at in
      (ltb at (length bs) else Cut)
      ∷ (known table (get_or bs at 0) else Kind)
      ∷ (stands fs (get_or bs at 0) else Place)
      ∷ extra
      ++ ((leb (at + size f) (length bs) else Cut)
      ∷ (eqb f.kind (fs.chosen (values_at f bs at)).kind else Field)
      ∷ checks (values_at f bs at)))
  unfolding record_checks
  record_at table fs extra checks at =
      let front : Bool → ℕ → List Check = λ b k. (b else Cut) ∷ (known table k else Kind) ∷ (stands fs k else Place) ∷ extra in
      let body : Form → Bool → List ℕ → List Check = λ f b v. (b else Cut) ∷ (eqb f.kind (fs.chosen v).kind else Field) ∷ checks v in
      let f : Form = form_at fs bs at in
      ap₂ (λ (b : Bool) (k : ℕ). front b k ++ body (form_of fs k) (leb (size (form_of fs k)) (length (drop at bs))) (values (form_of fs k) (drop at bs))) (more_at at) (kind_at at)
      ∙ ap₂ (λ (b : Bool) (v : List ℕ). front (ltb at (length bs)) (get_or bs at 0) ++ body f b v) (enough_at at _) (values_at_lem f bs at)

  -- what comes after it
  pub after_at : {A : Type 0} (fs : Forms) (at : ℕ) (go : List ℕ → ℕ → List ℕ → A)
      → go (values_in fs (drop at bs)) (size_in fs (drop at bs)) (drop (size_in fs (drop at bs)) (drop at bs))
      ≡ (let f = form_at fs bs at in go (values_at f bs at) (size f) (drop (at + size f) bs))
  after_at fs at go =
      let f : Form = form_at fs bs at in
      ap (λ (k : ℕ). go (values (form_of fs k) (drop at bs)) (size (form_of fs k)) (drop (size (form_of fs k)) (drop at bs))) (kind_at at)
      ∙ ap₂ (λ (v l : List ℕ). go v (size f) l) (values_at_lem f bs at) (drop-drop (size f) at bs)

  -- ---- one more record

  pub reading_count : reading bs ≡ unless (count_record bs) 0 λ _. let n = get_or (values_at count_form bs 0) 0 0 in routers n n [] (size count_form) (drop (size count_form) bs)
  unfolding reading
  reading_count = refl

  module _ (at : ℕ) where
    pub routers_one : (n left : ℕ) (ids : List ℕ)
        → routers n (suc left) ids at (drop at bs)
        ≡ unless (router_record n ids (drop at bs)) at λ _.
        routers n left (ids ++ (get_or (values_at router_form bs at) 1 0 ∷ [])) (at + size router_form) (drop (at + size router_form) bs)
    unfolding routers
    routers_one n left ids =
        ap₂ (λ (v l : List ℕ). unless (router_record n ids (drop at bs)) at λ _. routers n left (ids ++ (get_or v 1 0 ∷ [])) (at + size router_form) l)
        (values_at_lem router_form bs at) (drop-drop (size router_form) at bs)

    pub routers_none : (n : ℕ) (ids : List ℕ) → routers n 0 ids at (drop at bs) ≡ distances (pairs (length ids)) ids [] at (drop at bs)
    unfolding routers
    routers_none n ids = refl

    pub distances_one : (p : Pair) (due : List Pair) (ids ds : List ℕ)
        → distances (p ∷ due) ids ds at (drop at bs)
        ≡ unless (distance_record (length ids) p (drop at bs)) at λ _.
        distances due ids (ds ++ (get_or (values_at distance_form bs at) 2 0 ∷ [])) (at + size distance_form) (drop (at + size distance_form) bs)
    unfolding distances
    distances_one p due ids ds =
        ap₂ (λ (v l : List ℕ). unless (distance_record (length ids) p (drop at bs)) at λ _. distances due ids (ds ++ (get_or v 2 0 ∷ [])) (at + size distance_form) l)
        (values_at_lem distance_form bs at) (drop-drop (size distance_form) at bs)

    pub distances_none : (ids ds : List ℕ) → distances [] ids ds at (drop at bs) ≡ items (record { ids = ids; distances = ds; prefixes = [] }) at (drop at bs)
    unfolding distances
    distances_none ids ds = refl

    module _ (s : Snapshot) where
      pub items_one_prefix : get_or bs at 0 ≡ 4
          → items s at (drop at bs)
          ≡ unless (prefix_record s (drop at bs)) at λ _.
          items (with_prefixes s (s.prefixes ++ (prefix_of (values_at prefix_form bs at) ∷ []))) (at + size prefix_form) (drop (at + size prefix_form) bs)
      items_one_prefix k =
          items_prefix s at (drop at bs) (kind_at at ∙ k)
          ∙ ap₂ (λ (v l : List ℕ). unless (prefix_record s (drop at bs)) at λ _. items (with_prefixes s (s.prefixes ++ (prefix_of v ∷ []))) (at + size prefix_form) l)
          (values_at_lem prefix_form bs at) (drop-drop (size prefix_form) at bs)

      pub items_one_route : T (stands route_forms (get_or bs at 0))
          → items s at (drop at bs)
          ≡ unless (route_record s (drop at bs)) at λ _.
          let f = form_at route_forms bs at in
          items (with_prefixes s (add_route s.prefixes (route_of (values_at f bs at)))) (at + size f) (drop (at + size f) bs)
      items_one_route k =
          items_route s at (drop at bs) (subst (λ (b : ℕ). T (stands route_forms b)) (sym (kind_at at)) k)
          ∙ after_at route_forms at (λ v n l. unless (route_record s (drop at bs)) at λ _. items (with_prefixes s (add_route s.prefixes (route_of v))) (at + n) l)

      -- a byte that is not there reads as 0
      pub items_last : get_or bs at 0 ≢ 4 → T (not (stands route_forms (get_or bs at 0)))
          → items s at (drop at bs) ≡ unless (end_record forms (records s) (drop at bs)) at λ _. tail s (at + size end_form) (drop (at + size end_form) bs)
      items_last no4 other =
          items_end s at (drop at bs) (rw kind_at no4) (subst (λ (b : ℕ). T (not (stands route_forms b))) (sym (kind_at at)) other)
          ∙ ap (λ (l : List ℕ). unless (end_record forms (records s) (drop at bs)) at λ _. tail s (at + size end_form) l) (drop-drop (size end_form) at bs)

    pub tail_none : (s : Snapshot) → length bs ≤ at → tail s at (drop at bs) ≡ accepted s
    tail_none s h = ap (tail s at) (drop_of_length-le bs {i = at} h)

    pub tail_some : (s : Snapshot) → at < length bs → tail s at (drop at bs) ≡ refused Tail at
    tail_some s h = ap (tail s at) (drop-cons bs at 0 h)
