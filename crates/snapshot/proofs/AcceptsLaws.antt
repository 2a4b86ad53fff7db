-- What reading accepts is the writing of a valid snapshot, and of the one that it gives: section by section, from the last to the first.
use Prim.Native.Nat.{ℕ, zero, suc, ◌+◌, ◌≤◌, ◌<◌}
use native.Mathlib.Omega.{arith}
use Rattle.std.specs.Prelude.{◌≡◌, not, leb, eqb}
use Rattle.std.proofs.Math.Path.{refl, sym, ap, ap₂, subst}
use Rattle.std.proofs.Common.{◌∙◌, ltb→lt, eqb→eq}
use mathlib.Core.List.{List, [], ◌∷◌, ◌++◌, append_assoc, append-nil}
use Rattle.std.proofs.Math.ListN.{length, get_or, drop}
use Rattle.std.proofs.Math.Dec.{T}
use Rattle.std.proofs.Math.Pow.{are_bytes}
use Rattle.model.specs.Decision.{Route}
use Rattle.wire.specs.NumbersLaws.{bytes_drop}
use Rattle.snapshot.specs.Limits.{most_in_prefix, most_routes}
use Rattle.snapshot.specs.Ranges.{none, count_tests, id_tests, distance_tests, pair_tests}
use Rattle.snapshot.proofs.RangesLaws.{none_split}
use Rattle.snapshot.specs.Records.{Forms, count_form, router_form, distance_form, prefix_form, route_forms, end_form, forms, only, stands, written, written_in, kind, values, Fits, size_in, values_in}
use Rattle.snapshot.proofs.RecordsLaws.{split_written, fits_values, Chosen, of_routes, only_chosen, routes_chosen, split_in, fits_in}
use Rattle.snapshot.specs.Format.{Prefix, Snapshot, Pair, pairs, Check, Holds, Each, GoodId, GoodDistance, GoodRoute, GoodPrefix, Valid, routes_in, routers_bytes, distances_bytes, prefixes_bytes, route_fields, encode_open, encode, records}
use Rattle.snapshot.specs.Reading.{accepted, open_routes, add_route, with_prefixes, with_prefix, with_route, prefix_of, route_of, prefix_extra, prefix_values, prefix_record, route_extra, route_values, route_record, end_values, end_record, tail, item, items_within, items, distance_values, distance_record, distances, router_values, router_record, routers, count_values, count_record, reading}
use Rattle.snapshot.proofs.ChecksLaws.{Passed, passed, unless_accepted, either_cases, refused_not_accepted, accepted_injective, each_snoc, length_snoc, routers_snoc, distances_snoc, prefixes_append, prefixes_add, length_add, routes_in_append, routes_in_add, each_add, open_more, some_prefix}
use Rattle.snapshot.proofs.PairsLaws.{pairs_length}

-- W is the input. So far `s` was read, and `bs` is left
record SoFar (W : List ℕ) (s : Snapshot) (bs : List ℕ) : Type 0 where
  bytes : T (are_bytes bs)
  written_is : W ≡ encode_open s ++ bs
  valid : Valid s

abbrev Sound : List ℕ → Snapshot → Type 0
Sound W t = (W ≡ encode t) × Valid t

module _ (W : List ℕ) (s : Snapshot) (bs : List ℕ) (c : SoFar W s bs) where
  -- the record at the head goes over to what was read
  moved : (fs : Forms) {extra : List Check} {checks : List ℕ → List Check} (ps : List Prefix) → Chosen forms fs → Passed fs extra checks bs
      → prefixes_bytes ps ≡ prefixes_bytes s.prefixes ++ written_in fs (values_in fs bs)
      → W ≡ encode_open (with_prefixes s ps) ++ drop (size_in fs bs) bs
  moved fs ps ch h e =
      c.written_is
      ∙ ap (λ (l : List ℕ). encode_open s ++ l) (split_in forms fs ch bs h.due h.its c.bytes h.whole)
      ∙ sym (append_assoc (encode_open s) (written_in fs (values_in fs bs)) (drop (size_in fs bs) bs))
      ∙ ap (λ (l : List ℕ). l ++ drop (size_in fs bs) bs) (sym (open_more s ps (written_in fs (values_in fs bs)) e))

  prefix_read : Holds (prefix_record s bs)
      → SoFar W (with_prefixes s (s.prefixes ++ (prefix_of (values prefix_form bs) ∷ []))) (drop 6 bs)
  unfolding prefix_record
  prefix_read e =
      let ps : List Prefix = s.prefixes in
      let p : Prefix = prefix_of (values prefix_form bs) in
      let h = passed forms (only prefix_form) (prefix_extra s) (prefix_values s) bs e in
      record {
        bytes = bytes_drop 6 bs c.bytes;
        written_is = moved (only prefix_form) (ps ++ (p ∷ [])) (only_chosen forms prefix_form tt) h (prefixes_append ps (p ∷ []));
        valid = record {
          count = c.valid.count;
          ids = c.valid.ids;
          square = c.valid.square;
          distances = c.valid.distances;
          few_prefixes = rw length_snoc (ltb→lt _ _ h.free.0);
          few_routes = rw routes_in_append (let l : routes_in ps ≤ most_routes = c.valid.few_routes in omega arith);
          prefixes = each_snoc (GoodPrefix (length s.ids)) [] ps p c.valid.prefixes
              (record { fits = (fits_values prefix_form bs c.bytes h.whole).0; obeys = h.good; most = omega arith; routes = tt });
        };
      }

  -- both forms of a route have its values
  route_values_lem : route_fields (route_of (values_in route_forms bs)) ≡ values_in route_forms bs
  route_values_lem = of_routes (λ f. route_fields (route_of (values f bs)) ≡ values f bs) refl refl (eqb (kind bs) 7)

  route_read : Holds (route_record s bs)
      → SoFar W (with_prefixes s (add_route s.prefixes (route_of (values_in route_forms bs)))) (drop (size_in route_forms bs) bs)
  unfolding route_record
  route_read e =
      let r : Route = route_of (values_in route_forms bs) in
      let n : ℕ = length s.ids in
      let ps : List Prefix = s.prefixes in
      let h = passed forms route_forms (route_extra s) (route_values s) bs e in
      let one : T (not (eqb (length ps) 0)) = h.free.0 in
      let size : length (add_route ps r) ≡ length ps = some_prefix (λ ps. length (add_route ps r) ≡ length ps) (λ p ps. length_add p ps r) ps one in
      let more : routes_in (add_route ps r) ≡ suc (routes_in ps) =
      some_prefix (λ ps. routes_in (add_route ps r) ≡ suc (routes_in ps)) (λ p ps. routes_in_add p ps r) ps one in
      record {
        bytes = bytes_drop (size_in route_forms bs) bs c.bytes;
        written_is = moved route_forms (add_route ps r) routes_chosen h
            (some_prefix (λ ps. prefixes_bytes (add_route ps r) ≡ prefixes_bytes ps ++ written_in route_forms (route_fields r)) (λ p ps. prefixes_add p ps r) ps one
            ∙ ap (λ (v : List ℕ). prefixes_bytes ps ++ written_in route_forms v) route_values_lem);
        valid = record {
          count = c.valid.count;
          ids = c.valid.ids;
          square = c.valid.square;
          distances = c.valid.distances;
          few_prefixes = rw size c.valid.few_prefixes;
          few_routes = rw more (ltb→lt (routes_in ps) most_routes h.free.1.1.0);
          prefixes = some_prefix
              (λ ps. Each (GoodPrefix n) [] ps → length (open_routes ps) < most_in_prefix → GoodRoute n (open_routes ps) r → Each (GoodPrefix n) [] (add_route ps r))
              (λ p ps. each_add n [] p ps r) ps one c.valid.prefixes (ltb→lt (length (open_routes ps)) most_in_prefix h.free.1.0)
              (record { fits = subst (λ (v : List ℕ). Fits (route_forms.chosen v).widths v) (sym route_values_lem) (fits_in forms route_forms routes_chosen bs h.due h.its c.bytes h.whole); obeys = h.good });
        };
      }

  at_end : (t : Snapshot) (at : ℕ) → Holds (end_record forms (records s) bs) → tail s at (drop 5 bs) ≡ accepted t → Sound W t
  unfolding end_record
  at_end t at e r = go (drop 5 bs) refl r
    where
      h : Passed (only end_form) [] (end_values (records s)) bs
      h = passed forms (only end_form) [] (end_values (records s)) bs e

      go : (rest : List ℕ) → drop 5 bs ≡ rest → tail s at rest ≡ accepted t → Sound W t
      go [] d r =
          subst (Sound W) (accepted_injective r) (
            c.written_is
                ∙ ap (λ (l : List ℕ). encode_open s ++ l)
                (split_written end_form bs c.bytes h.due h.whole
                ∙ ap₂ (λ (n : ℕ) (l : List ℕ). written end_form (n ∷ []) ++ l) (eqb→eq _ _ h.good.0) d),
            c.valid,
          )
      go (b ∷ rest) d r = absurd (refused_not_accepted r)

items_sound : (fuel : ℕ) (W : List ℕ) (t s : Snapshot) (at : ℕ) (bs : List ℕ) → SoFar W s bs → items_within fuel s at bs ≡ accepted t → Sound W t
unfolding items_within item
items_sound zero W t s at bs c e = absurd (refused_not_accepted e)
items_sound (suc fuel) W t s at bs c e =
    either_cases (eqb (kind bs) 4) _ _ (accepted t) e
    (λ _ go.
    let (b, go) = unless_accepted (prefix_record s bs) at _ t go in
    items_sound fuel W t (with_prefix s bs) (at + 6) (drop 6 bs) (prefix_read W s bs c b) go)
    (λ _ go. either_cases (stands route_forms (kind bs)) _ _ (accepted t) go
    (λ _ go.
    let (b, go) = unless_accepted (route_record s bs) at _ t go in
    items_sound fuel W t (with_route s bs) (at + size_in route_forms bs) (drop (size_in route_forms bs) bs) (route_read W s bs c b) go)
    (λ _ go.
    let (b, go) = unless_accepted (end_record forms (records s) bs) at _ t go in
    at_end W s bs c t (at + 5) b go))

-- ---- the distances

pair_distance : (n from to d : ℕ) → T (none (pair_tests n from to d)) → GoodDistance [] d
pair_distance n from to d t =
    (none_split (leb n to) (distance_tests d) (none_split (leb n from) (leb n to ∷ distance_tests d) t).1).1

drop_suc : {A : Type 0} {x : A} {xs : List A} (l : List A) (n : ℕ) → drop n l ≡ x ∷ xs → drop (suc n) l ≡ xs
drop_suc [] zero e = cc
drop_suc [] (suc n) e = cc
drop_suc (y ∷ l) zero e = cc
drop_suc (y ∷ l) (suc n) e = drop_suc l n e

module _ (W : List ℕ) (t : Snapshot) (ids : List ℕ) (some : T (none (count_tests (length ids)))) (good : Each GoodId [] ids) where
  distances_sound : (due : List Pair) (ds : List ℕ) (at : ℕ) (bs : List ℕ)
      → T (are_bytes bs)
      → W ≡ written count_form (length ids ∷ []) ++ (routers_bytes 0 ids ++ (distances_bytes (pairs (length ids)) ds ++ bs))
      → length ds + length due ≡ length (pairs (length ids))
      → drop (length ds) (pairs (length ids)) ≡ due
      → Each GoodDistance [] ds
      → distances due ids ds at bs ≡ accepted t → Sound W t
  unfolding items distances distance_record
  distances_sound [] ds at bs bytes w l d g e =
      items_sound (length bs) W t (record { ids = ids; distances = ds; prefixes = [] }) at bs
      (record {
        bytes = bytes;
        written_is = w ∙ simp (append_assoc, append-nil);
        valid = record {
          count = some;
          ids = good;
          square = let q = pairs_length (length ids) in omega arith;
          distances = g;
          few_prefixes = omega arith;
          few_routes = omega arith;
          prefixes = tt;
        };
      }) e
  distances_sound (p ∷ due) ds at bs bytes w l d g e =
      let (z, go) = unless_accepted (distance_record (length ids) p bs) at _ t e in
      let h = passed forms (only distance_form) [] (distance_values (length ids) p) bs z in
      let x : ℕ = get_or (values distance_form bs) 2 0 in
      let ps : List Pair = pairs (length ids) in
      let split : bs ≡ written distance_form (p.from ∷ p.to ∷ x ∷ []) ++ drop 7 bs =
      split_written distance_form bs bytes h.due h.whole
      ∙ ap₂ (λ (a b : ℕ). written distance_form (a ∷ b ∷ x ∷ []) ++ drop 7 bs) (eqb→eq _ _ h.good.1.0) (eqb→eq _ _ h.good.1.1.0) in
      distances_sound due (ds ++ (x ∷ [])) (at + 7) (drop 7 bs) (bytes_drop 7 bs bytes)
      (w ∙ ap (λ (l : List ℕ). written count_form (length ids ∷ []) ++ (routers_bytes 0 ids ++ l))
      (ap (λ (l : List ℕ). distances_bytes ps ds ++ l) split
      ∙ sym (append_assoc (distances_bytes ps ds) (written distance_form (p.from ∷ p.to ∷ x ∷ [])) (drop 7 bs))
      ∙ ap (λ (l : List ℕ). l ++ drop 7 bs) (sym (distances_snoc ps ds p due x d))))
      (let q = length_snoc ds x in omega arith)
      (ap (λ (n : ℕ). drop n ps) (length_snoc ds x) ∙ drop_suc ps (length ds) d)
      (each_snoc GoodDistance [] ds x g (pair_distance (length ids) (get_or (values distance_form bs) 0 0) (get_or (values distance_form bs) 1 0) x h.good.0))
      go

-- ---- the routers

module _ (W : List ℕ) (t : Snapshot) (n : ℕ) (some : T (none (count_tests n))) where
  routers_sound : (left : ℕ) (ids : List ℕ) (at : ℕ) (bs : List ℕ)
      → T (are_bytes bs)
      → W ≡ written count_form (n ∷ []) ++ (routers_bytes 0 ids ++ bs)
      → length ids + left ≡ n
      → Each GoodId [] ids
      → routers n left ids at bs ≡ accepted t → Sound W t
  unfolding routers router_record
  routers_sound zero ids at bs bytes w l g e =
      let is : n ≡ length ids = omega arith in
      distances_sound W t ids (subst (λ (m : ℕ). T (none (count_tests m))) is some) g (pairs (length ids)) [] at bs bytes
      (w ∙ ap (λ (m : ℕ). written count_form (m ∷ []) ++ (routers_bytes 0 ids ++ bs)) is) (omega arith) refl tt e
  routers_sound (suc left) ids at bs bytes w l g e =
      let (z, go) = unless_accepted (router_record n ids bs) at _ t e in
      let h = passed forms (only router_form) [] (router_values n ids) bs z in
      let x : ℕ = get_or (values router_form bs) 1 0 in
      let split : bs ≡ written router_form ((0 + length ids) ∷ x ∷ []) ++ drop 6 bs =
      split_written router_form bs bytes h.due h.whole
      ∙ ap (λ (a : ℕ). written router_form (a ∷ x ∷ []) ++ drop 6 bs) (eqb→eq _ _ h.good.1.0 ∙ (let q : length ids ≡ 0 + length ids = omega arith in q)) in
      routers_sound left (ids ++ (x ∷ [])) (at + 6) (drop 6 bs) (bytes_drop 6 bs bytes)
      (w ∙ ap (λ (l : List ℕ). written count_form (n ∷ []) ++ l)
      (ap (λ (l : List ℕ). routers_bytes 0 ids ++ l) split
      ∙ sym (append_assoc (routers_bytes 0 ids) (written router_form ((0 + length ids) ∷ x ∷ [])) (drop 6 bs))
      ∙ ap (λ (l : List ℕ). l ++ drop 6 bs) (sym (routers_snoc 0 ids x))))
      (let q = length_snoc ids x in omega arith)
      (each_snoc GoodId [] ids x g (record { fits = (fits_values router_form bs bytes h.whole).1.0; ranges = (none_split (leb n (get_or (values router_form bs) 0 0)) (id_tests x) h.good.0).1; alone = h.good.1.1.0 }))
      go

-- ---- the whole

pub reading_sound : (bs : List ℕ) (s : Snapshot) → T (are_bytes bs) → reading bs ≡ accepted s → (bs ≡ encode s) × Valid s
unfolding reading count_record
reading_sound bs s bytes e =
    let (z, go) = unless_accepted (count_record bs) 0 _ s e in
    let h = passed forms (only count_form) [] count_values bs z in
    let n : ℕ = get_or (values count_form bs) 0 0 in
    routers_sound bs s n h.good.0 n [] 2 (drop 2 bs) (bytes_drop 2 bs bytes)
    (split_written count_form bs bytes h.due h.whole) (omega arith) tt go
