-- The snapshot of the most routers, prefixes and routes is valid, and has the length that none exceeds.
use Rattle.std.specs.Prelude.{ℕ, zero, suc, ◌+◌, ◌*◌, ◌-◌, ◌≤◌, ◌≡◌, refl, Bool, false, not, ◌&&◌, ◌||◌, List, [], ◌∷◌, ◌++◌, length, replicate, T, eqb}
use Rattle.std.proofs.Math.Nat.{mod-one}
use Rattle.std.proofs.Common.{arith, sym, ap, ap₂, ◌∙◌, subst, lt→ltb, lit<, lit≤, ne_eqb, lt-ltb}
use Rattle.std.proofs.lemmas.List.{length-replicate}
use Rattle.std.proofs.Math.Dec.{eqb-suc-zero}
use Rattle.model.specs.Rows.{some, span}
use Rattle.model.specs.Decision.{Route}
use Rattle.snapshot.specs.Limits.{most_routers, most_prefixes, most_in_prefix, most_routes, most_bits, longest}
use Rattle.snapshot.specs.Ranges.{rises, rises_route}
use Rattle.snapshot.specs.Format.{Prefix, Each, GoodId, GoodDistance, GoodRoute, GoodPrefix, Valid, latest, encode}
use Rattle.snapshot.proofs.ChecksLaws.{latest_snoc}
use Rattle.snapshot.proofs.WrittenLaws.{encode_size}
use Rattle.snapshot.specs.Longest.{route_from, routes_after, prefixes_on, full_snapshot}

-- ---- the ids 1, 2, ..

span_more : (from n : ℕ) → span from n ++ ((from + n) ∷ []) ≡ span from (suc n)
span_more from zero = ap (λ (k : ℕ). k ∷ []) (let e : from + 0 ≡ from = omega arith in e)
span_more from (suc n) =
    ap {B = List ℕ} (λ l. from ∷ l) (ap (λ (k : ℕ). span (suc from) n ++ (k ∷ [])) (let e : from + suc n ≡ suc from + n = omega arith in e) ∙ span_more (suc from) n)

not_among : (x from n : ℕ) → from + n ≤ x → some (eqb x) (span from n) ≡ false
not_among x from zero h = refl
not_among x from (suc n) h =
    ap₂ ◌||◌ (ne_eqb x from (let e : x ≡ from → ⊥ = λ e. omega arith in e)) (not_among x (suc from) n (omega arith))

ids_good : (given left : ℕ) → given + left ≤ most_routers → Each GoodId (span 1 given) (span (1 + given) left)
ids_good given zero h = tt
ids_good given (suc left) h = (
  record {
    fits = omega arith;
    ranges = subst (λ (b : Bool). T (not b)) (sym (ne_eqb (1 + given) 0 (let e : 1 + given ≡ 0 → ⊥ = λ e. omega arith in e))) tt;
    alone = subst (λ (b : Bool). T (not b)) (sym (not_among (1 + given) 1 given (omega arith))) tt;
  },
  subst (λ (l : List ℕ). Each GoodId l (span (suc (1 + given)) left)) (sym (span_more 1 given))
      (subst (λ (k : ℕ). Each GoodId (span 1 (suc given)) (span k left)) (let e : 1 + suc given ≡ suc (1 + given) = omega arith in e) (ids_good (suc given) left (omega arith))),
)

-- ---- distances of 0

distances_good : (before : List ℕ) (n : ℕ) → Each GoodDistance before (replicate n 0)
distances_good before zero = tt
distances_good before (suc n) = (tt, distances_good (before ++ (0 ∷ [])) n)

-- ---- routes that rise by peer

routes_more : (peer n : ℕ) → routes_after peer n ++ (route_from (suc (peer + n)) ∷ []) ≡ routes_after peer (suc n)
routes_more peer zero = ap (λ (k : ℕ). route_from (suc k) ∷ []) (let e : peer + 0 ≡ peer = omega arith in e)
routes_more peer (suc n) =
    ap {B = List Route} (λ l. route_from (suc peer) ∷ l)
    (ap (λ (k : ℕ). routes_after (suc peer) n ++ (route_from (suc k) ∷ [])) (let e : peer + suc n ≡ suc peer + n = omega arith in e) ∙ routes_more (suc peer) n)

-- the latest of so many rises below the next
routes_rise : (given : ℕ) → T (latest (λ q. rises_route q (route_from (suc given))) (routes_after 0 given))
routes_rise zero = tt
routes_rise (suc given) =
    subst (λ (l : List Route). T (latest (λ q. rises_route q (route_from (suc (suc given)))) l)) (routes_more 0 given)
    (subst T (sym (latest_snoc (λ q. rises_route q (route_from (suc (suc given)))) (routes_after 0 given) (route_from (suc (0 + given)))))
    (lt→ltb (suc (0 + given)) (suc (suc given)) (omega arith)))

routes_good : (given left : ℕ) → given + left ≤ most_in_prefix → Each (GoodRoute most_routers) (routes_after 0 given) (routes_after given left)
routes_good given zero h = tt
routes_good given (suc left) h = (
  record {
    fits = (lit< tt, (lit< tt, (lit< tt, (lit< tt, (lit< tt, (lit< tt, (lit< tt, (lit< tt, (omega arith, tt)))))))));
    obeys = (subst (λ (b : Bool). T (not b)) (sym (eqb-suc-zero given)) tt, (routes_rise given, tt));
  },
  subst (λ (l : List Route). Each (GoodRoute most_routers) l (routes_after (suc given) left))
      (sym (ap (λ (k : ℕ). routes_after 0 given ++ (route_from (suc k) ∷ [])) (let e : given ≡ 0 + given = omega arith in e) ∙ routes_more 0 given))
      (routes_good (suc given) left (omega arith)),
)

-- ---- prefixes that rise by address

abbrev prefix_at : ℕ → Prefix
prefix_at address = record { address = address; bits = most_bits; routes = routes_after 0 16 }

prefixes_more : (address n : ℕ) → prefixes_on address n ++ (prefix_at (address + n) ∷ []) ≡ prefixes_on address (suc n)
prefixes_more address zero = ap (λ (k : ℕ). prefix_at k ∷ []) (let e : address + 0 ≡ address = omega arith in e)
prefixes_more address (suc n) =
    ap {B = List Prefix} (λ l. prefix_at address ∷ l)
    (ap (λ (k : ℕ). prefixes_on (suc address) n ++ (prefix_at k ∷ [])) (let e : address + suc n ≡ suc address + n = omega arith in e) ∙ prefixes_more (suc address) n)

prefixes_rise : (given : ℕ) → T (latest (λ p. rises p.address p.bits given most_bits) (prefixes_on 0 given))
prefixes_rise zero = tt
prefixes_rise (suc given) =
    subst (λ (l : List Prefix). T (latest (λ p. rises p.address p.bits (suc given) most_bits) l)) (prefixes_more 0 given)
    (subst T (sym (latest_snoc (λ p. rises p.address p.bits (suc given) most_bits) (prefixes_on 0 given) (prefix_at (0 + given))
    ∙ ap (λ (b : Bool). b || eqb (0 + given) (suc given) && false) (lt-ltb (0 + given) (suc given) (omega arith)))) tt)

prefixes_good : (given left : ℕ) → given + left ≤ most_prefixes → Each (GoodPrefix most_routers) (prefixes_on 0 given) (prefixes_on given left)
prefixes_good given zero h = tt
prefixes_good given (suc left) h = (
  record {
    fits = omega arith;
    obeys = (subst (λ (k : ℕ). T (not (not (eqb k 0)))) (sym (mod-one given)) tt, (prefixes_rise given, tt));
    most = lit≤ tt;
    routes = routes_good 0 16 (lit≤ tt);
  },
  subst (λ (l : List Prefix). Each (GoodPrefix most_routers) l (prefixes_on (suc given) left))
      (sym (ap (λ (k : ℕ). prefixes_on 0 given ++ (prefix_at k ∷ [])) (let e : given ≡ 0 + given = omega arith in e) ∙ prefixes_more 0 given))
      (prefixes_good (suc given) left (omega arith)),
)

-- ---- the whole

pub full_valid : Valid full_snapshot
full_valid = record {
  count = tt;
  ids = ids_good 0 most_routers (lit≤ tt);
  square = length-replicate {A = ℕ} (most_routers * (most_routers - 1)) 0;
  distances = distances_good [] (most_routers * (most_routers - 1));
  few_prefixes = lit≤ tt;
  few_routes = lit≤ tt;
  prefixes = prefixes_good 0 most_prefixes (lit≤ tt);
}

pub full_long : length (encode full_snapshot) ≡ longest
full_long =
    let d : length full_snapshot.distances ≡ most_routers * (most_routers - 1) = length-replicate {A = ℕ} (most_routers * (most_routers - 1)) 0 in
    encode_size full_snapshot d ∙ ap (λ (k : ℕ). 7 + 6 * most_routers + 7 * k + 6 * most_prefixes + 26 * most_routes) d
