-- What a policy makes of a snapshot is a snapshot, the same but for preference, mark and MED; and it can be made session by session.
use Rattle.std.specs.Prelude.{ℕ, ◌-◌, ◌*◌, ◌^◌, ◌<◌, ◌≡◌, refl, Bool, false, not, cond, ◌&&◌, List, [], ◌∷◌, ◌++◌, map, length, T, eqb, ltb, leb}
use Rattle.std.proofs.Common.{arith, sym, ap, ap₂, ◌∙◌, subst}
use Rattle.std.proofs.lemmas.List.{map-append, length-map}
use Rattle.std.proofs.lemmas.List.Edits.{sets}
use Rattle.model.specs.Decision.{Route}
use Rattle.model.proofs.RowLaws.{by}
use Rattle.snapshot.specs.declared.Counts.{Counts}
use Rattle.snapshot.specs.Limits.{longest_path, last_origin}
use Rattle.snapshot.specs.Ranges.{none, any_of, asn_tests, route_tests, rises, rises_route}
use Rattle.snapshot.proofs.RangesLaws.{none_swap}
use Rattle.snapshot.specs.Records.{four_byte, route_form_by, sum, Fits}
use Rattle.snapshot.proofs.RecordsLaws.{of_routes}
use Rattle.snapshot.specs.Format.{Prefix, Snapshot, Each, latest, GoodRoute, GoodPrefix, Valid, routes_in, route_fields, encode}
use Rattle.snapshot.proofs.WrittenLaws.{route_size, encode_size}
use Rattle.snapshot.specs.Tables.{Columns, Tables, Room, put_routes, filled, Held, counts_of, all_routes}
use Rattle.tables.specs.PartsLaws.{tables_are, columns_are}
use Rattle.tables.specs.FilledLaws.{filled_held}
use Rattle.policy.specs.Policy.{Clause, exact, direct, any, Policy, GoodClause, GoodSession}
use Rattle.policy.specs.Policy as policies
use Rattle.policy.specs.Rewriting.{usual, fits, preference_of, preferred, with, heard_on, by_session, ruled, ruled_prefix, rewritten, with_rows, put_ruled}

-- ---- the fields that stay

-- what a route keeps whatever its preference, mark and MED become
module _ {A : Type 0} (f : Route → A) (keeps : (r : Route) (preference mark med : ℕ) → f (with r preference mark med) ≡ f r) where
  pub ruled_keeps : (policy : Policy) (address bits : ℕ) (r : Route) → f (ruled policy address bits r) ≡ f r
  ruled_keeps [] address bits r = keeps r usual r.mark r.med
  ruled_keeps (s ∷ ss) address bits r =
      by (heard_on s r)
      (λ e. ap (λ (b : Bool). f (cond b (by_session s address bits r) (ruled ss address bits r))) e ∙ keeps r (preferred s.clauses address bits r.path r.asn) (cond s.zero 1 r.mark) (cond s.zero 0 r.med))
      (λ e. ap (λ (b : Bool). f (cond b (by_session s address bits r) (ruled ss address bits r))) e ∙ ruled_keeps ss address bits r)

  routes_keep : (policy : Policy) (address bits : ℕ) (rs : List Route) → map f (map (ruled policy address bits) rs) ≡ map f rs
  routes_keep policy address bits [] = refl
  routes_keep policy address bits (r ∷ rs) = ap₂ {C = List A} ◌∷◌ (ruled_keeps policy address bits r) (routes_keep policy address bits rs)

  pub all_keep : (policy : Policy) (ps : List Prefix) → map f (all_routes (map (ruled_prefix policy) ps)) ≡ map f (all_routes ps)
  all_keep policy [] = refl
  all_keep policy (p ∷ ps) =
      map-append f (map (ruled policy p.address p.bits) p.routes) (all_routes (map (ruled_prefix policy) ps))
      ∙ ap₂ {C = List A} ◌++◌ (routes_keep policy p.address p.bits p.routes) (all_keep policy ps)
      ∙ sym (map-append f p.routes (all_routes ps))

-- without a session every route gets the usual preference, and nothing else of it changes
pub all_usual : (ps : List Prefix) → all_routes (map (ruled_prefix []) ps) ≡ map (λ r. with r usual r.mark r.med) (all_routes ps)
all_usual [] = refl
all_usual (p ∷ ps) =
    let f : Route → Route = λ r. with r usual r.mark r.med in
    ap (λ (rs : List Route). map f p.routes ++ rs) (all_usual ps) ∙ sym (map-append f p.routes (all_routes ps))

-- and what a prefix keeps
pub prefixes_keep : {A : Type 0} (f : Prefix → A) (policy : Policy) → ((p : Prefix) → f (ruled_prefix policy p) ≡ f p) → (ps : List Prefix) → map f (map (ruled_prefix policy) ps) ≡ map f ps
prefixes_keep f policy k [] = refl
prefixes_keep {A} f policy k (p ∷ ps) = ap₂ {C = List A} ◌∷◌ (k p) (prefixes_keep f policy k ps)

-- ---- the ranges

preference_small : {before : List Clause} (c : Clause) → GoodClause before c → preference_of c < 256 ^ 4
preference_small (exact address bits preference) g = g.fits.1.1.0
preference_small (direct asn preference) g = g.fits.1.0
preference_small (any preference) g = g.fits.0

preferred_small : (before cs : List Clause) (address bits path neighbour : ℕ) → Each GoodClause before cs → preferred cs address bits path neighbour < 256 ^ 4
preferred_small before [] address bits path neighbour g = omega arith
preferred_small before (c ∷ cs) address bits path neighbour g =
    by (fits c address bits path neighbour) (λ e. rw e (preference_small c g.0)) (λ e. rw e (preferred_small (before ++ (c ∷ [])) cs address bits path neighbour g.1))

-- a route as a policy may leave it: with another preference, and its MED as it was or a present 0
data Ruled (r : Route) : Route → Type 0 where
  kept : (preference : ℕ) → preference < 256 ^ 4 → Ruled r (with r preference r.mark r.med)
  zeroed : (preference : ℕ) → preference < 256 ^ 4 → Ruled r (with r preference 1 0)

ruled_is : (before policy : Policy) (address bits : ℕ) (r : Route) → Each GoodSession before policy → Ruled r (ruled policy address bits r)
ruled_is before [] address bits r g = kept usual (omega arith)
ruled_is before (s ∷ ss) address bits r g =
    let small : preferred s.clauses address bits r.path r.asn < 256 ^ 4 = preferred_small [] s.clauses address bits r.path r.asn g.0.clauses in
    by (heard_on s r)
    (λ e. subst (λ (b : Bool). Ruled r (cond b (by_session s address bits r) (ruled ss address bits r))) (sym e)
    (by s.zero
    (λ z. subst (λ (b : Bool). Ruled r (with r (preferred s.clauses address bits r.path r.asn) (cond b 1 r.mark) (cond b 0 r.med))) (sym z) (zeroed (preferred s.clauses address bits r.path r.asn) small))
    (λ z. subst (λ (b : Bool). Ruled r (with r (preferred s.clauses address bits r.path r.asn) (cond b 1 r.mark) (cond b 0 r.med))) (sym z) (kept (preferred s.clauses address bits r.path r.asn) small))))
    (λ e. subst (λ (b : Bool). Ruled r (cond b (by_session s address bits r) (ruled ss address bits r))) (sym e) (ruled_is (before ++ (s ∷ [])) ss address bits r g.1))

-- the ranges of a route hold with any preference and with a present MED of 0
zeroed_ranges : (n : ℕ) (r : Route) (preference : ℕ) → T (none (route_tests n r)) → T (none (route_tests n (with r preference 1 0)))
zeroed_ranges n r preference t =
    none_swap
    (leb n r.router ∷ any_of (asn_tests r.asn) ∷ eqb r.path 0 ∷ ltb longest_path r.path ∷ ltb last_origin r.origin ∷ [])
    (ltb 1 r.mark ∷ (eqb r.mark 0 && not (eqb r.med 0)) ∷ []) (false ∷ false ∷ []) (eqb r.nid 0 ∷ eqb r.peer 0 ∷ []) tt t

-- the AS has two bytes or four
fits_by : (w : ℕ) (r r' : Route) → Ruled r r'
    → Fits (1 ∷ w ∷ 4 ∷ 2 ∷ 1 ∷ 1 ∷ 4 ∷ 4 ∷ 4 ∷ []) (route_fields r) → Fits (1 ∷ w ∷ 4 ∷ 2 ∷ 1 ∷ 1 ∷ 4 ∷ 4 ∷ 4 ∷ []) (route_fields r')
fits_by w r _ (kept preference small) h = (h.0, (h.1.0, (small, h.1.1.1)))
fits_by w r _ (zeroed preference small) h =
    (h.0, (h.1.0, (small, (h.1.1.1.0, (h.1.1.1.1.0, (omega arith, (omega arith, h.1.1.1.1.1.1.1)))))))

ruled_fits : (r r' : Route) → Ruled r r' → (four : Bool) → Fits (route_form_by four).widths (route_fields r) → Fits (route_form_by four).widths (route_fields r')
ruled_fits r r' h = of_routes (λ f. Fits f.widths (route_fields r) → Fits f.widths (route_fields r')) (fits_by 2 r r' h) (fits_by 4 r r' h)

ruled_ranges : (n : ℕ) (r r' : Route) → Ruled r r' → T (none (route_tests n r)) → T (none (route_tests n r'))
ruled_ranges n r _ (kept preference small) t = t
ruled_ranges n r _ (zeroed preference small) t = zeroed_ranges n r preference t

-- ---- validity

latest_map : {A B : Type 0} (test : B → Bool) (g : A → B) (xs : List A) → latest test (map g xs) ≡ latest (λ x. test (g x)) xs
latest_map test g [] = refl
latest_map test g (x ∷ []) = refl
latest_map test g (x ∷ y ∷ ys) = latest_map test g (y ∷ ys)

latest_agree : {A : Type 0} (test other : A → Bool) (xs : List A) → ((x : A) → test x ≡ other x) → latest test xs ≡ latest other xs
latest_agree test other [] e = refl
latest_agree test other (x ∷ []) e = e x
latest_agree test other (x ∷ y ∷ ys) e = latest_agree test other (y ∷ ys) e

each_map : {A B : Type 0} (good : List A → A → Type 0) (good' : List B → B → Type 0) (g : A → B)
    → ((before : List A) (x : A) → good before x → good' (map g before) (g x))
    → (before xs : List A) → Each good before xs → Each good' (map g before) (map g xs)
each_map good good' g step before [] h = tt
each_map {B = B} good good' g step before (x ∷ xs) h =
    (step before x h.0, subst (λ (b : List B). Each good' b (map g xs)) (map-append g before (x ∷ [])) (each_map good good' g step (before ++ (x ∷ [])) xs h.1))

module _ (policy : Policy) (good : Each GoodSession [] policy) (n : ℕ) where
  route_good : (address bits : ℕ) (before : List Route) (r : Route) → GoodRoute n before r
      → GoodRoute n (map (ruled policy address bits) before) (ruled policy address bits r)
  route_good address bits before r h =
      let g : Route → Route = ruled policy address bits in
      let is : Ruled r (g r) = ruled_is [] policy address bits r good in
      let same : (q : Route) → rises_route (g q) (g r) ≡ rises_route q r =
      λ q. ap₂ (λ (a b : ℕ). rises a b (g r).router (g r).peer) (ruled_keeps (λ r. r.router) (λ r p m d. refl) policy address bits q) (ruled_keeps (λ r. r.peer) (λ r p m d. refl) policy address bits q)
      ∙ ap₂ (rises q.router q.peer) (ruled_keeps (λ r. r.router) (λ r p m d. refl) policy address bits r) (ruled_keeps (λ r. r.peer) (λ r p m d. refl) policy address bits r) in
      record {
        fits = subst (λ (asn : ℕ). Fits (route_form_by (four_byte asn)).widths (route_fields (g r))) (sym (ruled_keeps (λ r. r.asn) (λ r p m d. refl) policy address bits r))
            (ruled_fits r (g r) is (four_byte r.asn) h.fits);
        obeys = (
          ruled_ranges n r (g r) is h.obeys.0,
          (subst T (sym (latest_map (λ q. rises_route q (g r)) g before ∙ latest_agree (λ q. rises_route (g q) (g r)) (λ q. rises_route q r) before same)) h.obeys.1.0, tt),
        );
      }

  prefix_good : (before : List Prefix) (p : Prefix) → GoodPrefix n before p → GoodPrefix n (map (ruled_prefix policy) before) (ruled_prefix policy p)
  prefix_good before p h = record {
    fits = h.fits;
    obeys = (h.obeys.0, (subst T (sym (latest_map (λ q. rises q.address q.bits p.address p.bits) (ruled_prefix policy) before)) h.obeys.1.0, tt));
    most = omega (arith, h.most, length-map p.routes (ruled policy p.address p.bits));
    routes = each_map (GoodRoute n) (GoodRoute n) (ruled policy p.address p.bits) (route_good p.address p.bits) [] p.routes h.routes;
  }

routes_in_ruled : (policy : Policy) (ps : List Prefix) → routes_in (map (ruled_prefix policy) ps) ≡ routes_in ps
routes_in_ruled policy [] = refl
routes_in_ruled policy (p ∷ ps) = omega (arith, length-map p.routes (ruled policy p.address p.bits), routes_in_ruled policy ps)

pub rewritten_valid : (policy : Policy) (s : Snapshot) → policies.Valid policy → Valid s → Valid (rewritten policy s)
rewritten_valid policy s good v = record {
  count = v.count;
  ids = v.ids;
  square = v.square;
  distances = v.distances;
  few_prefixes = omega (arith, v.few_prefixes, length-map s.prefixes (ruled_prefix policy));
  few_routes = omega (arith, v.few_routes, routes_in_ruled policy s.prefixes);
  prefixes = each_map (GoodPrefix (length s.ids)) (GoodPrefix (length s.ids)) (ruled_prefix policy) (prefix_good policy good.sessions (length s.ids)) [] s.prefixes v.prefixes;
}

pub counts_same : (policy : Policy) (s : Snapshot) → counts_of (rewritten policy s) ≡ counts_of s
counts_same policy s =
    ap₂ (λ (p r : ℕ). record { routers = length s.ids; prefixes = p; routes = r }) (length-map s.prefixes (ruled_prefix policy)) (routes_in_ruled policy s.prefixes)

-- ---- the tables

rows_ruled : (policy : Policy) (ps : List Prefix) (c : Columns) → put_routes c 0 (all_routes ps) ≡ c
    → put_routes c 0 (all_routes (map (ruled_prefix policy) ps)) ≡ put_ruled c (all_routes (map (ruled_prefix policy) ps))
rows_ruled policy ps c e =
    columns_are (put_ruled c (all_routes (map (ruled_prefix policy) ps)))
    (ap (sets c.router 0) (all_keep (λ r. r.router) (λ r p m d. refl) policy ps) ∙ ap (λ (c : Columns). c.router) e)
    (ap (sets c.asn 0) (all_keep (λ r. r.asn) (λ r p m d. refl) policy ps) ∙ ap (λ (c : Columns). c.asn) e)
    refl
    (ap (sets c.path 0) (all_keep (λ r. r.path) (λ r p m d. refl) policy ps) ∙ ap (λ (c : Columns). c.path) e)
    (ap (sets c.origin 0) (all_keep (λ r. r.origin) (λ r p m d. refl) policy ps) ∙ ap (λ (c : Columns). c.origin) e)
    refl
    refl
    (ap (sets c.nid 0) (all_keep (λ r. r.nid) (λ r p m d. refl) policy ps) ∙ ap (λ (c : Columns). c.nid) e)
    (ap (sets c.peer 0) (all_keep (λ r. r.peer) (λ r p m d. refl) policy ps) ∙ ap (λ (c : Columns). c.peer) e)

-- to fill in what a policy makes of the snapshot that tables hold is to write its three columns
pub filled_ruled : {counts : Counts} {t : Tables} (policy : Policy) (s : Snapshot) → Held counts t s
    → filled (rewritten policy s) t ≡ with_rows t (put_ruled t.rows (all_routes (rewritten policy s).prefixes))
filled_ruled {counts} {t} policy s h =
    let e : filled s t ≡ t = h.1 in
    tables_are (with_rows t (put_ruled t.rows (all_routes (rewritten policy s).prefixes)))
    (ap (λ (t : Tables). t.ids) e)
    (ap (λ (t : Tables). t.distances) e)
    (ap (sets t.address 0) (prefixes_keep (λ p. p.address) policy (λ p. refl) s.prefixes) ∙ ap (λ (t : Tables). t.address) e)
    (ap (sets t.bits 0) (prefixes_keep (λ p. p.bits) policy (λ p. refl) s.prefixes) ∙ ap (λ (t : Tables). t.bits) e)
    (ap (sets t.routes 0) (prefixes_keep (λ p. length p.routes) policy (λ p. length-map p.routes (ruled policy p.address p.bits)) s.prefixes) ∙ ap (λ (t : Tables). t.routes) e)
    (rows_ruled policy s.prefixes t.rows (ap (λ (t : Tables). t.rows) e))

-- and the tables then hold it
pub rewritten_held : {counts : Counts} {t : Tables} (policy : Policy) (s : Snapshot) → policies.Valid policy → Valid s → Room t → Held counts t s
    → Held counts (filled (rewritten policy s) t) (rewritten policy s)
rewritten_held {counts} {t} policy s good v room h =
    (h.0 ∙ sym (counts_same policy s), (filled_held (rewritten_valid policy s good v) room).1)

-- and as long as it
pub rewritten_long : (policy : Policy) (s : Snapshot) → length s.distances ≡ length s.ids * (length s.ids - 1) → length (encode (rewritten policy s)) ≡ length (encode s)
rewritten_long policy s square =
    omega (arith, encode_size s square, encode_size (rewritten policy s) square, length-map s.prefixes (ruled_prefix policy), ap sum (all_keep route_size (λ r p m d. refl) policy s.prefixes))
