-- What the checks and the small functions of reading are worth in a proof.
use Rattle.std.specs.Prelude.{ℕ, zero, suc, ◌+◌, ◌≤◌, ◌<◌, ◌≡◌, Bool, true, false, not, length, get_or, drop, T, leb, eqb}
use Rattle.std.proofs.Common.{arith, sym, ap, ◌∙◌, subst, subst₂, le→leb, ltb-false}
use Rattle.std.proofs.Math.Path.{refl}
use mathlib.Core.List.{List, [], ◌∷◌, ◌++◌, append_assoc, append-nil}
use Rattle.std.proofs.Math.Dec.{eqb_refl, eqb-suc-zero}
use Rattle.std.proofs.lemmas.Bool.{eqb-false}
use Rattle.refusal.specs.declared.Refusal.{Refusal}
use Rattle.refusal.specs.declared.Refusal.TheVariants.{Cut, Field}
use Rattle.model.specs.Decision.{Route}
use Rattle.snapshot.specs.Limits.{most_routers, most_in_prefix}
use Rattle.snapshot.specs.Ranges.{none, count_tests}
use Rattle.snapshot.proofs.RangesLaws.{none_at}
use Rattle.snapshot.specs.Records.{Form, Forms, distance_form, prefix_form, route_forms, router_form, written, written_in, stands, known, kind, size, values, Fits, form_in, size_in, values_in}
use Rattle.snapshot.proofs.RecordsLaws.{values_written, length_written, drop_written, Chosen}
use Rattle.snapshot.specs.Format.{Prefix, Snapshot, Pair, Check, ◌else◌, judged, Holds, latest, Each, GoodRoute, GoodPrefix, routes_in, routes_bytes, routers_bytes, distances_bytes, prefixes_bytes, route_fields, encode_open, Valid}
use Rattle.snapshot.specs.Reading.{AnswerOf, accepted, refused, unless, either, is_nil, record_checks, open_routes, add_route, with_prefixes}

-- ---- checks

module _ {A : Type 0} where
  pub judged_passed : (checks : List Check) (stop : Refusal → A) (go : Unit {0} → A) → Holds checks → judged checks stop go ≡ go tt
  unfolding judged
  judged_passed [] stop go h = refl
  judged_passed ((true else r) ∷ checks) stop go h = judged_passed checks stop go h.1
  judged_passed ((false else r) ∷ checks) stop go h = absurd h.0

  pub judged_append : (xs ys : List Check) (stop : Refusal → A) (go : Unit {0} → A) → judged (xs ++ ys) stop go ≡ judged xs stop (λ _. judged ys stop go)
  unfolding judged
  judged_append [] ys stop go = refl
  judged_append ((true else r) ∷ xs) ys stop go = judged_append xs ys stop go
  judged_append ((false else r) ∷ xs) ys stop go = refl

  -- the same checks, and where they hold the same afterwards
  pub judged_same : (checks : List Check) (stop : Refusal → A) (f g : Unit {0} → A) → (Holds checks → f tt ≡ g tt) → judged checks stop f ≡ judged checks stop g
  unfolding judged
  judged_same [] stop f g e = e tt
  judged_same ((true else r) ∷ checks) stop f g e = judged_same checks stop f g (λ h. e (tt, h))
  judged_same ((false else r) ∷ checks) stop f g e = refl

  -- different checks behind the same ones
  pub judged_front : (front xs ys : List Check) (stop : Refusal → A) (f g : Unit {0} → A)
      → (Holds front → judged xs stop f ≡ judged ys stop g) → judged (front ++ xs) stop f ≡ judged (front ++ ys) stop g
  judged_front front xs ys stop f g e =
      judged_append front xs stop f ∙ judged_same front stop (λ _. judged xs stop f) (λ _. judged ys stop g) e ∙ sym (judged_append front ys stop g)

-- what was judged was refused, or all held; and then the same checks, judged for another purpose, come out alike
pub judged_cases : {A B G : Type 0} (checks : List Check) (stop : Refusal → A) (go : Unit {0} → A) (stop' : Refusal → B) (go' : Unit {0} → B) (x : A)
    → judged checks stop go ≡ x
    → ((r : Refusal) → stop r ≡ x → judged checks stop' go' ≡ stop' r → G)
    → (Holds checks → go tt ≡ x → judged checks stop' go' ≡ go' tt → G)
    → G
unfolding judged
judged_cases [] stop go stop' go' x e f g = g tt e refl
judged_cases ((true else r) ∷ checks) stop go stop' go' x e f g = judged_cases checks stop go stop' go' x e f (λ h. g (tt, h))
judged_cases ((false else r) ∷ checks) stop go stop' go' x e f g = f r e refl

pub holds_append : (xs ys : List Check) → Holds (xs ++ ys) → Holds xs × Holds ys
holds_append [] ys h = (tt, h)
holds_append ((b else k) ∷ xs) ys h = let (hx, hy) = holds_append xs ys h.1 in ((h.0, hx), hy)

append_holds : (xs ys : List Check) → Holds xs → Holds ys → Holds (xs ++ ys)
append_holds [] ys hx hy = hy
append_holds ((b else k) ∷ xs) ys hx hy = (hx.0, append_holds xs ys hx.1 hy)

-- a record that passed its checks
pub record Passed (fs : Forms) (extra : List Check) (checks : List ℕ → List Check) (bs : List ℕ) : Type 0 where
  pub due : T (stands fs (kind bs))
  pub free : Holds extra
  pub whole : T (leb (size_in fs bs) (length bs))
  pub its : T (eqb (form_in fs bs).kind (fs.chosen (values_in fs bs)).kind)
  pub good : Holds (checks (values_in fs bs))

module _ (table : List Form) (fs : Forms) (extra : List Check) (checks : List ℕ → List Check) (bs : List ℕ) where
  abbrev body : List Check
  body =
      (leb (size_in fs bs) (length bs) else Cut)
      ∷ (eqb (form_in fs bs).kind (fs.chosen (values_in fs bs)).kind else Field)
      ∷ checks (values_in fs bs)

  pub passed : Holds (record_checks table fs extra checks bs) → Passed fs extra checks bs
  unfolding record_checks
  passed h = let (free, rest) = holds_append extra body h.1.1.1 in record { due = h.1.1.0; free = free; whole = rest.0; its = rest.1.0; good = rest.1.1 }

  pub passing : T (not (is_nil bs)) → T (known table (kind bs)) → Passed fs extra checks bs → Holds (record_checks table fs extra checks bs)
  unfolding record_checks
  passing one some p = (one, (some, (p.due, append_holds extra body p.free (p.whole, (p.its, p.good)))))

-- ---- a record that was written passes its checks

module _ (table : List Form) (fs : Forms) (ch : Chosen table fs) (vs rest : List ℕ) (fit : Fits (fs.chosen vs).widths vs) where
  abbrev its : Form
  its = fs.chosen vs

  abbrev back : List ℕ
  back = written_in fs vs ++ rest

  is_chosen : form_in fs back ≡ its
  is_chosen = ch.found vs

  pub stands_back : T (stands fs (kind back))
  stands_back = subst (λ (g : Form). T (eqb its.kind g.kind)) (sym is_chosen) (eqb_refl its.kind)

  pub values_back : values_in fs back ≡ vs
  values_back = ap (λ (g : Form). values g back) is_chosen ∙ values_written its vs rest fit

  pub drop_back : drop (size_in fs back) back ≡ rest
  drop_back = ap (λ (g : Form). drop (size g) back) is_chosen ∙ drop_written its vs rest fit

  pub record_passes : (extra : List Check) (checks : List ℕ → List Check) → Holds extra → Holds (checks vs) → Holds (record_checks table fs extra checks back)
  record_passes extra checks free h =
      passing table fs extra checks back tt (ch.listed vs)
      (record {
        due = stands_back;
        free = free;
        whole = subst (λ (g : Form). T (leb (size g) (length back))) (sym is_chosen) (le→leb (size its) _ (rw (length_written its vs rest fit) (omega arith)));
        its = subst₂ (λ (g : Form) (v : List ℕ). T (eqb g.kind (fs.chosen v).kind)) (sym is_chosen) (sym values_back) (eqb_refl its.kind);
        good = subst (λ (v : List ℕ). Holds (checks v)) (sym values_back) h;
      })

-- ---- ranges

-- a number of routers that passed
pub count_range : (n : ℕ) → T (none (count_tests n)) → (1 ≤ n) × (n ≤ most_routers)
count_range n t =
    let z = eqb-false n 0 (none_at (count_tests n) t 0) in
    let m : n ≤ most_routers = ltb-false most_routers n (none_at (count_tests n) t 1) in
    (omega arith, m)

-- a valid snapshot has at most 64 routers
pub routers_few : {s : Snapshot} → Valid s → length s.ids ≤ most_routers
routers_few {s} valid = (count_range (length s.ids) valid.count).1

-- ---- answers

pub refused_not_accepted : {A : Type 0} {r : Refusal} {at : ℕ} {s : A} → refused r at ≡ accepted s → ⊥
refused_not_accepted e = let z : ◌≡◌ {A = ℕ} 0 1 = cc in omega arith

pub accepted_injective : {A : Type 0} {s t : A} → accepted s ≡ accepted t → s ≡ t
accepted_injective e = cc

pub unless_accepted : {A : Type 0} (checks : List Check) (at : ℕ) (go : Unit {0} → AnswerOf A) (s : A) → unless checks at go ≡ accepted s → Holds checks × (go tt ≡ accepted s)
unfolding judged
unless_accepted [] at go s e = (tt, e)
unless_accepted ((true else r) ∷ checks) at go s e = let (h, i) = unless_accepted checks at go s e in ((tt, h), i)
unless_accepted ((false else r) ∷ checks) at go s e = absurd (refused_not_accepted e)

pub either_cases : {A G : Type 0} (b : Bool) (yea nay : Unit {0} → A) (a : A) → either b yea nay ≡ a
    → (T b → yea tt ≡ a → G) → (T (not b) → nay tt ≡ a → G) → G
unfolding either
either_cases true yea nay a e f g = f tt e
either_cases false yea nay a e f g = g tt e

-- ---- one more at the end of a list

module _ {A : Type 0} (good : List A → A → Type 0) where
  pub each_snoc : (before xs : List A) (x : A) → Each good before xs → good (before ++ xs) x → Each good before (xs ++ (x ∷ []))
  each_snoc before [] x h g = (rw append-nil at g, tt)
  each_snoc before (y ∷ ys) x h g = (h.0, each_snoc (before ++ (y ∷ [])) ys x h.1 (rw append_assoc g))

pub length_snoc : {A : Type 0} (xs : List A) (x : A) → length (xs ++ (x ∷ [])) ≡ suc (length xs)
length_snoc [] x = refl
length_snoc (y ∷ ys) x = ap suc (length_snoc ys x)

-- the latest of a list, for a program that has it at its place in a table
pub latest_snoc : {A : Type 0} (test : A → Bool) (xs : List A) (x : A) → latest test (xs ++ (x ∷ [])) ≡ test x
latest_snoc test [] x = refl
latest_snoc test (y ∷ []) x = refl
latest_snoc test (y ∷ z ∷ ys) x = latest_snoc test (z ∷ ys) x

pub latest_at : {A : Type 0} (test : A → Bool) (xs : List A) (d : A) (i : ℕ) → length xs ≡ suc i → latest test xs ≡ test (get_or xs i d)
latest_at test [] d i e = absurd (let q : 0 ≡ suc i = e in omega arith)
latest_at test (x ∷ []) d zero e = refl
latest_at test (x ∷ []) d (suc i) e = absurd (let q : 1 ≡ suc (suc i) = e in omega arith)
latest_at test (x ∷ y ∷ ys) d zero e = absurd (let q : suc (suc (length ys)) ≡ 1 = e in omega arith)
latest_at test (x ∷ y ∷ ys) d (suc i) e = latest_at test (y ∷ ys) d i (let q : suc (suc (length ys)) ≡ suc (suc i) = e in omega arith)

pub snoc_some : {A : Type 0} (xs : List A) (x : A) → T (not (eqb (length (xs ++ (x ∷ []))) 0))
snoc_some [] x = tt
snoc_some (y ∷ ys) x = rw (eqb-suc-zero (length (ys ++ (x ∷ [])))) tt

pub routers_snoc : (i : ℕ) (ids : List ℕ) (id : ℕ) → routers_bytes i (ids ++ (id ∷ [])) ≡ routers_bytes i ids ++ written router_form ((i + length ids) ∷ id ∷ [])
routers_snoc i [] id = ap (λ (j : ℕ). written router_form (j ∷ id ∷ [])) (let e : i ≡ i + 0 = omega arith in e)
routers_snoc i (x ∷ ids) id =
    ap (λ (r : List ℕ). written router_form (i ∷ x ∷ []) ++ r)
    (routers_snoc (suc i) ids id
    ∙ ap (λ (j : ℕ). routers_bytes (suc i) ids ++ written router_form (j ∷ id ∷ [])) (let e : suc i + length ids ≡ i + suc (length ids) = omega arith in e))

nil_not_cons : {A : Type 0} {x : A} {xs : List A} → ◌≡◌ {A = List A} [] (x ∷ xs) → ⊥
nil_not_cons e = let z : ◌≡◌ {A = ℕ} 0 1 = cc in omega arith

head_is : {A : Type 0} {x y : A} {xs ys : List A} → ◌≡◌ {A = List A} (x ∷ xs) (y ∷ ys) → x ≡ y
head_is e = cc

pub distances_snoc : (ps : List Pair) (ds : List ℕ) (p : Pair) (due : List Pair) (d : ℕ) → drop (length ds) ps ≡ p ∷ due
    → distances_bytes ps (ds ++ (d ∷ [])) ≡ distances_bytes ps ds ++ written distance_form (p.from ∷ p.to ∷ d ∷ [])
distances_snoc [] [] p due d e = absurd (nil_not_cons e)
distances_snoc [] (x ∷ ds) p due d e = absurd (nil_not_cons e)
distances_snoc (q ∷ ps) [] p due d e = ap (λ (r : Pair). written distance_form (r.from ∷ r.to ∷ d ∷ [])) (head_is e)
distances_snoc (q ∷ ps) (x ∷ ds) p due d e = ap (λ (r : List ℕ). written distance_form (q.from ∷ q.to ∷ x ∷ []) ++ r) (distances_snoc ps ds p due d e)

-- ---- one more prefix, one more route

pub prefixes_append : (ps qs : List Prefix) → prefixes_bytes (ps ++ qs) ≡ prefixes_bytes ps ++ prefixes_bytes qs
prefixes_append [] qs = refl
prefixes_append (p ∷ ps) qs =
    ap (λ (r : List ℕ). written prefix_form (p.address ∷ p.bits ∷ []) ++ r)
    (ap (λ (r : List ℕ). routes_bytes p.routes ++ r) (prefixes_append ps qs) ∙ sym (append_assoc (routes_bytes p.routes) (prefixes_bytes ps) (prefixes_bytes qs)))

pub routes_append : (rs qs : List Route) → routes_bytes (rs ++ qs) ≡ routes_bytes rs ++ routes_bytes qs
routes_append [] qs = refl
routes_append (r ∷ rs) qs =
    ap (λ (l : List ℕ). written_in route_forms (route_fields r) ++ l) (routes_append rs qs)
    ∙ sym (append_assoc (written_in route_forms (route_fields r)) (routes_bytes rs) (routes_bytes qs))

routes_snoc : (rs : List Route) (r : Route) → routes_bytes (rs ++ (r ∷ [])) ≡ routes_bytes rs ++ written_in route_forms (route_fields r)
routes_snoc rs r = routes_append rs (r ∷ []) ∙ ap (λ (l : List ℕ). routes_bytes rs ++ l) (append-nil (written_in route_forms (route_fields r)))

pub some_prefix : (P : List Prefix → Type 0) → ((p : Prefix) (ps : List Prefix) → P (p ∷ ps)) → (ps : List Prefix) → T (not (eqb (length ps) 0)) → P ps
some_prefix P f [] h = absurd h
some_prefix P f (p ∷ ps) h = f p ps

pub prefixes_add : (p : Prefix) (ps : List Prefix) (r : Route)
    → prefixes_bytes (add_route (p ∷ ps) r) ≡ prefixes_bytes (p ∷ ps) ++ written_in route_forms (route_fields r)
prefixes_add p [] r =
    ap (λ (l : List ℕ). written prefix_form (p.address ∷ p.bits ∷ []) ++ l)
    (append-nil (routes_bytes (p.routes ++ (r ∷ []))) ∙ routes_snoc p.routes r
    ∙ ap (λ (l : List ℕ). l ++ written_in route_forms (route_fields r)) (sym (append-nil (routes_bytes p.routes))))
prefixes_add p (q ∷ ps) r =
    ap (λ (l : List ℕ). written prefix_form (p.address ∷ p.bits ∷ []) ++ l)
    (ap (λ (l : List ℕ). routes_bytes p.routes ++ l) (prefixes_add q ps r)
    ∙ sym (append_assoc (routes_bytes p.routes) (prefixes_bytes (q ∷ ps)) (written_in route_forms (route_fields r))))

pub length_add : (p : Prefix) (ps : List Prefix) (r : Route) → length (add_route (p ∷ ps) r) ≡ suc (length ps)
length_add p [] r = refl
length_add p (q ∷ ps) r = ap suc (length_add q ps r)

pub routes_in_append : (ps qs : List Prefix) → routes_in (ps ++ qs) ≡ routes_in ps + routes_in qs
routes_in_append [] qs = omega arith
routes_in_append (p ∷ ps) qs = let ih = routes_in_append ps qs in omega arith

pub routes_in_add : (p : Prefix) (ps : List Prefix) (r : Route) → routes_in (add_route (p ∷ ps) r) ≡ suc (routes_in (p ∷ ps))
routes_in_add p [] r = let e = length_snoc p.routes r in omega arith
routes_in_add p (q ∷ ps) r = let ih = routes_in_add q ps r in omega arith

pub each_add : (n : ℕ) (before : List Prefix) (p : Prefix) (ps : List Prefix) (r : Route) → Each (GoodPrefix n) before (p ∷ ps)
    → length (open_routes (p ∷ ps)) < most_in_prefix → GoodRoute n (open_routes (p ∷ ps)) r → Each (GoodPrefix n) before (add_route (p ∷ ps) r)
each_add n before p [] r h l g = (
  record {
    fits = h.0.fits;
    obeys = h.0.obeys;
    most = rw length_snoc l;
    routes = each_snoc (GoodRoute n) [] p.routes r h.0.routes g;
  },
  tt,
)
each_add n before p (q ∷ ps) r h l g = (h.0, each_add n (before ++ (p ∷ [])) q ps r h.1 l g)

-- the bytes of a snapshot with more prefixes
pub open_more : (s : Snapshot) (ps : List Prefix) (more : List ℕ) → prefixes_bytes ps ≡ prefixes_bytes s.prefixes ++ more
    → encode_open (with_prefixes s ps) ≡ encode_open s ++ more
open_more s ps more e = rw e (simp append_assoc)
