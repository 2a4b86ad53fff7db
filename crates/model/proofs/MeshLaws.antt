-- A prefix is decided by its rows' fields, by MEDs as they count, and by the ids and distances of its own routers: two meshes that
-- agree in these have the same stable assignments and standings.
use Rattle.std.specs.Prelude.{ℕ, ◌<◌, ◌≤◌, ◌≡◌, cond, List, eqb, get_or}
use Rattle.std.proofs.Common.{arith, sym, ap, subst, ◌∙◌}
use Rattle.model.specs.Rows.{least, keep_least}
use Rattle.model.proofs.RowLaws.{In, Agree, agree_keep}
use Rattle.model.proofs.LeastLaws.{keep_least_agree}
use Rattle.model.specs.Decision.{Mesh, none, all, own_of, metric, far, tie_id, preferred, unbeaten, own_if_any, choice}
use Rattle.model.proofs.DecisionLaws.{in_all, picks_preferred, picks_unbeaten, picks_own}
use Rattle.model.specs.Stability.{Sound, available, Stable, standing, Between}
use Rattle.model.proofs.StabilityLaws.{available_all}

-- what two meshes agree in
pub record Alike (M N : Mesh) : Type 0 where
  pub routers : M.routers ≡ N.routers
  pub rows : M.rows ≡ N.rows
  pub router : M.router ≡ N.router
  pub asn : M.asn ≡ N.asn
  pub preference : M.preference ≡ N.preference
  pub path : M.path ≡ N.path
  pub origin : M.origin ≡ N.origin
  pub metric : metric M ≡ metric N
  pub nid : M.nid ≡ N.nid
  pub peer : M.peer ≡ N.peer
  pub id : (r : ℕ) → r < M.routers → M.id r ≡ N.id r
  pub distance : (a b : ℕ) → a < M.routers → b < M.routers → M.distance a b ≡ N.distance a b

-- a mesh whose MEDs stand as they count
abbrev built : (ℕ → ℕ) → (ℕ → ℕ → ℕ) → ℕ → ℕ → (router asn preference path origin med nid peer : ℕ → ℕ) → Mesh
built id distance routers rows router asn preference path origin med nid peer = record {
  routers = routers;
  id = id;
  distance = distance;
  rows = rows;
  router = router;
  asn = asn;
  preference = preference;
  path = path;
  origin = origin;
  mark = λ q. 1;
  med = med;
  nid = nid;
  peer = peer;
}

module _ (M N : Mesh) (alike : Alike M N) where
  -- M with the ids and distances of N
  abbrev mixed : Mesh
  mixed = built N.id N.distance M.routers M.rows M.router M.asn M.preference M.path M.origin (metric M) M.nid M.peer

  -- whatever is made of a mesh's other parts is the same of both
  module _ {A : Type 0} (of : Mesh → A) where
    abbrev made : ℕ → ℕ → (router asn preference path origin med nid peer : ℕ → ℕ) → A
    made routers rows router asn preference path origin med nid peer =
        of (built N.id N.distance routers rows router asn preference path origin med nid peer)

    same : of mixed ≡ made N.routers N.rows N.router N.asn N.preference N.path N.origin (metric N) N.nid N.peer
    same =
        ap (λ (f : ℕ). made f M.rows M.router M.asn M.preference M.path M.origin (metric M) M.nid M.peer) alike.routers
        ∙ ap (λ (f : ℕ). made N.routers f M.router M.asn M.preference M.path M.origin (metric M) M.nid M.peer) alike.rows
        ∙ ap (λ (f : ℕ → ℕ). made N.routers N.rows f M.asn M.preference M.path M.origin (metric M) M.nid M.peer) alike.router
        ∙ ap (λ (f : ℕ → ℕ). made N.routers N.rows N.router f M.preference M.path M.origin (metric M) M.nid M.peer) alike.asn
        ∙ ap (λ (f : ℕ → ℕ). made N.routers N.rows N.router N.asn f M.path M.origin (metric M) M.nid M.peer) alike.preference
        ∙ ap (λ (f : ℕ → ℕ). made N.routers N.rows N.router N.asn N.preference f M.origin (metric M) M.nid M.peer) alike.path
        ∙ ap (λ (f : ℕ → ℕ). made N.routers N.rows N.router N.asn N.preference N.path f (metric M) M.nid M.peer) alike.origin
        ∙ ap (λ (f : ℕ → ℕ). made N.routers N.rows N.router N.asn N.preference N.path N.origin f M.nid M.peer) alike.metric
        ∙ ap (λ (f : ℕ → ℕ). made N.routers N.rows N.router N.asn N.preference N.path N.origin (metric N) f M.peer) alike.nid
        ∙ ap (λ (f : ℕ → ℕ). made N.routers N.rows N.router N.asn N.preference N.path N.origin (metric N) N.nid f) alike.peer

  module _ (sound : Sound M) (r : ℕ) (known : r < M.routers) (rows : List ℕ) (within : (q : ℕ) → In q rows → In q (all M)) where
    abbrev left : List ℕ
    left = own_if_any M r (unbeaten M (preferred M rows))

    left_known : (q : ℕ) → In q left → M.router q < M.routers
    left_known q m =
        sound.owned q (in_all M (within q ((picks_preferred M).from rows ((picks_unbeaten M).from (preferred M rows) ((picks_own M r).from (unbeaten M (preferred M rows)) m)))))

    same_far : Agree (far M r) (far mixed r) left
    same_far q m = ap (λ (d : ℕ). cond (own_of M r q) 0 d) (alike.distance r (M.router q) known (left_known q m))

    same_tie : Agree (tie_id M r) (tie_id mixed r) left
    same_tie q m = ap (λ (d : ℕ). cond (own_of M r q) (M.nid q) d) (alike.id (M.router q) (left_known q m))

    same_choice : choice M r rows ≡ choice N r rows
    same_choice =
        ap (λ (l : List ℕ). get_or (keep_least M.peer (keep_least (tie_id M r) l)) 0 none) (keep_least_agree (far M r) (far mixed r) left same_far)
        ∙ ap (λ (l : List ℕ). get_or (keep_least M.peer l) 0 none) (keep_least_agree (tie_id M r) (tie_id mixed r) (keep_least (far mixed r) left)
        (agree_keep (tie_id M r) (tie_id mixed r) (λ z. eqb (far mixed r z) (least (far mixed r) left)) left same_tie))
        ∙ same (λ K. choice K r rows)

  same_chosen : Sound M → (held : List ℕ) (r : ℕ) → r < M.routers → choice M r (available M held r) ≡ choice N r (available N held r)
  same_chosen sound held r l =
      same_choice sound r l (available M held r) (available_all M held r) ∙ ap (choice N r) (same (λ K. available K held r))

  same_standing : (r q : ℕ) → standing M r q ≡ standing N r q
  same_standing r q = same (λ K. standing K r q)

  stable_to : Sound M → (held : List ℕ) → Stable M held → Stable N held
  stable_to sound held st = record {
    size = st.size ∙ alike.routers;
    chosen = λ r l. (let k = subst (λ (n : ℕ). r < n) (sym alike.routers) l in st.chosen r k ∙ same_chosen sound held r k);
  }

  stable_from : Sound M → (held : List ℕ) → Stable N held → Stable M held
  stable_from sound held st = record {
    size = st.size ∙ sym alike.routers;
    chosen = λ r l. st.chosen r (subst (λ (n : ℕ). r < n) alike.routers l) ∙ sym (same_chosen sound held r l);
  }

  -- a forecast of the one is a forecast of the other
  pub between_alike : Sound M → (early late : List ℕ) → Between M early late → Between N early late
  between_alike sound early late b = record {
    early_stable = stable_to sound early b.early_stable;
    late_stable = stable_to sound late b.late_stable;
    low = λ held st r l. omega (arith, same_standing r (get_or early r none), same_standing r (get_or held r none), b.low held (stable_from sound held st) r (known l));
    high = λ held st r l. omega (arith, same_standing r (get_or late r none), same_standing r (get_or held r none), b.high held (stable_from sound held st) r (known l));
  }
    where
      known : {r : ℕ} → r < N.routers → r < M.routers
      known l = omega (arith, alike.routers)

-- what one is known to be, the other is
pub sound_alike : (M N : Mesh) → Alike M N → Sound N → Sound M
sound_alike M N alike sound = record {
  owned = λ q l. (let k = sound.owned q (row l) in omega (arith, ap (λ (f : ℕ → ℕ). f q) alike.router, alike.routers));
  peers = λ p q l k o e. sound.peers p q (row l) (row k) (same alike.router o) (same alike.peer e);
  ids = λ a b l k e. sound.ids a b (known l) (known k) (sym (alike.id a l) ∙ e ∙ alike.id b k);
  few = subst (λ (n : ℕ). n ≤ none) (sym alike.rows) sound.few;
}
  where
    row : {q : ℕ} → q < M.rows → q < N.rows
    row l = omega (arith, alike.rows)

    known : {r : ℕ} → r < M.routers → r < N.routers
    known l = omega (arith, alike.routers)

    same : {f g : ℕ → ℕ} {p q : ℕ} → f ≡ g → f p ≡ f q → g p ≡ g q
    same {p} {q} e h = subst (λ (k : ℕ → ℕ). k p ≡ k q) e h
