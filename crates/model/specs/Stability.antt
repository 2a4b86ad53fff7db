-- Stable assignments of one prefix, each router's own order, and what a forecast says.
use Rattle.std.specs.Prelude.{ℕ, ◌<◌, ◌≤◌, ◌≡◌, Bool, cond, ◌&&◌, ◌||◌, not, List, eqb, ltb, length, get_or}
use Rattle.model.specs.Rows.{keep, some, count, span, table}
use Rattle.model.specs.Decision.{Mesh, none, all, own_of, preferred, unbeaten, choice}

-- p comes before q in its router's own order: by neighbour id, then peer address
abbrev pub before_by : (ℕ → ℕ) → (ℕ → ℕ) → ℕ → ℕ → Bool
before_by nid peer p q = ltb (nid p) (nid q) || eqb (nid p) (nid q) && ltb (peer p) (peer q)

module _ (M : Mesh) where
  -- what is available to r where each router holds what `held` says: r's own routes, and each route that its owner holds
  abbrev pub available : List ℕ → ℕ → List ℕ
  available held r = keep (λ q. own_of M r q || eqb (get_or held (M.router q) none) q) (all M)

  -- each router holds exactly what the eight steps give it from what is available to it
  pub record Stable (held : List ℕ) : Type 0 where
    pub size : length held ≡ M.routers
    pub chosen : (r : ℕ) → r < M.routers → get_or held r none ≡ choice M r (available held r)

  -- r's own routes that survive steps 1 to 3 over all routes of the prefix, and then step 4 over r's own survivors
  abbrev pub contenders : ℕ → List ℕ
  contenders r = unbeaten M (keep (own_of M r) (preferred M (all M)))

  -- the router's own order
  abbrev pub before : ℕ → ℕ → Bool
  before = before_by M.nid M.peer

  -- the position of q in the list of r's contenders by that order; past the end of the list if q is none of them
  abbrev pub standing : ℕ → ℕ → ℕ
  standing r q =
      let own = contenders r in
      cond (some (eqb q) own) (count (λ p. before p q) own) (length own)

  -- each router's standing in an assignment
  abbrev pub standings : List ℕ → List ℕ
  standings held = table M.routers (λ r. standing r (get_or held r none))

  -- an early and a late stable assignment, with every stable assignment between them in each router's own order
  pub record Between (early late : List ℕ) : Type 0 where
    pub early_stable : Stable early
    pub late_stable : Stable late
    pub low : (held : List ℕ) → Stable held → (r : ℕ) → r < M.routers → standing r (get_or early r none) ≤ standing r (get_or held r none)
    pub high : (held : List ℕ) → Stable held → (r : ℕ) → r < M.routers → standing r (get_or held r none) ≤ standing r (get_or late r none)

  -- the routers whose two rows differ
  abbrev pub differing : List ℕ → List ℕ → List ℕ
  differing early late = keep (λ r. not (eqb (get_or early r none) (get_or late r none))) (span 0 M.routers)

  -- the answer is settled exactly when their number is 0
  abbrev pub Settled : List ℕ → List ℕ → Type 0
  Settled early late = length (differing early late) ≡ 0

  -- exactly one stable assignment exists
  pub record Only : Type 0 where
    pub held : List ℕ
    pub stable : Stable held
    pub alone : (other : List ℕ) → Stable other → other ≡ held

  -- what a snapshot's prefix is known to be: rows of known routers, at most 65,535 of them; no two of one router with one peer address; no two routers with one id
  pub record Sound : Type 0 where
    pub owned : (q : ℕ) → q < M.rows → M.router q < M.routers
    pub peers : (p q : ℕ) → p < M.rows → q < M.rows → M.router p ≡ M.router q → M.peer p ≡ M.peer q → p ≡ q
    pub ids : (a b : ℕ) → a < M.routers → b < M.routers → M.id a ≡ M.id b → a ≡ b
    pub few : M.rows ≤ none
