-- How early and late are computed: a contest of contenders for places. Nothing here has to be believed to read the theorems of
-- Theorems.antt: they say of what is computed here that it is early and late by the definitions of Stability.antt.
use Rattle.std.specs.Prelude.{ℕ, zero, suc, min, ◌≡◌, Bool, ◌&&◌, not, List, [], ◌∷◌, eqb, leb, length, get_or}
use Rattle.model.specs.Rows.{keep, some, count, table}
use Rattle.model.specs.Decision.{Mesh, none, all, beats, beats_by, unbeaten_by, metric, preferred, choice}
use Rattle.model.specs.Stability.{available, contenders, before_by, standing}

-- the least key among the members, or `past` where that is less or there is none
abbrev pub least_or : ℕ → (ℕ → ℕ) → List ℕ → ℕ
least_or past key [] = past
least_or past key (q ∷ rows) = min (key q) (least_or past key rows)

-- a step, so many times
abbrev pub times : (List ℕ → List ℕ) → ℕ → List ℕ → List ℕ
times step zero x = x
times step (suc n) x = times step n (step x)

-- items, each with an owner and a place in the owner's order, some of which beat others
pub record Contest : Type 0 where
  pub owners : ℕ
  pub items : List ℕ
  pub owner : ℕ → ℕ
  pub place : ℕ → ℕ
  pub beats : ℕ → ℕ → Bool

module _ (C : Contest) where
  -- how many items an owner has: past the end of its places
  abbrev pub end : ℕ → ℕ
  end r = count (λ q. eqb (C.owner q) r) C.items

  -- the items at or before the place that their owner has
  abbrev pub passed : List ℕ → List ℕ
  passed x = keep (λ q. leb (C.place q) (get_or x (C.owner q) 0)) C.items

  -- the items at the very place that their owner has
  abbrev pub held_items : List ℕ → List ℕ
  held_items x = keep (λ q. eqb (C.place q) (get_or x (C.owner q) 0)) C.items

  -- the first place of r's at which nothing in `seen` beats it
  abbrev pub first_free : List ℕ → ℕ → ℕ
  first_free seen r = least_or (end r) C.place (keep (λ q. eqb (C.owner q) r && not (some (λ p. C.beats p q) seen)) C.items)

  -- one round: every owner goes to its first place that nothing passed beats
  abbrev pub refine : List ℕ → List ℕ
  refine x = table C.owners (first_free (passed x))

  -- a state in which each owner has the first place that nothing held beats
  abbrev pub Calm : List ℕ → Type 0
  Calm x = x ≡ table C.owners (first_free (held_items x))

  -- so many rounds
  abbrev pub repeat : ℕ → List ℕ → List ℕ
  repeat = times refine

  -- every owner at its first place; every owner past its end
  abbrev pub bottom : List ℕ
  bottom = table C.owners (λ r. 0)

  abbrev pub top : List ℕ
  top = table C.owners end

  -- where rounds lead from the bottom, and from the top
  abbrev pub earliest : List ℕ
  earliest = repeat (length C.items) bottom

  abbrev pub latest : List ℕ
  latest = repeat (length C.items) top

-- ---- the contest of a prefix

-- p beats q, of rows of one router
abbrev pub beats_own_by : (ℕ → ℕ) → (ℕ → ℕ) → (ℕ → ℕ) → ℕ → ℕ → Bool
beats_own_by router asn med p q = eqb (router p) (router q) && beats_by asn med p q

-- p is of q's router and comes before q
abbrev pub ahead_by : (ℕ → ℕ) → (ℕ → ℕ) → (ℕ → ℕ) → ℕ → ℕ → Bool
ahead_by router nid peer q p = eqb (router p) (router q) && before_by nid peer p q

module _ (M : Mesh) where
  -- the contenders of all routers: preferred, and beaten by none of the same router
  abbrev pub contending : List ℕ
  contending = let rows = preferred M (all M) in unbeaten_by (beats_own_by M.router M.asn (metric M)) rows rows

  -- how many contenders of its router come before q
  abbrev pub place_of : ℕ → ℕ
  place_of q = count (ahead_by M.router M.nid M.peer q) contending

  abbrev pub contest : Contest
  contest = record { owners = M.routers; items = contending; owner = M.router; place = place_of; beats = beats M }

  -- the contender of r that stands at the place which a state gives it, or none
  abbrev pub at_place : List ℕ → ℕ → ℕ
  at_place x r = least_or none (λ q. q) (keep (λ q. eqb (standing M r q) (get_or x r 0)) (contenders M r))

  -- what each router then holds
  abbrev pub holding : List ℕ → List ℕ
  holding x =
      let own = table M.routers (at_place x) in
      table M.routers (λ r. choice M r (available M own r))

  -- the early and the late assignment
  abbrev pub early : List ℕ
  early = holding (earliest contest)

  abbrev pub late : List ℕ
  late = holding (latest contest)
