-- The passes of a valid policy leave what it makes of a route: its sessions rise, so a route is heard on one at most.
use Rattle.std.specs.Prelude.{ℕ, ◌≤◌, ◌<◌, ◌≡◌, refl, ◌⊎◌, Bool, true, false, cond, ◌&&◌, List, [], ◌∷◌, ◌++◌, T, eqb}
use Rattle.std.proofs.Common.{arith, sym, ap, ◌∙◌, subst, inl, inr, ⊎_elim, eqb→eq, eqb-true}
use Rattle.model.specs.Decision.{Route}
use Rattle.model.proofs.RowLaws.{by, both, and_left, and_right, test_false}
use Rattle.snapshot.specs.Ranges.{rises}
use Rattle.snapshot.proofs.RisesLaws.{Below, rises_below}
use Rattle.snapshot.specs.Format.{Each}
use Rattle.snapshot.proofs.ChecksLaws.{latest_snoc}
use Rattle.policy.specs.Policy.{Session, Policy, GoodSession}
use Rattle.policy.specs.Rewriting.{preferred, with, heard_on, by_session, ruled}
use Rattle.policy.specs.Passing.{unruled, pass, passes}

-- a route's router and peer address are not above a session's
abbrev Under : Session → Route → Type 0
Under s r = (r.router < s.router) ⊎ ((r.router ≡ s.router) × (r.peer ≤ s.peer))

-- then they are below those of a session above it
below : (a b c d x y : ℕ) → (x < a) ⊎ ((x ≡ a) × (y ≤ b)) → Below a b c d → Below x y c d
below a b c d x y under above =
    ⊎_elim
    (λ l. ⊎_elim (λ m. inl (omega arith)) (λ m. let e = m.0 in inl (omega arith)) above)
    (λ l. let e = l.0 in ⊎_elim (λ m. inl (omega arith)) (λ m. inr (e ∙ m.0, omega (arith, l.1, m.1))) above)
    under

apart : (s : Session) (r : Route) → Below r.router r.peer s.router s.peer → heard_on s r ≡ false
apart s r h =
    test_false (heard_on s r) (λ t.
    let a : s.router ≡ r.router = eqb→eq _ _ (and_left (eqb s.router r.router) (eqb s.peer r.peer) t) in
    let b : s.peer ≡ r.peer = eqb→eq _ _ (and_right (eqb s.router r.router) (eqb s.peer r.peer) t) in
    ⊎_elim (λ l. omega arith) (λ l. omega (arith, l.1)) h)

-- a pass in each of the two cases
pub pass_as : (s : Session) (address bits : ℕ) (r : Route) (b : Bool) → heard_on s r ≡ b → pass s address bits r ≡ cond b (by_session s address bits r) r
pass_as s address bits r b e = ap paid e ∙ both_ways b
  where
    paid : Bool → Route
    paid h = with r (cond h (preferred s.clauses address bits r.path r.asn) r.preference) (cond (h && s.zero) 1 r.mark) (cond (h && s.zero) 0 r.med)

    both_ways : (h : Bool) → paid h ≡ cond h (by_session s address bits r) r
    both_ways true = refl
    both_ways false = refl

module _ (address bits : ℕ) where
  -- sessions above the one that a route was heard on leave it
  past : (before : List Session) (s : Session) (ss : List Session) (r : Route) → Under s r → Each GoodSession (before ++ (s ∷ [])) ss → passes ss address bits r ≡ r
  past before s [] r u g = refl
  past before s (q ∷ ss) r u g =
      let above : T (rises s.router s.peer q.router q.peer) =
      subst T (latest_snoc (λ p. rises p.router p.peer q.router q.peer) before s) g.0.obeys.1.0 in
      let lower = below s.router s.peer q.router q.peer r.router r.peer u (rises_below s.router s.peer q.router q.peer above) in
      ap (passes ss address bits) (pass_as q address bits r false (apart q r lower))
      ∙ past (before ++ (s ∷ [])) q ss r (⊎_elim (λ l. inl l) (λ l. inr (l.0, omega (arith, l.1))) lower) g.1

  passes_from : (before policy : Policy) (r : Route) → Each GoodSession before policy → passes policy address bits (unruled r) ≡ ruled policy address bits r
  passes_from before [] r g = refl
  passes_from before (s ∷ ss) r g =
      by (heard_on s r)
      (λ e.
      let (a, b) = both (eqb s.router r.router) (eqb s.peer r.peer) e in
      let router : s.router ≡ r.router = eqb-true _ _ a in
      let peer : s.peer ≡ r.peer = eqb-true _ _ b in
      let after : Route = by_session s address bits r in
      ap (passes ss address bits) (pass_as s address bits (unruled r) true e)
      ∙ past before s ss after (inr (sym router, omega arith)) g.1
      ∙ sym (ap (λ (b : Bool). cond b after (ruled ss address bits r)) e))
      (λ e.
      ap (passes ss address bits) (pass_as s address bits (unruled r) false e)
      ∙ passes_from (before ++ (s ∷ [])) ss r g.1
      ∙ sym (ap (λ (b : Bool). cond b (by_session s address bits r) (ruled ss address bits r)) e))

pub passes_ruled : (policy : Policy) (address bits : ℕ) (r : Route) → Each GoodSession [] policy → passes policy address bits (unruled r) ≡ ruled policy address bits r
passes_ruled policy address bits r = passes_from address bits [] policy r
