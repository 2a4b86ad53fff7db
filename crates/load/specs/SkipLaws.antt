-- How the loops that skip prefixes and their routes go on: one law for each turn and each way out.
use Rattle.std.specs.Prelude.{ℕ, suc, ◌+◌, ◌-◌, ◌≤◌, ◌<◌, ◌≡◌, refl, Bool, true, false, List, length, leb}
use native.Mathlib.Omega.{arith}
use Rattle.std.proofs.Math.Path.{sym, ap}
use Rattle.std.proofs.Common.{◌∙◌, subst, le-leb}
use Rattle.std.proofs.Math.Bool.{cond}
use Rattle.std.proofs.lemmas.Bool.{lt-leb}
use Rattle.snapshot.specs.Limits.{most_in_prefix}
use Rattle.snapshot.specs.Records.{route_forms, size, form_at}
use Rattle.fill.specs.Fill.{is_route, behind_routes}
use Rattle.fill.specs.StoresLaws.{route_whole, behind_turn, behind_none, routes_inside}
use Rattle.load.specs.Load.{place_from}

-- ---- routes

-- of the routes from at₀ on so many were skipped, and the others stand from `at` on
pub record Skipped (bs : List ℕ) (at₀ k at : ℕ) : Type 0 where
  pub inside : at ≤ length bs
  pub same : behind_routes (most_in_prefix - k) bs at ≡ behind_routes most_in_prefix bs at₀

pub skipped : {bs : List ℕ} {at : ℕ} → at ≤ length bs → Skipped bs at 0 at
skipped h = record { inside = h; same = refl }

module _ {bs : List ℕ} {at₀ k at : ℕ} (s : Skipped bs at₀ k at) where
  pub skipped_stop : k < most_in_prefix → is_route bs at ≡ false → at ≡ behind_routes most_in_prefix bs at₀
  skipped_stop l e = sym (behind_turn bs at e (let z : most_in_prefix - k ≡ suc (most_in_prefix - (k + 1)) = omega arith in z)) ∙ s.same

  pub skipped_end : most_in_prefix ≤ k → at ≡ behind_routes most_in_prefix bs at₀
  skipped_end l = sym (behind_none bs at (let z : most_in_prefix - k ≡ 0 = omega arith in z)) ∙ s.same

  pub skipped_next : {next : ℕ} → k < most_in_prefix → is_route bs at ≡ true → next ≡ at + size (form_at route_forms bs at) → Skipped bs at₀ (k + 1) next
  skipped_next {next} l e place = record {
    inside = subst (λ (i : ℕ). i ≤ length bs) (sym place) (route_whole bs at e);
    same = ap (behind_routes (most_in_prefix - (k + 1)) bs) place ∙ sym (behind_turn bs at e (let z : most_in_prefix - k ≡ suc (most_in_prefix - (k + 1)) = omega arith in z)) ∙ s.same;
  }

-- ---- prefixes

-- so many prefixes were skipped, and the one that is sought stands behind `at` by the others
pub record Sought (bs : List ℕ) (p at₀ k at : ℕ) : Type 0 where
  pub inside : at ≤ length bs
  pub same : place_from (p - k) bs at ≡ place_from p bs at₀

pub sought : {bs : List ℕ} {p at : ℕ} → at ≤ length bs → Sought bs p at 0 at
sought {bs} {p} {at} h = record { inside = h; same = ap (λ (i : ℕ). place_from i bs at) (let z : p - 0 ≡ p = omega arith in z) }

module _ {bs : List ℕ} {p at₀ k at : ℕ} (s : Sought bs p at₀ k at) where
  -- where one more is to be skipped
  onward : {b : Bool} → k < p → leb (at + 6) (length bs) ≡ b → place_from (p - k) bs at ≡ cond b (place_from (p - (k + 1)) bs (behind_routes most_in_prefix bs (at + 6))) at
  unfolding place_from
  onward l e =
      ap (λ (i : ℕ). place_from i bs at) (let z : p - k ≡ suc (p - (k + 1)) = omega arith in z)
      ∙ ap (λ (b : Bool). cond b (place_from (p - (k + 1)) bs (behind_routes most_in_prefix bs (at + 6))) at) e

  pub sought_stop : k < p → length bs < at + 6 → at ≡ place_from p bs at₀
  sought_stop l h = sym (onward l (lt-leb (at + 6) (length bs) h)) ∙ s.same

  pub sought_end : p ≤ k → at ≡ place_from p bs at₀
  unfolding place_from
  sought_end l = ap (λ (i : ℕ). place_from i bs at) (let z : 0 ≡ p - k = omega arith in z) ∙ s.same

  pub sought_next : {next : ℕ} → k < p → at + 6 ≤ length bs → next ≡ behind_routes most_in_prefix bs (at + 6) → Sought bs p at₀ (k + 1) next
  sought_next {next} l h e = record {
    inside = omega (arith, e, (routes_inside most_in_prefix bs (at + 6) h).0);
    same = ap (place_from (p - (k + 1)) bs) e ∙ sym (onward l (le-leb (at + 6) (length bs) h)) ∙ s.same;
  }
