-- The promises of the cursor's methods determine their answers: number and values tell the answer, so two answers with the same ones are one.
use Rattle.std.specs.Prelude.{◌≡◌, refl, ℕ, List, [], ◌∷◌, Result}
use Rattle.std.proofs.Common.{sym, ap, ap₂, ◌∙◌}
use Rattle.refusal.specs.declared.Refused.{Refused}
use Rattle.refusal.specs.Numbers.{Said}
use Rattle.refusal.proofs.NumbersLaws.{value, answer_tells}
use Rattle.snapshot.specs.declared.Route.{Route}
use Rattle.cursor.specs.declared.Cursor.{Cursor}
use Rattle.cursor.specs.declared.Network.{Network}
use Rattle.cursor.specs.Steps.{took, record_said, step_said, prefix_said, route_said, end_said}

-- the cursor of a record that was taken
abbrev next : Said → Cursor
next s = record { at = value s 0; records = value s 1 }

-- "that any two results meeting it are equal is proved": of a record, where its values tell what it says
pub record_tells : {A : Type 0} (says : A → List ℕ) (back : Said → A) → ((c : Cursor) (a : A) → back (took c (says a)) ≡ a)
    → (x y : Result (Cursor × A) Refused) → record_said says x ≡ record_said says y → x ≡ y
record_tells {A = A} says back is =
    answer_tells (λ t. t.0.at ∷ t.0.records ∷ says t.1)
    (λ t u e. ap₂ {C = Cursor × A} (λ (c : Cursor) (a : A). (c, a)) (ap next e) (sym (is t.0 t.1) ∙ ap back e ∙ is u.0 u.1))

-- of a record that says one number
pub step_tells : (x y : Result (Cursor × ℕ) Refused) → step_said x ≡ step_said y → x ≡ y
step_tells = record_tells (λ n. n ∷ []) (λ s. value s 2) (λ c n. refl)

-- of a prefix
pub prefix_tells : (x y : Result (Cursor × Network) Refused) → prefix_said x ≡ prefix_said y → x ≡ y
prefix_tells = record_tells (λ p. p.address ∷ p.bits ∷ []) (λ s. record { address = value s 2; bits = value s 3 }) (λ c p. refl)

-- of a route
pub route_tells : (x y : Result (Cursor × Route) Refused) → route_said x ≡ route_said y → x ≡ y
route_tells =
    record_tells (λ r. r.router ∷ r.asn ∷ r.preference ∷ r.path ∷ r.origin ∷ r.mark ∷ r.med ∷ r.nid ∷ r.peer ∷ [])
    (λ s. record {
      router = value s 2;
      asn = value s 3;
      preference = value s 4;
      path = value s 5;
      origin = value s 6;
      mark = value s 7;
      med = value s 8;
      nid = value s 9;
      peer = value s 10;
    })
    (λ c r. refl)

-- of the end
pub end_tells : (x y : Result (Unit {0}) Refused) → end_said x ≡ end_said y → x ≡ y
end_tells = answer_tells (λ _. []) (λ t u e. refl)
