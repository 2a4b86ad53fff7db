-- The promise of judging determines its answer: number and values tell it.
use Rattle.std.specs.Prelude.{◌≡◌, [], ◌∷◌, Result}
use Rattle.std.proofs.Common.{ap}
use Rattle.refusal.specs.declared.Refused.{Refused}
use Rattle.refusal.specs.Numbers.{Said}
use Rattle.refusal.proofs.NumbersLaws.{value, answer_tells}
use Rattle.snapshot.specs.declared.Counts.{Counts}
use Rattle.scan.specs.Scan.{said}

-- "that any two results meeting it are equal is proved"
pub said_tells : (r q : Result Counts Refused) → said r ≡ said q → r ≡ q
said_tells =
    answer_tells (λ c. c.routers ∷ c.prefixes ∷ c.routes ∷ [])
    (λ c d e. ap (λ (s : Said). record { routers = value s 0; prefixes = value s 1; routes = value s 2 }) e)
