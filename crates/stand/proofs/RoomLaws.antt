-- Laws of room that is lent in part.
use Rattle.std.specs.Prelude.{ℕ, ◌≤◌, ◌≡◌, List, length, take, replicate}
use Rattle.std.proofs.Common.{arith, ap, length-take-le}
use Rattle.std.proofs.lemmas.List.{length-replicate}
use Rattle.model.specs.Columns.{most_routers, past_keys}

-- room for all routers has that of these
pub room_long : (routers : ℕ) (room : List ℕ) → routers ≤ most_routers → room ≡ replicate most_routers past_keys → length (take routers room) ≡ routers
room_long routers room l e = length-take-le routers room (omega (arith, l, ap length e, length-replicate most_routers past_keys))
