-- Bytes put into a slice at a place.
use Rattle.std.specs.Prelude.{ℕ, ◌+◌, ◌≤◌, ◌≡◌, Bool, cond, List, [], ◌∷◌, length}
use Rattle.std.proofs.lemmas.List.Edits.{sets}
use Rattle.model.specs.Decision.{Route}
use Rattle.snapshot.specs.Records.{Form, four_byte, route_form_by, spread, written}

-- a route record in two parts: kind, router and neighbour AS, by whether the AS is past those of two bytes
abbrev pub front_form : Bool → Form
front_form four = record { kind = (route_form_by four).kind; widths = 1 ∷ cond four 4 2 ∷ [] }

abbrev pub front_bytes : Route → List ℕ
front_bytes r = written (front_form (four_byte r.asn)) (r.router ∷ r.asn ∷ [])

-- and local preference, path length, origin, MED mark, MED, neighbour id, peer address
abbrev pub rest_bytes : Route → List ℕ
rest_bytes r = spread (4 ∷ 2 ∷ 1 ∷ 1 ∷ 4 ∷ 4 ∷ 4 ∷ []) (r.preference ∷ r.path ∷ r.origin ∷ r.mark ∷ r.med ∷ r.nid ∷ r.peer ∷ [])

-- there is room for these bytes from a place on
pub record Space (bytes out : List ℕ) (at : ℕ) : Type 0 where
  pub fits : at + length bytes ≤ length out

-- these bytes stand from a place on in what else is as before, and the next place is behind them
pub record Puts (bytes before : List ℕ) (at : ℕ) (after : List ℕ) (next : ℕ) : Type 0 where
  pub same : after ≡ sets before at bytes
  pub place : next ≡ at + length bytes
