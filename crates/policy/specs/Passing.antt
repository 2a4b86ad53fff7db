-- How a route can be rewritten: it gets the usual preference, and then one session after the other passes it.
use Rattle.std.specs.Prelude.{ℕ, cond, ◌&&◌, [], ◌∷◌}
use Rattle.model.specs.Decision.{Route}
use Rattle.policy.specs.Policy.{Session, Policy}
use Rattle.policy.specs.Rewriting.{usual, with, heard_on, preferred}

-- a route before the first pass
abbrev pub unruled : Route → Route
unruled r = with r usual r.mark r.med

-- what a session's pass leaves of a route: only those heard on it are rewritten
abbrev pub pass : Session → ℕ → ℕ → Route → Route
pass s address bits r =
    with r
    (cond (heard_on s r) (preferred s.clauses address bits r.path r.asn) r.preference)
    (cond (heard_on s r && s.zero) 1 r.mark)
    (cond (heard_on s r && s.zero) 0 r.med)

-- the passes of some sessions, one after the other
abbrev pub passes : Policy → ℕ → ℕ → Route → Route
passes [] address bits r = r
passes (s ∷ ss) address bits r = passes ss address bits (pass s address bits r)
