-- A policy of the most sessions, each with a kind 5 and the most clauses of the longest kind.
use Rattle.std.specs.Prelude.{ℕ, zero, suc, true, [], ◌∷◌, replicate}
use Rattle.policy.specs.Policy.{Clause, exact, Session, Policy, most_sessions, most_clauses}

-- the clause for the prefix 0.0.0.0/0
abbrev pub long_clause : Clause
long_clause = exact 0 0 0

-- the session of router 0 with this peer
abbrev pub session_with : ℕ → Session
session_with peer = record { router = 0; peer = peer; zero = true; clauses = replicate most_clauses long_clause }

-- so many sessions, behind the one with this peer
abbrev pub sessions_after : ℕ → ℕ → Policy
sessions_after peer zero = []
sessions_after peer (suc left) = session_with (suc peer) ∷ sessions_after (suc peer) left

-- the most of everything
abbrev pub full_policy : Policy
full_policy = sessions_after 0 most_sessions
