-- Worked and damaged policies, and what some make of a snapshot, computed.
use Rattle.std.specs.Prelude.{ℕ, zero, suc, ◌≡◌, refl, Bool, true, false, List, [], ◌∷◌, ◌++◌, map, take, set, replicate}
use Rattle.wire.specs.Numbers.{number_at}
use Rattle.refusal.specs.declared.Refusal.TheVariants.{Cut, Kind, Place, Field, Order, Full, Count, Tail}
use Rattle.model.specs.Decision.{Route}
use Rattle.snapshot.specs.Format.{Snapshot, judged}
use Rattle.snapshot.specs.Reading.{end_record, AnswerOf, accepted, refused, either, record_checks}
use Rattle.snapshot.specs.Tables.{all_routes}
use Rattle.snapshot.proofs.Examples.{p5}
use Rattle.policy.specs.Policy.{Clause, Session, Policy, exact, direct, any, encode}
use Rattle.policy.specs.Reading.{among, entry_record, records_within, records_from, reading}
use Rattle.policy.specs.Rewriting.{rewritten}

-- a session: router, peer address, whether MED is set to a present 0 on it, clauses
abbrev session : ℕ → ℕ → Bool → List Clause → Session
session router peer set clauses = record { router = router; peer = peer; zero = set; clauses = clauses }

-- ---- reading

-- router 0's session with 192.0.2.2: MED set to 0, 198.51.100.0/24 gets 200, direct paths from AS 65001 get 150; router 1's with
-- 192.0.2.5: all get 90
abbrev sample : Policy
sample = session 0 3221225986 true (exact 3325256704 24 200 ∷ direct 65001 150 ∷ []) ∷ session 1 3221225989 false (any 90 ∷ []) ∷ []

abbrev sample_bytes : List ℕ
sample_bytes =
    (1 ∷ 0 ∷ 192 ∷ 0 ∷ 2 ∷ 2 ∷ [])
    ++ (5 ∷ [])
    ++ (2 ∷ 198 ∷ 51 ∷ 100 ∷ 0 ∷ 24 ∷ 0 ∷ 0 ∷ 0 ∷ 200 ∷ [])
    ++ (3 ∷ 0 ∷ 0 ∷ 253 ∷ 233 ∷ 0 ∷ 0 ∷ 0 ∷ 150 ∷ [])
    ++ (1 ∷ 1 ∷ 192 ∷ 0 ∷ 2 ∷ 5 ∷ [])
    ++ (4 ∷ 0 ∷ 0 ∷ 0 ∷ 90 ∷ [])
    ++ (6 ∷ 0 ∷ 0 ∷ 0 ∷ 6 ∷ [])

sample_written : encode sample ≡ sample_bytes
sample_written = refl

-- so many clauses for everything, and so many sessions of router 1 from a peer address on
abbrev anys : ℕ → List ℕ
anys zero = []
anys (suc n) = 4 ∷ 0 ∷ 0 ∷ 0 ∷ 1 ∷ anys n

abbrev sessions : ℕ → ℕ → List ℕ
sessions peer zero = []
sessions peer (suc n) = 1 ∷ 1 ∷ 0 ∷ 0 ∷ 0 ∷ peer ∷ sessions (suc peer) n

-- an input and its answer
pub record Case : Type 0 where
  pub input : List ℕ
  pub answer : AnswerOf Policy

-- the sample; router 255, without clauses; AS 23456, 65,535 and 4,294,967,294; a kind 5 and 32 clauses; a session of a later router and a
-- lower peer address
abbrev taken : List Case
taken =
    record { input = sample_bytes; answer = accepted sample }
    ∷ record { input = (1 ∷ 255 ∷ 0 ∷ 0 ∷ 0 ∷ 1 ∷ 6 ∷ 0 ∷ 0 ∷ 0 ∷ 1 ∷ []); answer = accepted (session 255 1 false [] ∷ []) }
    ∷ record {
      input =
          (1 ∷ 0 ∷ 0 ∷ 0 ∷ 0 ∷ 1 ∷ [])
          ++ (3 ∷ 0 ∷ 0 ∷ 91 ∷ 160 ∷ 0 ∷ 0 ∷ 0 ∷ 1 ∷ [])
          ++ (3 ∷ 0 ∷ 0 ∷ 255 ∷ 255 ∷ 0 ∷ 0 ∷ 0 ∷ 2 ∷ [])
          ++ (3 ∷ 255 ∷ 255 ∷ 255 ∷ 254 ∷ 0 ∷ 0 ∷ 0 ∷ 3 ∷ [])
          ++ (6 ∷ 0 ∷ 0 ∷ 0 ∷ 4 ∷ []);
      answer = accepted (session 0 1 false (direct 23456 1 ∷ direct 65535 2 ∷ direct 4294967294 3 ∷ []) ∷ []);
    }
    ∷ record { input = (take 7 sample_bytes ++ (anys 32 ++ (6 ∷ 0 ∷ 0 ∷ 0 ∷ 34 ∷ []))); answer = accepted (session 0 3221225986 true (replicate 32 (any 1)) ∷ []) }
    ∷ record { input = (take 6 sample_bytes ++ (sessions 1 1 ++ (6 ∷ 0 ∷ 0 ∷ 0 ∷ 2 ∷ []))); answer = accepted (session 0 3221225986 false [] ∷ session 1 1 false [] ∷ []) }
    ∷ []

-- nothing; cut between records, in a body of kind 2, and in one of kind 4; an unknown kind; a clause, and a kind 5, without a session;
-- a second kind 5, one behind a clause, and one behind 32; a 33rd clause, and a 65th session, of which only the kind byte is there; a
-- prefix with an address bit beyond its length, and one of length 33; AS 0; AS 4,294,967,295; peer address 0; a session twice, and a lower
-- one; a wrong count; a byte too many
abbrev damaged : List Case
damaged =
    record { input = []; answer = refused Cut 0 }
    ∷ record { input = (take 37 sample_bytes); answer = refused Cut 37 }
    ∷ record { input = (take 16 sample_bytes); answer = refused Cut 7 }
    ∷ record { input = (take 36 sample_bytes); answer = refused Cut 32 }
    ∷ record { input = (set sample_bytes 6 7); answer = refused Kind 6 }
    ∷ record { input = (4 ∷ []); answer = refused Place 0 }
    ∷ record { input = (5 ∷ []); answer = refused Place 0 }
    ∷ record { input = (take 7 sample_bytes ++ (5 ∷ [])); answer = refused Place 7 }
    ∷ record { input = (take 37 sample_bytes ++ (5 ∷ [])); answer = refused Place 37 }
    ∷ record { input = (take 6 sample_bytes ++ (anys 32 ++ (5 ∷ []))); answer = refused Place 166 }
    ∷ record { input = (take 6 sample_bytes ++ (anys 32 ++ (4 ∷ []))); answer = refused Full 166 }
    ∷ record { input = (sessions 1 64 ++ (1 ∷ [])); answer = refused Full 384 }
    ∷ record { input = (set sample_bytes 11 1); answer = refused Field 7 }
    ∷ record { input = (set sample_bytes 12 33); answer = refused Field 7 }
    ∷ record { input = (take 17 sample_bytes ++ (3 ∷ 0 ∷ 0 ∷ 0 ∷ 0 ∷ 0 ∷ 0 ∷ 0 ∷ 1 ∷ [])); answer = refused Field 17 }
    ∷ record { input = (take 17 sample_bytes ++ (3 ∷ 255 ∷ 255 ∷ 255 ∷ 255 ∷ 0 ∷ 0 ∷ 0 ∷ 1 ∷ [])); answer = refused Field 17 }
    ∷ record { input = (1 ∷ 255 ∷ 0 ∷ 0 ∷ 0 ∷ 0 ∷ []); answer = refused Field 0 }
    ∷ record { input = (take 26 sample_bytes ++ take 6 sample_bytes); answer = refused Order 26 }
    ∷ record { input = (sessions 2 1 ++ sessions 1 1); answer = refused Order 6 }
    ∷ record { input = (set sample_bytes 41 5); answer = refused Count 37 }
    ∷ record { input = (sample_bytes ++ (0 ∷ [])); answer = refused Tail 42 }
    ∷ []

abbrev pub table : List Case
table = taken ++ damaged

pub table_read : map (λ c. reading c.input) table ≡ map (λ c. c.answer) table
unfolding records_from records_within among entry_record end_record either judged record_checks number_at
table_read = refl

-- ---- rewriting

-- P5 by the sample: row 1 gets 200 and MED 0, row 2 gets 90, the others 100
pub p5_preferences : map (λ r. r.preference) (all_routes (rewritten sample p5).prefixes) ≡ 100 ∷ 200 ∷ 90 ∷ 100 ∷ []
p5_preferences = refl

pub p5_meds : map (λ r. r.med) (all_routes (rewritten sample p5).prefixes) ≡ 0 ∷ 0 ∷ 0 ∷ 5 ∷ []
p5_meds = refl

-- a route of AS 7 with preference 300: router, peer address, path length, MED mark, MED
abbrev heard : ℕ → ℕ → ℕ → ℕ → ℕ → Route
heard router peer path mark med = record { router = router; asn = 7; preference = 300; path = path; origin = 0; mark = mark; med = med; nid = 1; peer = peer }

-- 10.0.0.0/8 with four routes: two routers, each with the peers 1 and 2; two have a MED
abbrev four : Snapshot
four = record {
  ids = 1 ∷ 2 ∷ [];
  distances = 1 ∷ 1 ∷ [];
  prefixes = record { address = 167772160; bits = 8; routes = heard 0 1 1 0 0 ∷ heard 0 2 2 1 9 ∷ heard 1 1 1 1 9 ∷ heard 1 2 2 0 0 ∷ [] } ∷ [];
}

-- a policy, and the preferences, marks and MEDs of the four routes by it
pub record Ruling : Type 0 where
  pub policy : Policy
  pub preferences : List ℕ
  pub marks : List ℕ
  pub meds : List ℕ

-- what a policy makes of the four routes
abbrev pub ruling : Policy → Ruling
ruling policy =
    let rs = all_routes (rewritten policy four).prefixes in
    record { policy = policy; preferences = map (λ r. r.preference) rs; marks = map (λ r. r.mark) rs; meds = map (λ r. r.med) rs }

-- one clause of each kind, of which the first fits a path of length 1 only
abbrev fitting : List Clause
fitting = direct 7 50 ∷ exact 167772160 8 70 ∷ any 60 ∷ []

-- clauses that fit none of the four: a longer prefix, another address, another AS
abbrev unfit : List Clause
unfit = exact 167772160 9 60 ∷ exact 184549376 8 60 ∷ direct 8 60 ∷ []

-- no session; a session of one router, whose peer the other has too; clauses that fit, for a short and for a longer path; clauses that do
-- not; MED set where there was none, and where there was one; a router that the snapshot lacks
abbrev pub rulings : List Ruling
rulings =
    record { policy = []; preferences = 100 ∷ 100 ∷ 100 ∷ 100 ∷ []; marks = 0 ∷ 1 ∷ 1 ∷ 0 ∷ []; meds = 0 ∷ 9 ∷ 9 ∷ 0 ∷ [] }
    ∷ record {
      policy = session 0 1 false (any 60 ∷ []) ∷ [];
      preferences = 60 ∷ 100 ∷ 100 ∷ 100 ∷ [];
      marks = 0 ∷ 1 ∷ 1 ∷ 0 ∷ [];
      meds = 0 ∷ 9 ∷ 9 ∷ 0 ∷ [];
    }
    ∷ record {
      policy = session 0 1 false fitting ∷ session 0 2 false fitting ∷ [];
      preferences = 50 ∷ 70 ∷ 100 ∷ 100 ∷ [];
      marks = 0 ∷ 1 ∷ 1 ∷ 0 ∷ [];
      meds = 0 ∷ 9 ∷ 9 ∷ 0 ∷ [];
    }
    ∷ record {
      policy = session 0 1 false unfit ∷ [];
      preferences = 100 ∷ 100 ∷ 100 ∷ 100 ∷ [];
      marks = 0 ∷ 1 ∷ 1 ∷ 0 ∷ [];
      meds = 0 ∷ 9 ∷ 9 ∷ 0 ∷ [];
    }
    ∷ record {
      policy = session 0 1 true [] ∷ session 0 2 true fitting ∷ [];
      preferences = 100 ∷ 70 ∷ 100 ∷ 100 ∷ [];
      marks = 1 ∷ 1 ∷ 1 ∷ 0 ∷ [];
      meds = 0 ∷ 0 ∷ 9 ∷ 0 ∷ [];
    }
    ∷ record {
      policy = session 255 1 true fitting ∷ [];
      preferences = 100 ∷ 100 ∷ 100 ∷ 100 ∷ [];
      marks = 0 ∷ 1 ∷ 1 ∷ 0 ∷ [];
      meds = 0 ∷ 9 ∷ 9 ∷ 0 ∷ [];
    }
    ∷ []

pub rulings_made : map (λ c. ruling c.policy) rulings ≡ rulings
rulings_made = refl
