-- How long a policy's bytes are at most; and the policy of the most sessions and clauses is valid and has that length.
use Rattle.std.specs.Prelude.{ℕ, zero, suc, ◌+◌, ◌*◌, ◌≤◌, ◌≡◌, refl, Bool, true, false, not, List, [], ◌∷◌, ◌++◌, length, replicate, T}
use Rattle.std.proofs.Common.{arith, sym, ap, ◌∙◌, subst, length-append, lt→ltb, lit<, lit≤}
use Rattle.std.proofs.Math.Dec.{eqb-suc-zero}
use Rattle.snapshot.specs.Ranges.{rises}
use Rattle.snapshot.specs.Records.{end_form, written}
use Rattle.snapshot.specs.Format.{Each, latest}
use Rattle.snapshot.proofs.ChecksLaws.{latest_snoc}
use Rattle.policy.specs.Policy.{Clause, exact, direct, any, Session, Policy, most_sessions, most_clauses, longest_session, longest, clause_form, clause_fields, clauses_bytes, zero_bytes, session_bytes, sessions_bytes, records_in, encode, GoodClause, GoodSession, Valid}
use Rattle.policy.specs.Longest.{long_clause, session_with, sessions_after, full_policy}

-- ---- none is longer

clause_short : (c : Clause) → length (written (clause_form c) (clause_fields c)) ≤ 10
clause_short (exact address bits preference) = lit≤ tt
clause_short (direct asn preference) = lit≤ tt
clause_short (any preference) = lit≤ tt

clauses_short : (cs : List Clause) → length (clauses_bytes cs) ≤ 10 * length cs
clauses_short [] = omega arith
clauses_short (c ∷ cs) =
    omega (arith, length-append (written (clause_form c) (clause_fields c)) (clauses_bytes cs), clause_short c, clauses_short cs)

zero_short : (b : Bool) → length (zero_bytes b) ≤ 1
zero_short true = lit≤ tt
zero_short false = lit≤ tt

session_short : (before : Policy) (s : Session) → GoodSession before s → length (session_bytes s) ≤ longest_session
session_short before s g =
    omega (arith, g.few, length-append (zero_bytes s.zero) (clauses_bytes s.clauses), zero_short s.zero, clauses_short s.clauses)

sessions_short : (before policy : Policy) → Each GoodSession before policy → length (sessions_bytes policy) ≤ longest_session * length policy
sessions_short before [] g = omega arith
sessions_short before (s ∷ ss) g =
    omega (arith, length-append (session_bytes s) (sessions_bytes ss), session_short before s g.0, sessions_short (before ++ (s ∷ [])) ss g.1)

pub encode_short : (policy : Policy) → Valid policy → length (encode policy) ≤ longest
encode_short policy v =
    omega (arith, v.few, length-append (sessions_bytes policy) (written end_form (records_in policy ∷ [])), sessions_short [] policy v.sessions)

-- ---- one is as long

clauses_good : (before : List Clause) (n : ℕ) → Each GoodClause before (replicate n long_clause)
clauses_good before zero = tt
clauses_good before (suc n) = (
  record { fits = (lit< tt, (lit< tt, (lit< tt, tt))); obeys = (tt, tt) },
  clauses_good (before ++ (long_clause ∷ [])) n,
)

sessions_more : (peer n : ℕ) → sessions_after peer n ++ (session_with (suc (peer + n)) ∷ []) ≡ sessions_after peer (suc n)
sessions_more peer zero = ap (λ (k : ℕ). session_with (suc k) ∷ []) (let e : peer + 0 ≡ peer = omega arith in e)
sessions_more peer (suc n) =
    ap {B = Policy} (λ l. session_with (suc peer) ∷ l)
    (ap (λ (k : ℕ). sessions_after (suc peer) n ++ (session_with (suc k) ∷ [])) (let e : peer + suc n ≡ suc peer + n = omega arith in e) ∙ sessions_more (suc peer) n)

-- the latest of so many rises below the next
sessions_rise : (given : ℕ) → T (latest (λ s. rises s.router s.peer 0 (suc given)) (sessions_after 0 given))
sessions_rise zero = tt
sessions_rise (suc given) =
    subst (λ (l : Policy). T (latest (λ s. rises s.router s.peer 0 (suc (suc given))) l)) (sessions_more 0 given)
    (subst T (sym (latest_snoc (λ s. rises s.router s.peer 0 (suc (suc given))) (sessions_after 0 given) (session_with (suc (0 + given)))))
    (lt→ltb (suc (0 + given)) (suc (suc given)) (omega arith)))

sessions_good : (given left : ℕ) → given + left ≤ most_sessions → Each GoodSession (sessions_after 0 given) (sessions_after given left)
sessions_good given zero h = tt
sessions_good given (suc left) h = (
  record {
    fits = (lit< tt, (omega arith, tt));
    obeys = (subst (λ (b : Bool). T (not b)) (sym (eqb-suc-zero given)) tt, (sessions_rise given, tt));
    few = lit≤ tt;
    clauses = clauses_good [] most_clauses;
  },
  subst (λ (l : Policy). Each GoodSession l (sessions_after (suc given) left))
      (sym (ap (λ (k : ℕ). sessions_after 0 given ++ (session_with (suc k) ∷ [])) (let e : given ≡ 0 + given = omega arith in e) ∙ sessions_more 0 given))
      (sessions_good (suc given) left (omega arith)),
)

pub full_valid : Valid full_policy
full_valid = record { few = lit≤ tt; sessions = sessions_good 0 most_sessions (lit≤ tt) }

pub full_long : length (encode full_policy) ≡ longest
full_long = refl
