-- The first 20,934 bytes of an input decide its answer.
use Rattle.std.specs.Prelude.{ℕ, zero, suc, ◌+◌, ◌-◌, ◌*◌, ◌≤◌, ◌<◌, ◌≡◌, refl, Bool, true, false, not, cond, ◌&&◌, List, [], ◌∷◌, ◌++◌, length, get_or, take, drop, T, eqb, ltb}
use Rattle.std.proofs.Common.{le_refl, not-suc-le-zero, arith, sym, ap, ◌∙◌, ltb→lt, lit≤}
use Rattle.std.proofs.Math.Seq.{take-nil}
use Rattle.snapshot.specs.Records.{Form, end_form, only, sum, size, kind, values}
use Rattle.snapshot.specs.Format.{Holds, latest}
use Rattle.snapshot.specs.Reading.{end_record, tail, end_values}
use Rattle.snapshot.proofs.ChecksLaws.{length_snoc}
use Rattle.snapshot.proofs.SectionsLaws.{drop_shorter}
use Rattle.snapshot.proofs.BorderLaws.{kind_take, tail_take, record_take, either_both}
use Rattle.policy.specs.Policy.{Clause, Session, Policy, most_sessions, most_clauses, longest_session, longest, policy_forms, exact_form, direct_form, any_form, records_in}
use Rattle.policy.specs.Reading.{on_latest, with_clause, with_zero, bare, Entry, session_entry, clause_entry, zero_entry, exact_clause, direct_clause, any_clause, entries, among, entry_record, records_from, reading}
use Rattle.policy.proofs.AcceptsLaws.{All, one_more, length_on}
use Rattle.policy.proofs.ReturnsLaws.{records_step}

-- ---- how many bytes may still be looked at

-- for the latest session: a kind 5 where none was read, and the clauses that are left
abbrev session_need : Session → ℕ
session_need s = cond s.zero 0 1 + 10 * (most_clauses - length s.clauses)

-- the same, where there is a latest session
abbrev open_need : Policy → ℕ
open_need [] = 0
open_need (s ∷ []) = session_need s
open_need (s ∷ t ∷ ss) = open_need (t ∷ ss)

-- for that one and the sessions that are left, the end record, and a byte behind it
abbrev need : Policy → ℕ
need policy = open_need policy + longest_session * (most_sessions - length policy) + 6

-- an entry's record is paid for
abbrev Paid : Entry → Type 0
Paid i = (policy : Policy) (v : List ℕ) → Holds (i.room policy) → size i.form + need (i.after policy v) ≤ need policy

open_snoc : (policy : Policy) (s : Session) → open_need (policy ++ (s ∷ [])) ≡ session_need s
open_snoc [] s = refl
open_snoc (q ∷ []) s = refl
open_snoc (q ∷ t ∷ ss) s = open_snoc (t ∷ ss) s

session_paid : Paid session_entry
session_paid policy v h =
    let s : Session = record { router = get_or v 0 0; peer = get_or v 1 0; zero = false; clauses = [] } in
    let few : length policy < most_sessions = ltb→lt _ _ h.0 in
    omega (arith, length_snoc policy s, open_snoc policy s)

module _ (k : ℕ) (f : Session → Session) (test : Session → Bool) (pays : (s : Session) → T (test s) → k + session_need (f s) ≤ session_need s) where
  open_paid : (s : Session) (ss : List Session) → T (latest test (s ∷ ss)) → k + open_need (on_latest f (s ∷ ss)) ≤ open_need (s ∷ ss)
  open_paid s [] t = pays s t
  open_paid s (u ∷ []) t = pays u t
  open_paid s (u ∷ w ∷ ss) t = open_paid u (w ∷ ss) t

  latest_paid : (policy : Policy) → T (not (eqb (length policy) 0)) → T (latest test policy) → k + need (on_latest f policy) ≤ need policy
  latest_paid =
      one_more (λ policy. T (latest test policy) → k + need (on_latest f policy) ≤ need policy)
      (λ s ss t. omega (arith, length_on f (s ∷ ss), open_paid s ss t))

clause_paid : (f : Form) (of : List ℕ → Clause) → size f ≤ 10 → Paid (clause_entry f of)
clause_paid f of small policy v h =
    latest_paid (size f) (with_clause (of v)) (λ s. ltb (length s.clauses) most_clauses)
    (λ s t. omega (arith, small, ltb→lt (length s.clauses) most_clauses t, length_snoc s.clauses (of v))) policy h.0 h.1.0

zero_paid : Paid zero_entry
zero_paid policy v h = latest_paid 1 with_zero bare (λ s t. unset s.zero (length s.clauses) (10 * (most_clauses - length s.clauses)) t) policy h.0 h.1.0
  where
    unset : (b : Bool) (n k : ℕ) → T (not b && eqb n 0) → 1 + (0 + k) ≤ cond b 0 1 + k
    unset true n k t = absurd t
    unset false n k t = omega arith

entries_paid : All Paid entries
entries_paid =
    (session_paid, (clause_paid exact_form exact_clause (lit≤ tt), (clause_paid direct_form direct_clause (lit≤ tt), (clause_paid any_form any_clause (lit≤ tt), (zero_paid, tt)))))

-- ---- record by record

among_both : {A : Type 0} (good : Entry → Type 0) (is : List Entry) (k k' : ℕ) (its its' : Entry → A) (otherwise otherwise' : Unit {0} → A) → All good is → k ≡ k'
    → ((i : Entry) → good i → its i ≡ its' i) → otherwise tt ≡ otherwise' tt → among is k its otherwise ≡ among is k' its' otherwise'
unfolding among
among_both good [] k k' its its' otherwise otherwise' all e f g = g
among_both good (i ∷ is) k k' its its' otherwise otherwise' all e f g =
    either_both _ _ _ _ _ _ (ap (λ (k : ℕ). eqb k i.form.kind) e) (λ _. f i all.0)
    (λ _. among_both good is k k' its its' otherwise otherwise' all.1 e f g)

records_take : (count : ℕ) (policy : Policy) (at : ℕ) (bs : List ℕ) (m : ℕ) → length bs ≤ count → need policy ≤ m
    → records_from policy at bs ≡ records_from policy at (take m bs)
unfolding entry_record end_record
records_take zero policy at [] m l enough = ap (records_from policy at) (sym (take-nil m))
records_take zero policy at (b ∷ bs) m l enough = absurd (not-suc-le-zero l)
records_take (suc count) policy at [] m l enough = ap (records_from policy at) (sym (take-nil m))
records_take (suc count) policy at (b ∷ bs) m l enough =
    let all : List ℕ = b ∷ bs in
    records_step policy at all
    ∙ among_both Paid entries (kind all) (kind (take m all)) _ _ _ _ entries_paid (kind_take m all (omega arith))
    (λ i paid.
    let f : Form = i.form in
    record_take m all policy_forms (only f) (i.room policy) (i.checks policy) at (λ v n. records_from (i.after policy v) (at + n)) (omega arith)
    (λ h. omega (arith, paid policy [] h))
    (λ z. records_take count (i.after policy (values f all)) (at + size f) (drop (size f) all) (m - size f)
    (drop_shorter (sum f.widths) bs count l) (omega (arith, paid policy (values f all) z.free))))
    (record_take m all policy_forms (only end_form) [] (end_values (records_in policy)) at (λ _ n. tail policy (at + n)) (omega arith) (λ _. omega arith)
    (λ _. tail_take policy (at + 5) (m - 5) (drop 5 all) (omega arith)))
    ∙ sym (records_step policy at (take m all))

pub reading_take : (bs : List ℕ) → reading bs ≡ reading (take (suc longest) bs)
reading_take bs = records_take (length bs) [] 0 bs (suc longest) (le_refl (length bs)) (lit≤ tt)
