-- Reading for a program that has the whole file and a place in it, and of what was read so far knows only the numbers of sessions and
-- records and the latest session.
use Rattle.std.specs.Prelude.{ℕ, suc, ◌+◌, ◌≡◌, refl, Bool, true, false, not, cond, ◌&&◌, List, [], ◌∷◌, ◌++◌, length, get_or, drop, T, eqb}
use Rattle.std.proofs.Common.{arith, sym, ap, ap₂, ◌∙◌, drop-drop}
use Rattle.std.proofs.Math.Path.{fun_ext}
use Rattle.snapshot.specs.Records.{size, values, values_at}
use Rattle.snapshot.proofs.RecordsLaws.{values_at_lem}
use Rattle.snapshot.proofs.PlaceLaws.{kind_at}
use Rattle.snapshot.specs.Format.{latest}
use Rattle.snapshot.specs.Reading.{end_record, AnswerOf, unless, tail}
use Rattle.snapshot.proofs.ChecksLaws.{length_snoc}
use Rattle.policy.specs.Policy.{policy_forms, Clause, Session, Policy, records_in}
use Rattle.policy.specs.Reading.{on_latest, nobody, last, with_clause, with_zero, bare, Entry, entries, among, entry_record, records_from}
use Rattle.policy.proofs.AcceptsLaws.{one_more}
use Rattle.policy.proofs.ReturnsLaws.{records_step}

-- one record at a place, and what comes after it
pub records_one : (bs : List ℕ) (at : ℕ) (policy : Policy)
    → records_from policy at (drop at bs)
    ≡ among entries (get_or bs at 0)
    (λ i. unless (entry_record i policy (drop at bs)) at λ _.
    records_from (i.after policy (values_at i.form bs at)) (at + size i.form) (drop (at + size i.form) bs))
    λ _. unless (end_record policy_forms (records_in policy) (drop at bs)) at λ _. tail policy (at + 5) (drop (at + 5) bs)
records_one bs at policy =
    let end : List ℕ → Unit {0} → AnswerOf Policy = λ rest _. unless (end_record policy_forms (records_in policy) (drop at bs)) at λ _. tail policy (at + 5) rest in
    records_step policy at (drop at bs)
    ∙ ap (λ (k : ℕ). among entries k
    (λ i. unless (entry_record i policy (drop at bs)) at λ _.
    records_from (i.after policy (values i.form (drop at bs))) (at + size i.form) (drop (size i.form) (drop at bs)))
    (end (drop 5 (drop at bs)))) (kind_at bs at)
    ∙ ap₂ (λ (its : Entry → AnswerOf Policy) (rest : List ℕ). among entries (get_or bs at 0) its (end rest))
    (fun_ext λ i. ap₂ (λ (v l : List ℕ). unless (entry_record i policy (drop at bs)) at λ _. records_from (i.after policy v) (at + size i.form) l)
    (values_at_lem i.form bs at) (drop-drop (size i.form) at bs))
    (drop-drop 5 at bs)

-- ---- the latest session

-- a test that `nobody` passes is made on the latest
pub latest_last : (test : Session → Bool) → test nobody ≡ true → (policy : Policy) → latest test policy ≡ test (last policy)
latest_last test e [] = sym e
latest_last test e (s ∷ []) = refl
latest_last test e (s ∷ t ∷ ss) = latest_last test e (t ∷ ss)

pub last_snoc : (policy : Policy) (s : Session) → last (policy ++ (s ∷ [])) ≡ s
last_snoc [] s = refl
last_snoc (q ∷ []) s = refl
last_snoc (q ∷ t ∷ ss) s = last_snoc (t ∷ ss) s

last_cons : (f : Session → Session) (s : Session) (ss : List Session) → last (on_latest f (s ∷ ss)) ≡ f (last (s ∷ ss))
last_cons f s [] = refl
last_cons f s (t ∷ []) = refl
last_cons f s (t ∷ u ∷ ss) = last_cons f t (u ∷ ss)

pub last_on : (f : Session → Session) (policy : Policy) → T (not (eqb (length policy) 0)) → last (on_latest f policy) ≡ f (last policy)
last_on f = one_more (λ policy. last (on_latest f policy) ≡ f (last policy)) (last_cons f)

-- ---- the number of records

pub records_session : (policy : Policy) (router peer : ℕ) → records_in (policy ++ (record { router = router; peer = peer; zero = false; clauses = [] } ∷ [])) ≡ suc (records_in policy)
records_session [] router peer = refl
records_session (s ∷ ss) router peer = let ih = records_session ss router peer in omega arith

module _ (f : Session → Session) (test : Session → Bool)
    (more : (s : Session) → T (test s) → cond (f s).zero 1 0 + length (f s).clauses ≡ suc (cond s.zero 1 0 + length s.clauses)) where
  records_cons : (s : Session) (ss : List Session) → T (latest test (s ∷ ss)) → records_in (on_latest f (s ∷ ss)) ≡ suc (records_in (s ∷ ss))
  records_cons s [] t = let e = more s t in omega arith
  records_cons s (u ∷ ss) t = let ih = records_cons u ss t in omega arith

  records_on : (policy : Policy) → T (not (eqb (length policy) 0)) → T (latest test policy) → records_in (on_latest f policy) ≡ suc (records_in policy)
  records_on = one_more (λ policy. T (latest test policy) → records_in (on_latest f policy) ≡ suc (records_in policy)) records_cons

pub records_clause : (c : Clause) (test : Session → Bool) (policy : Policy) → T (not (eqb (length policy) 0)) → T (latest test policy) → records_in (on_latest (with_clause c) policy) ≡ suc (records_in policy)
records_clause c test = records_on (with_clause c) test (λ s t. let l = length_snoc s.clauses c in omega arith)

pub records_zero : (policy : Policy) → T (not (eqb (length policy) 0)) → T (latest bare policy) → records_in (on_latest with_zero policy) ≡ suc (records_in policy)
records_zero = records_on with_zero bare (λ s t. unset s.zero (length s.clauses) t)
  where
    unset : (b : Bool) (n : ℕ) → T (not b && eqb n 0) → 1 + n ≡ suc (cond b 1 0 + n)
    unset true n t = absurd t
    unset false n t = omega arith
