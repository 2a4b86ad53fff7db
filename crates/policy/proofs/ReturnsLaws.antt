-- The equation of reading one record, and: the writing of a valid policy is read back as that policy.
use Prim.Native.Nat.{ℕ, zero, suc, ◌+◌, ◌*◌, ◌^◌, ◌≤◌, ◌<◌}
use Rattle.std.proofs.Common.{le_refl, not-suc-le-zero, arith, ap₂, ◌∙◌, length-drop, lt→ltb}
use Rattle.std.specs.Prelude.{◌≡◌, refl, Bool, cond, drop, T, ltb}
use Rattle.std.proofs.Math.Path.{sym, ap, fun_ext}
use Rattle.std.proofs.Math.Bool.{true, false}
use mathlib.Core.List.{List, [], ◌∷◌, ◌++◌, append_assoc, append-nil}
use Rattle.std.proofs.Math.ListN.{length}
use Rattle.std.proofs.Math.Dec.{eqb_refl}
use Rattle.snapshot.specs.Records.{Form, end_form, only, written, Fits, known, kind, values, size}
use Rattle.snapshot.proofs.RecordsLaws.{values_written, drop_written, only_chosen}
use Rattle.snapshot.specs.Format.{Holds, Each}
use Rattle.snapshot.specs.Reading.{end_record, AnswerOf, accepted, unless, either, tail, end_values}
use Rattle.snapshot.proofs.ChecksLaws.{judged_passed, record_passes, latest_snoc, snoc_some, length_snoc}
use Rattle.policy.specs.Policy.{Clause, exact, direct, any, Session, Policy, most_sessions, most_clauses, policy_forms, session_form, exact_form, direct_form, any_form, clause_form, clause_fields, clause_checks, clauses_bytes, zero_bytes, sessions_bytes, records_in, encode, GoodClause, GoodSession, Valid}
use Rattle.policy.specs.Reading.{on_latest, with_clause, with_zero, bare, Entry, session_entry, clause_entry, zero_entry, exact_clause, direct_clause, any_clause, entries, among, entry_record, records_within, records_from, reading}

-- ---- the count of `records_within` does not matter

within_same : (m n : ℕ) (policy : Policy) (at : ℕ) (bs : List ℕ) → length bs < m → length bs < n → records_within m policy at bs ≡ records_within n policy at bs
unfolding records_within among either
within_same zero n policy at bs hm hn = absurd (not-suc-le-zero hm)
within_same (suc m) zero policy at bs hm hn = absurd (not-suc-le-zero hn)
within_same (suc m) (suc n) policy at [] hm hn = refl
within_same (suc m) (suc n) policy at (b ∷ bs) hm hn =
    ap (λ (its : Entry → AnswerOf Policy). among entries b its
    (λ _. unless (end_record policy_forms (records_in policy) (b ∷ bs)) at λ _. tail policy (at + 5) (drop 5 (b ∷ bs))))
    (fun_ext λ i. ap (unless (entry_record i policy (b ∷ bs)) at)
    (fun_ext λ _. within_same m n (i.after policy (values i.form (b ∷ bs))) (at + size i.form) (drop (size i.form) (b ∷ bs))
    (simp length-drop (omega arith)) (simp length-drop (omega arith))))

-- one record, and what comes after it
pub records_step : (policy : Policy) (at : ℕ) (bs : List ℕ)
    → records_from policy at bs
    ≡ among entries (kind bs)
    (λ i. unless (entry_record i policy bs) at λ _.
    records_from (i.after policy (values i.form bs)) (at + size i.form) (drop (size i.form) bs))
    λ _. unless (end_record policy_forms (records_in policy) bs) at λ _. tail policy (at + 5) (drop 5 bs)
unfolding records_from records_within among either
records_step policy at [] = refl
records_step policy at (b ∷ bs) =
    ap (λ (its : Entry → AnswerOf Policy). among entries b its
    (λ _. unless (end_record policy_forms (records_in policy) (b ∷ bs)) at λ _. tail policy (at + 5) (drop 5 (b ∷ bs))))
    (fun_ext λ i. ap (unless (entry_record i policy (b ∷ bs)) at)
    (fun_ext λ _. within_same (suc (length bs)) (suc (length (drop (size i.form) (b ∷ bs)))) (i.after policy (values i.form (b ∷ bs))) (at + size i.form) (drop (size i.form) (b ∷ bs))
    (simp length-drop (omega arith)) (le_refl _)))

-- ---- a record that was written

-- the entry of its kind
abbrev Listed : Entry → Type 1
Listed i = (A : Type 0) (its : Entry → A) (otherwise : Unit {0} → A) → among entries i.form.kind its otherwise ≡ its i

entry_back : (i : Entry) → Listed i → T (known policy_forms i.form.kind) → (policy : Policy) (at : ℕ) (vs rest : List ℕ)
    → Fits i.form.widths vs → Holds (i.room policy) → Holds (i.checks policy vs)
    → records_from policy at (written i.form vs ++ rest) ≡ records_from (i.after policy vs) (at + size i.form) rest
unfolding entry_record
entry_back i listed some policy at vs rest fit room good =
    let f : Form = i.form in
    let bs : List ℕ = written f vs ++ rest in
    records_step policy at bs
    ∙ listed (AnswerOf Policy) _ _
    ∙ judged_passed (entry_record i policy bs) _ _ (record_passes policy_forms (only f) (only_chosen policy_forms f some) vs rest fit (i.room policy) (i.checks policy) room good)
    ∙ ap₂ (λ (v l : List ℕ). records_from (i.after policy v) (at + size f) l) (values_written f vs rest fit) (drop_written f vs rest fit)

-- ---- the latest session

on_last : (f : Session → Session) (done : Policy) (s : Session) → on_latest f (done ++ (s ∷ [])) ≡ done ++ (f s ∷ [])
on_last f [] s = refl
on_last f (q ∷ []) s = refl
on_last f (q ∷ u ∷ done) s = ap {B = Policy} (λ l. q ∷ l) (on_last f (u ∷ done) s)

module _ (a : AnswerOf Policy) (done : Policy) (router peer : ℕ) where
  abbrev opened : Bool → List Clause → Policy
  opened b cs = done ++ (record { router = router; peer = peer; zero = b; clauses = cs } ∷ [])

  clause_back : (f : Form) (of : List ℕ → Clause) → Listed (clause_entry f of) → T (known policy_forms f.kind) → (vs : List ℕ)
      → Fits f.widths vs → Holds (clause_checks (of vs))
      → (b : Bool) (before : List Clause) (at : ℕ) (rest : List ℕ) → length before < most_clauses
      → ((at' : ℕ) → records_from (opened b (before ++ (of vs ∷ []))) at' rest ≡ a)
      → records_from (opened b before) at (written f vs ++ rest) ≡ a
  clause_back f of listed some vs fit good b before at rest few next =
      let room : Session → Bool = λ s. ltb (length s.clauses) most_clauses in
      entry_back (clause_entry f of) listed some (opened b before) at vs rest fit
      (snoc_some done _, (rw (latest_snoc room done (record { router = router; peer = peer; zero = b; clauses = before })) (lt→ltb (length before) most_clauses few), tt)) good
      ∙ ap (λ (p : Policy). records_from p (at + size f) rest) (on_last (with_clause (of vs)) done _)
      ∙ next (at + size f)

  one_clause_back : (c : Clause) → GoodClause [] c → (b : Bool) (before : List Clause) (at : ℕ) (rest : List ℕ) → length before < most_clauses
      → ((at' : ℕ) → records_from (opened b (before ++ (c ∷ []))) at' rest ≡ a)
      → records_from (opened b before) at (written (clause_form c) (clause_fields c) ++ rest) ≡ a
  unfolding among either
  one_clause_back (exact address bits preference) good = clause_back exact_form exact_clause (λ A its otherwise. refl) tt (address ∷ bits ∷ preference ∷ []) good.fits good.obeys
  one_clause_back (direct asn preference) good = clause_back direct_form direct_clause (λ A its otherwise. refl) tt (asn ∷ preference ∷ []) good.fits good.obeys
  one_clause_back (any preference) good = clause_back any_form any_clause (λ A its otherwise. refl) tt (preference ∷ []) good.fits good.obeys

  clauses_back : (b : Bool) (before cs : List Clause) (at : ℕ) (rest : List ℕ)
      → length before + length cs ≤ most_clauses → Each GoodClause before cs
      → ((at' : ℕ) → records_from (opened b (before ++ cs)) at' rest ≡ a)
      → records_from (opened b before) at (clauses_bytes cs ++ rest) ≡ a
  clauses_back b before [] at rest few good next = rw (← append-nil before) (next at)
  clauses_back b before (c ∷ cs) at rest few good next =
      ap (records_from (opened b before) at) (append_assoc (written (clause_form c) (clause_fields c)) (clauses_bytes cs) rest)
      ∙ one_clause_back c (record { fits = good.0.fits; obeys = good.0.obeys }) b before at (clauses_bytes cs ++ rest) (omega arith)
      (λ at'. let l = length_snoc before c in
      clauses_back b (before ++ (c ∷ [])) cs at' rest (omega arith) good.1 (λ at''. rw append_assoc (next at'')))

  -- the record of kind 5, or none, and then the clauses
  zero_back : (b : Bool) (at : ℕ) (rest : List ℕ)
      → ((at' : ℕ) → records_from (opened b []) at' rest ≡ a)
      → records_from (opened false []) at (zero_bytes b ++ rest) ≡ a
  unfolding among either
  zero_back true at rest next =
      entry_back zero_entry (λ A its otherwise. refl) tt (opened false []) at [] rest tt
      (snoc_some done _, (rw (latest_snoc bare done (record { router = router; peer = peer; zero = false; clauses = [] })) tt, tt)) tt
      ∙ ap (λ (p : Policy). records_from p (at + 1) rest) (on_last with_zero done _)
      ∙ next (at + 1)
  zero_back false at rest next = next at

-- ---- the whole

module _ (all : Policy) (small : records_in all < 256 ^ 4) where
  sessions_back : (done ss : Policy) (at : ℕ)
      → done ++ ss ≡ all → length done + length ss ≤ most_sessions → Each GoodSession done ss
      → records_from done at (sessions_bytes ss ++ written end_form (records_in all ∷ [])) ≡ accepted all
  unfolding among either end_record
  sessions_back done [] at is few good =
      let same : done ≡ all = sym (append-nil done) ∙ is in
      let bs : List ℕ = written end_form (records_in all ∷ []) in
      records_step done at bs
      ∙ judged_passed (end_record policy_forms (records_in done) bs) _ _
      (record_passes policy_forms (only end_form) (only_chosen policy_forms end_form tt) (records_in all ∷ []) [] (small, tt) [] (end_values (records_in done)) tt (rw same (eqb_refl (records_in all)), tt))
      ∙ ap accepted same
  sessions_back done (s ∷ ss) at is few good =
      let vs : List ℕ = s.router ∷ s.peer ∷ [] in
      let end : List ℕ = written end_form (records_in all ∷ []) in
      let rest : List ℕ = sessions_bytes ss ++ end in
      let front : List ℕ = zero_bytes s.zero ++ (clauses_bytes s.clauses ++ rest) in
      let few_here : length s.clauses ≤ most_clauses = good.0.few in
      ap (records_from done at) (regroup (written session_form vs) (zero_bytes s.zero) (clauses_bytes s.clauses) (sessions_bytes ss) end)
      ∙ entry_back session_entry (λ A its otherwise. refl) tt done at vs front good.0.fits (lt→ltb (length done) most_sessions (omega arith), tt) good.0.obeys
      ∙ zero_back (accepted all) done s.router s.peer s.zero (at + 6) (clauses_bytes s.clauses ++ rest)
      (λ at'. clauses_back (accepted all) done s.router s.peer s.zero [] s.clauses at' rest (omega arith) good.0.clauses
      (λ at''. sessions_back (done ++ (s ∷ [])) ss at'' (append_assoc done (s ∷ []) ss ∙ is) (let l = length_snoc done s in omega arith) good.1))
    where
      regroup : (w z c more end : List ℕ) → ((w ++ (z ++ c)) ++ more) ++ end ≡ w ++ (z ++ (c ++ (more ++ end)))
      regroup w z c more end = simp append_assoc

one_or_none : (b : Bool) → cond b 1 0 ≤ 1
one_or_none true = omega arith
one_or_none false = omega arith

few_records : (before policy : Policy) → Each GoodSession before policy → records_in policy ≤ length policy * (2 + most_clauses)
few_records before [] g = omega arith
few_records before (s ∷ ss) g = omega (arith, g.0.few, one_or_none s.zero, few_records (before ++ (s ∷ [])) ss g.1)

pub reading_back : (policy : Policy) → Valid policy → reading (encode policy) ≡ accepted policy
reading_back policy v =
    sessions_back policy (omega (arith, v.few, few_records [] policy v.sessions)) [] policy 0 refl (omega (arith, v.few)) v.sessions
