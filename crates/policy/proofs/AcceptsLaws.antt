-- What reading accepts is the writing of a valid policy, and of the one that it answers.
use Rattle.std.specs.Prelude.{ℕ, zero, suc, ◌+◌, ◌≡◌, Bool, true, false, not, ◌&&◌, length, T, eqb, ltb}
use Rattle.std.proofs.Common.{arith, ap₂, ◌∙◌, subst, ltb→lt, eqb→eq}
use Rattle.std.proofs.Math.Path.{refl, sym, ap}
use mathlib.Core.List.{List, [], ◌∷◌, ◌++◌, append_assoc, append-nil}
use Rattle.std.proofs.Math.ListN.{drop}
use Rattle.std.proofs.Math.Pow.{are_bytes}
use Rattle.wire.specs.NumbersLaws.{bytes_drop}
use Rattle.snapshot.specs.Records.{Form, end_form, only, written, Fits, kind, values, size}
use Rattle.snapshot.proofs.RecordsLaws.{split_written, fits_values}
use Rattle.snapshot.specs.Format.{Holds, latest, Each}
use Rattle.snapshot.specs.Reading.{end_record, accepted, tail, end_values}
use Rattle.snapshot.proofs.ChecksLaws.{Passed, passed, unless_accepted, either_cases, refused_not_accepted, accepted_injective, each_snoc, length_snoc}
use Rattle.policy.specs.Policy.{Clause, Session, Policy, most_clauses, policy_forms, session_form, exact_form, direct_form, any_form, zero_form, clause_form, clause_fields, clauses_bytes, zero_bytes, session_bytes, sessions_bytes, records_in, encode, GoodClause, GoodSession, Valid}
use Rattle.policy.specs.Reading.{on_latest, with_clause, with_zero, bare, Entry, session_entry, clause_entry, zero_entry, exact_clause, direct_clause, any_clause, entries, among, entry_record, records_within, records_from, reading}

-- ---- a list with a member

pub one_more : {A : Type 0} (P : List A → Type 0) → ((x : A) (xs : List A) → P (x ∷ xs)) → (xs : List A) → T (not (eqb (length xs) 0)) → P xs
one_more P f [] h = absurd h
one_more P f (x ∷ xs) h = f x xs

-- ---- the latest session altered

module _ (f : Session → Session) (test : Session → Bool) where
  on_bytes : (more : List ℕ) → ((s : Session) → T (test s) → session_bytes (f s) ≡ session_bytes s ++ more)
      → (s : Session) (ss : List Session) → T (latest test (s ∷ ss)) → sessions_bytes (on_latest f (s ∷ ss)) ≡ sessions_bytes (s ∷ ss) ++ more
  on_bytes more e s [] t =
      append-nil (session_bytes (f s)) ∙ e s t ∙ ap (λ (l : List ℕ). l ++ more) (sym (append-nil (session_bytes s)))
  on_bytes more e s (u ∷ ss) t =
      ap (λ (l : List ℕ). session_bytes s ++ l) (on_bytes more e u ss t) ∙ sym (append_assoc (session_bytes s) (sessions_bytes (u ∷ ss)) more)

  on_good : ((before : List Session) (s : Session) → T (test s) → GoodSession before s → GoodSession before (f s))
      → (before : List Session) (s : Session) (ss : List Session) → T (latest test (s ∷ ss)) → Each GoodSession before (s ∷ ss) → Each GoodSession before (on_latest f (s ∷ ss))
  on_good g before s [] t h = (g before s t h.0, tt)
  on_good g before s (u ∷ ss) t h = (h.0, on_good g (before ++ (s ∷ [])) u ss t h.1)

pub length_on : (f : Session → Session) (policy : Policy) → length (on_latest f policy) ≡ length policy
length_on f [] = refl
length_on f (s ∷ []) = refl
length_on f (s ∷ u ∷ ss) = ap suc (length_on f (u ∷ ss))

-- ---- what each entry adds

-- an entry's record goes over to what was read, and leaves it valid
record Sound (i : Entry) : Type 0 where
  bytes : (policy : Policy) (bs : List ℕ) → Passed (only i.form) (i.room policy) (i.checks policy) bs
      → sessions_bytes (i.after policy (values i.form bs)) ≡ sessions_bytes policy ++ written i.form (values i.form bs)
  valid : (policy : Policy) (bs : List ℕ) → T (are_bytes bs) → Passed (only i.form) (i.room policy) (i.checks policy) bs → Valid policy
      → Valid (i.after policy (values i.form bs))

sessions_snoc : (policy : Policy) (s : Session) → sessions_bytes (policy ++ (s ∷ [])) ≡ sessions_bytes policy ++ session_bytes s
sessions_snoc [] s = append-nil (session_bytes s)
sessions_snoc (q ∷ ss) s = ap (λ (l : List ℕ). session_bytes q ++ l) (sessions_snoc ss s) ∙ sym (append_assoc (session_bytes q) (sessions_bytes ss) (session_bytes s))

session_sound : Sound session_entry
session_sound = record {
  bytes = λ policy bs p. sessions_snoc policy _ ∙ ap (λ (l : List ℕ). sessions_bytes policy ++ l) (append-nil (written session_form (values session_form bs)));
  valid = λ policy bs t p v. record {
    few = rw length_snoc (ltb→lt _ _ p.free.0);
    sessions = each_snoc GoodSession [] policy _ v.sessions (record { fits = fits_values session_form bs t p.whole; obeys = p.good; few = omega arith; clauses = tt });
  };
}

clauses_snoc : (cs : List Clause) (c : Clause) → clauses_bytes (cs ++ (c ∷ [])) ≡ clauses_bytes cs ++ written (clause_form c) (clause_fields c)
clauses_snoc [] c = append-nil (written (clause_form c) (clause_fields c))
clauses_snoc (d ∷ cs) c =
    ap (λ (l : List ℕ). written (clause_form d) (clause_fields d) ++ l) (clauses_snoc cs c)
    ∙ sym (append_assoc (written (clause_form d) (clause_fields d)) (clauses_bytes cs) (written (clause_form c) (clause_fields c)))

grown : (w z c x : List ℕ) → w ++ (z ++ (c ++ x)) ≡ (w ++ (z ++ c)) ++ x
grown w z c x = simp append_assoc

clause_sound : (f : Form) (of : List ℕ → Clause)
    → ((bs : List ℕ) (F : Form → List ℕ → Type 0) → F f (values f bs) → F (clause_form (of (values f bs))) (clause_fields (of (values f bs))))
    → Sound (clause_entry f of)
clause_sound f of is = record {
  bytes = λ policy bs p.
      let v : List ℕ = values f bs in
      one_more (λ policy. T (latest (λ s. room s) policy) → sessions_bytes (on_latest (with_clause (of v)) policy) ≡ sessions_bytes policy ++ written f v)
      (λ s ss. on_bytes (with_clause (of v)) room (written f v)
      (λ s t. ap (λ (l : List ℕ). written session_form (s.router ∷ s.peer ∷ []) ++ (zero_of s ++ l)) (clauses_snoc s.clauses (of v))
      ∙ grown (written session_form (s.router ∷ s.peer ∷ [])) (zero_of s) (clauses_bytes s.clauses) (written (clause_form (of v)) (clause_fields (of v)))
      ∙ ap (λ (l : List ℕ). session_bytes s ++ l) (is bs (λ g vs. written g vs ≡ written f v) refl)) s ss)
      policy p.free.0 p.free.1.0;
  valid = λ policy bs t p v.
      let c : Clause = of (values f bs) in
      let g : (before : List Session) (s : Session) → T (room s) → GoodSession before s → GoodSession before (with_clause c s) =
      λ before s l h. record {
        fits = h.fits;
        obeys = h.obeys;
        few = rw length_snoc (ltb→lt _ _ l);
        clauses = each_snoc GoodClause [] s.clauses c h.clauses (record { fits = is bs (λ g vs. Fits g.widths vs) (fits_values f bs t p.whole); obeys = p.good });
      } in
      one_more (λ policy. T (latest (λ s. room s) policy) → Valid policy → Valid (on_latest (with_clause c) policy))
      (λ s ss l v. record {
        few = rw (length_on (with_clause c) (s ∷ ss)) v.few;
        sessions = on_good (with_clause c) room g [] s ss l v.sessions;
      })
      policy p.free.0 p.free.1.0 v;
}
  where
    room : Session → Bool
    room s = ltb (length s.clauses) most_clauses

    zero_of : Session → List ℕ
    zero_of s = zero_bytes s.zero

zero_bytes_lem : (w : List ℕ) (b : Bool) (cs : List Clause) → T (not b && eqb (length cs) 0)
    → w ++ (written zero_form [] ++ clauses_bytes cs) ≡ (w ++ (zero_bytes b ++ clauses_bytes cs)) ++ written zero_form []
zero_bytes_lem w true cs t = absurd t
zero_bytes_lem w false [] t = ap (λ (l : List ℕ). l ++ written zero_form []) (sym (append-nil w))
zero_bytes_lem w false (c ∷ cs) t = absurd (let e : suc (length cs) ≡ 0 = eqb→eq _ _ t in omega arith)

zero_sound : Sound zero_entry
zero_sound = record {
  bytes = λ policy bs p.
      one_more (λ policy. T (latest bare policy) → sessions_bytes (on_latest with_zero policy) ≡ sessions_bytes policy ++ written zero_form [])
      (λ s ss. on_bytes with_zero bare (written zero_form []) (λ s t. zero_bytes_lem (written session_form (s.router ∷ s.peer ∷ [])) s.zero s.clauses t) s ss)
      policy p.free.0 p.free.1.0;
  valid = λ policy bs t p v.
      one_more (λ policy. T (latest bare policy) → Valid policy → Valid (on_latest with_zero policy))
      (λ s ss l v. record {
        few = rw (length_on with_zero (s ∷ ss)) v.few;
        sessions = on_good with_zero bare (λ before s l h. record { fits = h.fits; obeys = h.obeys; few = h.few; clauses = h.clauses }) [] s ss l v.sessions;
      })
      policy p.free.0 p.free.1.0 v;
}

-- each entry of a list is good
abbrev pub All : (Entry → Type 0) → List Entry → Type 0
All good [] = Unit {0}
All good (i ∷ is) = good i × All good is

entries_sound : All Sound entries
entries_sound =
    (session_sound, (clause_sound exact_form exact_clause (λ bs F h. h), (clause_sound direct_form direct_clause (λ bs F h. h), (clause_sound any_form any_clause (λ bs F h. h), (zero_sound, tt)))))

-- ---- record by record

among_cases : {A G : Type 0} (is : List Entry) (k : ℕ) (its : Entry → A) (otherwise : Unit {0} → A) (a : A) → All Sound is → among is k its otherwise ≡ a
    → ((i : Entry) → Sound i → its i ≡ a → G) → (otherwise tt ≡ a → G) → G
unfolding among
among_cases [] k its otherwise a all e f g = g e
among_cases (i ∷ is) k its otherwise a all e f g =
    either_cases (eqb k i.form.kind) _ _ a e (λ _ e. f i all.0 e) (λ _ e. among_cases is k its otherwise a all.1 e f g)

-- W is the input. So far `policy` was read, and `bs` is left
record SoFar (W : List ℕ) (policy : Policy) (bs : List ℕ) : Type 0 where
  bytes : T (are_bytes bs)
  written_is : W ≡ sessions_bytes policy ++ bs
  valid : Valid policy

module _ (W : List ℕ) (policy : Policy) (bs : List ℕ) (c : SoFar W policy bs) where
  entry_read : (i : Entry) → Sound i → Holds (entry_record i policy bs) → SoFar W (i.after policy (values i.form bs)) (drop (size i.form) bs)
  unfolding entry_record
  entry_read i s e =
      let p = passed policy_forms (only i.form) (i.room policy) (i.checks policy) bs e in
      record {
        bytes = bytes_drop (size i.form) bs c.bytes;
        written_is = c.written_is
            ∙ ap (λ (l : List ℕ). sessions_bytes policy ++ l) (split_written i.form bs c.bytes p.due p.whole)
            ∙ sym (append_assoc (sessions_bytes policy) (written i.form (values i.form bs)) (drop (size i.form) bs))
            ∙ ap (λ (l : List ℕ). l ++ drop (size i.form) bs) (sym (s.bytes policy bs p));
        valid = s.valid policy bs c.bytes p c.valid;
      }

  at_end : (t : Policy) (at : ℕ) → Holds (end_record policy_forms (records_in policy) bs) → tail policy at (drop 5 bs) ≡ accepted t → (W ≡ encode t) × Valid t
  unfolding end_record
  at_end t at e r = go (drop 5 bs) refl r
    where
      h : Passed (only end_form) [] (end_values (records_in policy)) bs
      h = passed policy_forms (only end_form) [] (end_values (records_in policy)) bs e

      go : (rest : List ℕ) → drop 5 bs ≡ rest → tail policy at rest ≡ accepted t → (W ≡ encode t) × Valid t
      go [] d r =
          subst (λ (t : Policy). (W ≡ encode t) × Valid t) (accepted_injective r) (
            c.written_is
                ∙ ap (λ (l : List ℕ). sessions_bytes policy ++ l)
                (split_written end_form bs c.bytes h.due h.whole
                ∙ ap₂ (λ (n : ℕ) (l : List ℕ). written end_form (n ∷ []) ++ l) (eqb→eq _ _ h.good.0) d),
            c.valid,
          )
      go (b ∷ rest) d r = absurd (refused_not_accepted r)

records_sound : (count : ℕ) (W : List ℕ) (t policy : Policy) (at : ℕ) (bs : List ℕ) → SoFar W policy bs → records_within count policy at bs ≡ accepted t → (W ≡ encode t) × Valid t
unfolding records_within
records_sound zero W t policy at bs c e = absurd (refused_not_accepted e)
records_sound (suc count) W t policy at bs c e =
    among_cases entries (kind bs) _ _ (accepted t) entries_sound e
    (λ i s e.
    let (h, go) = unless_accepted (entry_record i policy bs) at _ t e in
    records_sound count W t (i.after policy (values i.form bs)) (at + size i.form) (drop (size i.form) bs) (entry_read W policy bs c i s h) go)
    (λ e.
    let (h, go) = unless_accepted (end_record policy_forms (records_in policy) bs) at _ t e in
    at_end W policy bs c t (at + 5) h go)

pub reading_sound : (bs : List ℕ) (policy : Policy) → T (are_bytes bs) → reading bs ≡ accepted policy → (bs ≡ encode policy) × Valid policy
unfolding records_from
reading_sound bs policy bytes e =
    records_sound (suc (length bs)) bs policy [] 0 bs (record { bytes = bytes; written_is = refl; valid = record { few = omega arith; sessions = tt } }) e
