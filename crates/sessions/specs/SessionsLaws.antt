-- What one pass over a policy file rests on: the code's tests are those of each entry, and how the pass goes on behind a record.
use Rattle.std.specs.Prelude.{ℕ, suc, ◌+◌, ◌≤◌, ◌<◌, ◌≡◌, refl, Bool, true, false, not, ◌&&◌, ◌||◌, List, [], ◌∷◌, ◌++◌, length, get_or, drop, T, leb, ltb, eqb, Result, Ok, Err}
use Rattle.std.proofs.Math.Decide.{dec_le}
use Rattle.std.proofs.Common.{arith, sym, ap₂, ◌∙◌, subst, drop_of_length-le, drop-cons, ltb→lt, eq-eqb, ne_eqb, lt-ltb, le-ltb}
use Rattle.std.proofs.Math.Path.{ap}
use Rattle.std.proofs.Math.Bool.{cond, and-false, or-false}
use Rattle.std.proofs.Math.Dec.{eqb-suc-zero}
use Rattle.std.proofs.lemmas.Bool.Decides.{nat_tests}
use Rattle.wire.specs.Numbers.{number_at}
use Rattle.refusal.specs.declared.Refusal.{Refusal}
use Rattle.refusal.specs.declared.Refusal.TheVariants.{Place, Full, Field, Order, Tail}
use Rattle.refusal.specs.declared.Refused.{Refused}
use Rattle.refusal.specs.Numbers.{refuses, gives}
use Rattle.snapshot.specs.Ranges.{rises}
use Rattle.snapshot.specs.Records.{Form, only, sum, size, values_at}
use Rattle.snapshot.specs.Format.{Check, ◌else◌, judged, Holds, latest}
use Rattle.snapshot.specs.Reading.{AnswerOf, refused, unless, either, tail, end_record}
use Rattle.snapshot.proofs.ChecksLaws.{length_snoc}
use Rattle.cursor.specs.declared.Cursor.{Cursor}
use Rattle.cursor.specs.Steps.{begin, refused_at, finding, body_of, body_length, opening_checks, end_by, behind, judged_at, ending}
use Rattle.cursor.specs.StepsLaws.{on_finding, finding_holds, holds_finding, judged_finding, opened, ltb_leb, extra_checks, record_found, end_table_found}
use Rattle.policy.specs.Policy.{Clause, Session, Policy, most_sessions, most_clauses, policy_forms, exact_form, direct_form, any_form, clause_checks, session_checks, records_in}
use Rattle.policy.specs.Reading.{last, with_clause, with_zero, bare, on_latest, Entry, session_entry, clause_entry, zero_entry, exact_clause, direct_clause, any_clause, entries, among, entry_record, records_from, reading}
use Rattle.policy.proofs.AcceptsLaws.{length_on}
use Rattle.policy.proofs.PlaceLaws.{records_one, latest_last, last_snoc, last_on, records_session, records_clause, records_zero}
use Rattle.sessions.specs.declared.Latest.{Latest}
use Rattle.sessions.specs.Sessions.{unread, said_of, astray_of, full_of, session_faults, faults_of, more_session, more_of, next_of, Tells, Reads, Known, Agrees, Listed, listed, Other, Entered}

-- ---- each entry

-- a session with a peer address other than 0 rises above nobody
above_nobody : (router peer : ℕ) → eqb peer 0 ≡ false → rises 0 0 router peer ≡ true
above_nobody router peer e = grind (arith, nat_tests)

module _ {policy : Policy} {k : Latest} (t : Tells policy k) where
  -- what a last check finds at a place
  abbrev one : ℕ → Refusal → Bool → Result (Unit {0}) Refused
  one at r b = cond b (Ok tt) (Err (refused_at at r))

  -- a kind 1
  session_room : (at : ℕ) → finding at ((ltb (length policy) most_sessions else Full) ∷ []) ≡ finding at (extra_checks false (leb most_sessions k.sessions || false))
  session_room at =
      ap (one at Full) (ap (λ (n : ℕ). ltb n most_sessions) (sym t.sessions) ∙ ltb_leb k.sessions most_sessions ∙ ap not (sym (or-false (leb most_sessions k.sessions))))

  session_values : (at router peer : ℕ) → finding at (session_checks policy router peer) ≡ finding at (session_faults k router peer)
  session_values at router peer = go (eqb peer 0) refl
    where
      go : (b : Bool) → eqb peer 0 ≡ b
          → cond (not b) (one at Order (latest (λ s. rises s.router s.peer router peer) policy)) (Err (refused_at at Field))
          ≡ cond (not b) (one at Order (rises k.router k.peer router peer)) (Err (refused_at at Field))
      go true e = refl
      go false e =
          ap (one at Order)
          (latest_last (λ s. rises s.router s.peer router peer) (above_nobody router peer e) policy
          ∙ ap₂ (λ (a b : ℕ). rises a b router peer) (sym t.router) (sym t.peer))

  tells_session : (router peer : ℕ) → T (ltb (length policy) most_sessions)
      → Tells (policy ++ (record { router = router; peer = peer; zero = false; clauses = [] } ∷ [])) (more_session k router peer)
  tells_session router peer h =
      let s : Session = record { router = router; peer = peer; zero = false; clauses = [] } in
      let is : s ≡ last (policy ++ (s ∷ [])) = sym (last_snoc policy s) in
      let one = length_snoc policy s in
      let count : k.sessions ≡ length policy = t.sessions in
      let few : length policy < most_sessions = ltb→lt _ _ h in
      record {
        sessions = omega arith;
        router = ap (λ (s : Session). s.router) is;
        peer = ap (λ (s : Session). s.peer) is;
        bare = ap bare is;
        clauses = ap (λ (s : Session). length s.clauses) is;
        few = omega arith;
        short = omega arith;
      }

  -- the kinds 2 to 4
  shorter : latest (λ s. ltb (length s.clauses) most_clauses) policy ≡ ltb k.clauses most_clauses
  shorter = latest_last (λ s. ltb (length s.clauses) most_clauses) refl policy ∙ ap (λ (n : ℕ). ltb n most_clauses) (sym t.clauses)

  clause_room : (at : ℕ) → finding at ((not (eqb (length policy) 0) else Place) ∷ (latest (λ s. ltb (length s.clauses) most_clauses) policy else Full) ∷ [])
      ≡ finding at (extra_checks (eqb k.sessions 0 || false) (leb most_clauses k.clauses))
  clause_room at =
      ap₂ (λ (a b : Bool). cond (not a) (one at Full b) (Err (refused_at at Place)))
      (ap (λ (n : ℕ). eqb n 0) (sym t.sessions) ∙ sym (or-false (eqb k.sessions 0)))
      (shorter ∙ ltb_leb k.clauses most_clauses)

  tells_clause : (c : Clause) → T (not (eqb (length policy) 0)) → T (latest (λ s. ltb (length s.clauses) most_clauses) policy)
      → Tells (on_latest (with_clause c) policy) (more_of k (k.clauses + 1))
  tells_clause c some h =
      let is : with_clause c (last policy) ≡ last (on_latest (with_clause c) policy) = sym (last_on (with_clause c) policy some) in
      let one : length ((last policy).clauses ++ (c ∷ [])) ≡ suc (length (last policy).clauses) = length_snoc (last policy).clauses c in
      let count : k.clauses ≡ length (last policy).clauses = t.clauses in
      let less : k.clauses < most_clauses = ltb→lt _ _ (subst T shorter h) in
      let more : k.clauses + 1 ≡ length ((last policy).clauses ++ (c ∷ [])) = omega arith in
      record {
        sessions = t.sessions ∙ sym (length_on (with_clause c) policy);
        router = t.router ∙ ap (λ (s : Session). s.router) is;
        peer = t.peer ∙ ap (λ (s : Session). s.peer) is;
        bare = sym (ap (λ (n : ℕ). not (last policy).zero && eqb n 0) one ∙ ap (λ (b : Bool). not (last policy).zero && b) (eqb-suc-zero (length (last policy).clauses)) ∙ and-false (not (last policy).zero)) ∙ ap bare is;
        clauses = more ∙ ap (λ (s : Session). length s.clauses) is;
        few = t.few;
        short = omega arith;
      }

  -- a kind 5
  zero_room : (at : ℕ) → finding at ((not (eqb (length policy) 0) else Place) ∷ (latest bare policy else Place) ∷ []) ≡ finding at (extra_checks (eqb k.sessions 0 || not k.bare) false)
  zero_room at =
      ap₂ (λ (a b : Bool). cond (not a) (one at Place b) (Err (refused_at at Place)))
      (ap (λ (n : ℕ). eqb n 0) (sym t.sessions)) (latest_last bare refl policy ∙ sym t.bare)
      ∙ join (eqb k.sessions 0) k.bare
    where
      join : (a b : Bool) → cond (not a) (one at Place b) (Err (refused_at at Place)) ≡ finding at (extra_checks (a || not b) false)
      join true b = refl
      join false true = refl
      join false false = refl

  tells_zero : T (not (eqb (length policy) 0)) → Tells (on_latest with_zero policy) (more_of k k.clauses)
  tells_zero some =
      let is : with_zero (last policy) ≡ last (on_latest with_zero policy) = sym (last_on with_zero policy some) in
      record {
        sessions = t.sessions ∙ sym (length_on with_zero policy);
        router = t.router ∙ ap (λ (s : Session). s.router) is;
        peer = t.peer ∙ ap (λ (s : Session). s.peer) is;
        bare = ap bare is;
        clauses = t.clauses ∙ ap (λ (s : Session). length s.clauses) is;
        few = t.few;
        short = t.short;
      }

session_agrees : Agrees session_entry
unfolding among either
session_agrees = record {
  long = refl;
  chosen = λ its otherwise. refl;
  room = λ t at. session_room t at;
  values = λ t bs at. session_values t at (number_at 1 bs (at + 1)) (number_at 4 bs (at + 2));
  after = λ t h bs at. tells_session t (number_at 1 bs (at + 1)) (number_at 4 bs (at + 2)) h.0;
  counts = λ policy h v. records_session policy (get_or v 0 0) (get_or v 1 0);
}

-- a clause: what its form and its values must be
clause_agrees : (f : Form) (of : List ℕ → Clause)
    → ((its : Entry → AnswerOf Policy) (otherwise : Unit {0} → AnswerOf Policy) → among entries f.kind its otherwise ≡ its (clause_entry f of))
    → body_length policy_forms f.kind ≡ sum f.widths
    → ((k : Latest) (bs : List ℕ) (at : ℕ) → finding at (clause_checks (of (values_at f bs at))) ≡ finding at (faults_of f.kind k bs at))
    → eqb f.kind 1 ≡ false → eqb f.kind 5 ≡ false → Agrees (clause_entry f of)
clause_agrees f of chosen long values no1 no5 = record {
  long = long;
  chosen = chosen;
  room = λ t at. rw (no1, no5) (clause_room t at);
  values = λ {policy} {k} t bs at. values k bs at;
  after = λ t h bs at. rw (no1, no5) (tells_clause t (of (values_at f bs at)) h.0 h.1.0);
  counts = λ policy h v. records_clause (of v) _ policy h.0 h.1.0;
}

zero_agrees : Agrees zero_entry
unfolding among either
zero_agrees = record {
  long = refl;
  chosen = λ its otherwise. refl;
  room = λ t at. zero_room t at;
  values = λ t bs at. refl;
  after = λ t h bs at. tells_zero t h.0;
  counts = λ policy h v. records_zero policy h.0 h.1.0;
}

pub session_listed : Listed 1 6
session_listed = listed session_entry session_agrees

pub exact_listed : Listed 2 10
unfolding among either
exact_listed = listed (clause_entry exact_form exact_clause) (clause_agrees exact_form exact_clause (λ its otherwise. refl) refl (λ k bs at. refl) refl refl)

pub direct_listed : Listed 3 9
unfolding among either
direct_listed = listed (clause_entry direct_form direct_clause) (clause_agrees direct_form direct_clause (λ its otherwise. refl) refl (λ k bs at. refl) refl refl)

pub any_listed : Listed 4 5
unfolding among either
any_listed = listed (clause_entry any_form any_clause) (clause_agrees any_form any_clause (λ its otherwise. refl) refl (λ k bs at. refl) refl refl)

pub zero_listed : Listed 5 1
zero_listed = listed zero_entry zero_agrees

-- ---- one more record

-- what reading does with a record of an entry, and with an end record behind so many
abbrev with_entry : List ℕ → ℕ → Policy → Entry → AnswerOf Policy
with_entry bs at policy i =
    unless (entry_record i policy (drop at bs)) at λ _.
    records_from (i.after policy (values_at i.form bs at)) (at + size i.form) (drop (at + size i.form) bs)

abbrev with_end : List ℕ → ℕ → Policy → ℕ → AnswerOf Policy
with_end bs at policy n = unless (end_record policy_forms n (drop at bs)) at λ _. tail policy (at + 5) (drop (at + 5) bs)

reads_one : {bs : List ℕ} {c : Cursor} {kind : ℕ} (reads : Reads bs c) → get_or bs c.at 0 ≡ kind
    → reading bs ≡ among entries kind (with_entry bs c.at reads.policy) (λ _. with_end bs c.at reads.policy c.records)
reads_one {bs} {c} {kind} reads is =
    reads.same ∙ records_one bs c.at reads.policy
    ∙ ap₂ (λ (k n : ℕ). among entries k (with_entry bs c.at reads.policy) (λ _. with_end bs c.at reads.policy n)) is (sym reads.count)

-- ---- behind a record of an entry

-- what its opening must pass
abbrev opening_of : List ℕ → ℕ → ℕ → Latest → List Check
opening_of bs at kind k = opening_checks policy_forms bs at kind (astray_of kind k) (full_of kind k)

module _ {bs : List ℕ} {c : Cursor} {k : Latest} (known : Known bs c k) (i : Entry) (a : Agrees i) (is : get_or bs c.at 0 ≡ i.form.kind) where
  abbrev at : ℕ
  at = c.at

  abbrev policy : Policy
  policy = known.reads.policy

  abbrev kind : ℕ
  kind = i.form.kind

  abbrev stop : Refused → AnswerOf Policy
  stop e = refused e.refusal e.place

  abbrev on : Unit {0} → AnswerOf Policy
  on _ = records_from (i.after policy (values_at i.form bs at)) (at + size i.form) (drop (at + size i.form) bs)

  abbrev opened_as : Result (Unit {0}) Refused
  opened_as = finding at (opening_of bs at kind k)

  abbrev valued_as : Result (Unit {0}) Refused
  valued_as = finding at (faults_of kind k bs at)

  room_same : (go : Unit {0} → AnswerOf Policy) → judged (i.room policy) (λ r. refused r at) go ≡ judged (extra_checks (astray_of kind k) (full_of kind k)) (λ r. refused r at) go
  room_same go =
      judged_finding at (i.room policy) stop go ∙ ap (on_finding stop go) (a.room known.tells at)
      ∙ sym (judged_finding at (extra_checks (astray_of kind k) (full_of kind k)) stop go)

  entry_found : reading bs ≡ on_finding stop (λ _. on_finding stop on valued_as) opened_as
  unfolding entry_record
  entry_found =
      reads_one known.reads is ∙ a.chosen (with_entry bs at policy) (λ _. with_end bs at policy c.records)
      ∙ record_found policy_forms bs at (only i.form) (i.room policy) (astray_of kind k) (full_of kind k) (i.checks policy) stop on a.long room_same
      ∙ ap (λ (x : Result (Unit {0}) Refused). on_finding stop (λ _. on_finding stop on x) opened_as)
      (ap (λ (b : Bool). cond b (finding at (i.checks policy (values_at i.form bs at))) (Err (refused_at at Field))) (eq-eqb kind kind refl) ∙ a.values known.tells bs at)

  opening_stops : {e : Refused} → Err e ≡ opened_as → reading bs ≡ refused e.refusal e.place
  opening_stops e = entry_found ∙ sym (ap (on_finding stop (λ _. on_finding stop on valued_as)) e)

  module _ (clear : Ok tt ≡ opened_as) where
    values_found : {x : Result (Unit {0}) Refused} → x ≡ valued_as → reading bs ≡ on_finding stop on x
    values_found e = entry_found ∙ sym (ap (on_finding stop (λ _. on_finding stop on valued_as)) clear) ∙ sym (ap (on_finding stop on) e)

    room_holds : Holds (i.room policy)
    room_holds =
        let h : Holds (opening_of bs at kind k) = finding_holds at (opening_of bs at kind k) clear in
        finding_holds at (i.room policy)
        (holds_finding at (extra_checks (astray_of kind k) (full_of kind k)) (h.1.1.1.0, (h.1.1.1.1.0, tt)) ∙ sym (a.room known.tells at))

    goes_on : Ok tt ≡ valued_as → Entered bs c (Ok (behind c (size i.form), next_of kind k bs at))
    goes_on e =
        let whole : at + sum i.form.widths < length bs = subst (λ (n : ℕ). at + n < length bs) a.long (opened policy_forms bs at kind (astray_of kind k) (full_of kind k) clear) in
        let more : records_in (i.after policy (values_at i.form bs at)) ≡ suc (records_in policy) = a.counts policy room_holds (values_at i.form bs at) in
        let count : c.records ≡ records_in policy = known.reads.count in
        let low : c.records ≤ c.at = known.reads.low in (
          record {
            reads = record { policy = i.after policy (values_at i.form bs at); same = values_found e; count = omega arith; low = omega arith };
            tells = a.after known.tells room_holds bs at;
          },
          omega arith,
          omega arith,
        )

module _ {bs : List ℕ} {c : Cursor} {k : Latest} where
  -- the record stops at its opening, or at its values, or the pass goes on
  pub entry_opening : {kind bytes : ℕ} {e : Refused} → Known bs c k → Listed kind bytes → get_or bs c.at 0 ≡ kind → Err e ≡ finding c.at (opening_of bs c.at kind k)
      → refuses e.refusal e.place ≡ said_of (reading bs)
  entry_opening known (listed i a) is e = ap said_of (sym (opening_stops known i a is e))

  pub entry_values : {kind bytes : ℕ} {e : Refused} → Known bs c k → Listed kind bytes → get_or bs c.at 0 ≡ kind → Ok tt ≡ finding c.at (opening_of bs c.at kind k)
      → Err e ≡ finding c.at (faults_of kind k bs c.at) → refuses e.refusal e.place ≡ said_of (reading bs)
  entry_values known (listed i a) is clear e = ap said_of (sym (values_found known i a is clear e))

  pub entry_next : {kind bytes : ℕ} → Known bs c k → Listed kind bytes → get_or bs c.at 0 ≡ kind → Ok tt ≡ finding c.at (opening_of bs c.at kind k)
      → Ok tt ≡ finding c.at (faults_of kind k bs c.at) → Entered bs c (Ok (behind c bytes, next_of kind k bs c.at))
  entry_next known (listed i a) is clear e = goes_on known i a is clear e

-- the bytes of a record: its kind's one and its body
pub listed_bytes : {kind bytes : ℕ} → Listed kind bytes → bytes ≡ suc (body_length policy_forms kind)
listed_bytes (listed i a) = ap suc (sym a.long)

-- ---- at the end

judged_through : {A B : Type 0} (f : A → B) (checks : List Check) (stop : Refusal → A) (go : Unit {0} → A) → f (judged checks stop go) ≡ judged checks (λ r. f (stop r)) (λ u. f (go u))
unfolding judged
judged_through f [] stop go = refl
judged_through f ((true else r) ∷ checks) stop go = judged_through f checks stop go
judged_through f ((false else r) ∷ checks) stop go = refl

tail_said : (bs : List ℕ) (at : ℕ) (policy : Policy) → said_of (tail policy at (drop at bs)) ≡ ending bs at
tail_said bs at policy = go (dec_le (suc at) (length bs))
  where
    go : Dec (at < length bs) → said_of (tail policy at (drop at bs)) ≡ ending bs at
    go (yes h) = ap (λ (l : List ℕ). said_of (tail policy at l)) (drop-cons bs at 0 h) ∙ sym (ap (λ (b : Bool). cond b (refuses Tail at) (gives [])) (lt-ltb at (length bs) h))
    go (no h) = ap (λ (l : List ℕ). said_of (tail policy at l)) (drop_of_length-le bs {i = at} (omega arith)) ∙ sym (ap (λ (b : Bool). cond b (refuses Tail at) (gives [])) (le-ltb at (length bs) (omega arith)))

among_none : {A : Type 0} (kind : ℕ) (its : Entry → A) (otherwise : Unit {0} → A) → Other kind → among entries kind its otherwise ≡ otherwise tt
unfolding among either
among_none kind its otherwise o = simp (ne_eqb kind 1 o.no1, ne_eqb kind 2 o.no2, ne_eqb kind 3 o.no3, ne_eqb kind 4 o.no4, ne_eqb kind 5 o.no5)

-- by the body that the policy's table gives for the kind that stands there
pub end_said_lem : {bs : List ℕ} {c : Cursor} {kind : ℕ} {body : Result ℕ Refusal} → Reads bs c → get_or bs c.at 0 ≡ kind → Other kind → body ≡ body_of policy_forms kind
    → judged_at c.at (end_by body c.records bs c.at) (ending bs (c.at + 5)) ≡ said_of (reading bs)
end_said_lem {bs} {c} {kind} {body} reads is o given =
    let at : ℕ = c.at in
    let checks : List Check = end_record policy_forms c.records (drop at bs) in
    end_table_found bs at (ending bs (at + 5)) policy_forms body c.records refl (given ∙ ap (body_of policy_forms) (sym is))
    ∙ ap (judged_at at checks) (sym (tail_said bs (at + 5) reads.policy))
    ∙ sym (judged_through said_of checks (λ r. refused r at) (λ _. tail reads.policy (at + 5) (drop (at + 5) bs)))
    ∙ sym (ap said_of (reads_one reads is ∙ among_none kind (with_entry bs at reads.policy) (λ _. with_end bs at reads.policy c.records) o))

-- ---- at the start

pub known_start : (bs : List ℕ) → Known bs begin unread
known_start bs = record {
  reads = record { policy = []; same = refl; count = refl; low = omega arith };
  tells = record { sessions = refl; router = refl; peer = refl; bare = refl; clauses = refl; few = omega arith; short = omega arith };
}
