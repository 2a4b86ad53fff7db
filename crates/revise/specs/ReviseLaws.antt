-- The ways out of revising, each with what it answers and leaves.
use Rattle.std.specs.Prelude.{ℕ, ◌≤◌, ◌<◌, ◌≡◌, refl, Bool, false, List, [], length, T, Result, Ok, Err}
use Rattle.std.specs.Result.{MatchResult, IsErrAnd}
use Rattle.std.proofs.Common.{arith, ap, ◌∙◌, subst, subst₂}
use Rattle.std.proofs.Math.Path.{sym}
use Rattle.std.proofs.Math.Bool.{cond}
use Rattle.std.proofs.lemmas.List.Edits.{sets}
use Rattle.std.proofs.Math.Pow.{are_bytes}
use borrow.Author.Tests.{lt-ltb, le-ltb}
use Rattle.refusal.specs.declared.Refused.{Refused}
use Rattle.refusal.specs.declared.Refusal.TheVariants as refusal
use Rattle.refusal.specs.Numbers.{Said, gives}
use Rattle.snapshot.specs.declared.Counts.{Counts}
use Rattle.snapshot.specs.Ranges.{any_of}
use Rattle.snapshot.specs.Format.{Snapshot, encode}
use Rattle.snapshot.specs.Reading.{Answer, AnswerOf, accepted, reading}
use Rattle.snapshot.proofs.Theorems as snapshots
use Rattle.snapshot.specs.Tables.{Tables, short, filled}
use Rattle.snapshot.proofs.TablesLaws.{room_enough}
use Rattle.tables.specs.FilledLaws.{filled_room}
use Rattle.scan.specs.Scan as scan
use Rattle.reader.specs.Read.{read_answer, read_tables}
use Rattle.reader.specs.ReadLaws.{was_refused}
use Rattle.reader.specs.TakenLaws.{Taken, taken}
use Rattle.writer.specs.Writing as writing
use Rattle.writer.specs.Writing.{Writes}
use Rattle.writer.specs.Theorems.{writes_one}
use Rattle.policy.specs.Policy.{Policy}
use Rattle.policy.specs.Policy as rules
use Rattle.policy.specs.Reading as policies
use Rattle.policy.specs.Rewriting.{rewritten}
use Rattle.policy.proofs.Theorems as theorems
use Rattle.apply.specs.Applying as applying
use Rattle.apply.specs.Applying.{Applies, left}
use Rattle.apply.specs.Theorems.{same}
use Rattle.sessions.specs.Sessions.{said_of}
use Rattle.sessions.specs.Theorems.{read_accepted, read_refused}
use Rattle.revise.specs.Revising.{of_snapshot, of_policy, refuses, answer_to, left_by, revised_answer, revised_out, Revises}
use Rattle.revise.specs.declared.RevisionError.{RevisionError}

-- ---- what is blamed

-- a refusal handed on as that of one of the two
pub record Blamed {A : Type 0} (blame : Refused → RevisionError) (r : Result A Refused) (w : Result A RevisionError) : Type 0 where
  pub same : MatchResult r (λ x. w ≡ Ok x) (λ e. IsErrAnd w (λ q. q ≡ blame e))

module _ {A : Type 0} {blame : Refused → RevisionError} {w : Result A RevisionError} where
  pub blamed_err : {r : Result A Refused} {q : RevisionError} → Blamed blame r w → w ≡ Err q → (e : Refused) × (r ≡ Err e) × (q ≡ blame e)
  blamed_err {r} {q} b is = go r b.same
    where
      go : (r : Result A Refused) → MatchResult r (λ x. w ≡ Ok x) (λ e. IsErrAnd w (λ q. q ≡ blame e)) → (e : Refused) × (r ≡ Err e) × (q ≡ blame e)
      go (Ok x) h = absurd cc
      go (Err e) h = (e, refl, rw is at h)

  pub blamed_ok : {r : Result A Refused} {x : A} → Blamed blame r w → w ≡ Ok x → r ≡ Ok x
  blamed_ok {r} {x} b is = go r b.same
    where
      go : (r : Result A Refused) → MatchResult r (λ x. w ≡ Ok x) (λ e. IsErrAnd w (λ q. q ≡ blame e)) → r ≡ Ok x
      go (Ok y) h = cc
      go (Err e) h = absurd (rw is at h)

-- ---- the output

module _ (bs ps out : List ℕ) where
  -- shorter than the snapshot given
  pub revises_short : length out < length bs → (refuses of_snapshot refusal.Room 0 ≡ revised_answer bs ps out) × (out ≡ revised_out bs ps out)
  unfolding revised_answer revised_out
  revises_short l =
      let e = lt-ltb (length out) (length bs) l in (
        sym (ap (λ (b : Bool). cond b (refuses of_snapshot refusal.Room 0) (answer_to (reading bs) (policies.reading ps))) e),
        sym (ap (λ (b : Bool). cond b out (left_by (reading bs) (policies.reading ps) out)) e),
      )

  -- long enough
  pub revises_long : length bs ≤ length out → {answered : Said} {after : List ℕ} → Revises (reading bs) (policies.reading ps) out answered after
      → (answered ≡ revised_answer bs ps out) × (after ≡ revised_out bs ps out)
  unfolding revised_answer revised_out
  revises_long l r =
      let e = le-ltb (length out) (length bs) l in (
        r.0 ∙ sym (ap (λ (b : Bool). cond b (refuses of_snapshot refusal.Room 0) (answer_to (reading bs) (policies.reading ps))) e),
        r.1 ∙ sym (ap (λ (b : Bool). cond b out (left_by (reading bs) (policies.reading ps) out)) e),
      )

-- ---- the ways out, where the output is long enough

-- the answer and the output afterwards
abbrev pub Ends : List ℕ → List ℕ → List ℕ → Said → List ℕ → Type 0
Ends bs ps out answered after = (answered ≡ revised_answer bs ps out) × (after ≡ revised_out bs ps out)

module _ (bs ps out : List ℕ) (t : Tables) (fits : length bs ≤ length out) where
  -- the snapshot is refused
  pub ends_unread : any_of (short t) ≡ false → {r : Result Counts Refused} {e : Refused} → r ≡ Err e → scan.said r ≡ read_answer bs t
      → Ends bs ps out (refuses of_snapshot e.refusal e.place) out
  ends_unread room is answer =
      let e = was_refused bs t room is answer in
      revises_long bs ps out fits (sym (ap (λ (a : Answer). answer_to a (policies.reading ps)) e), sym (ap (λ (a : Answer). left_by a (policies.reading ps) out) e))

  module _ (bytes : T (are_bytes bs)) {counts : Counts} {u v : Tables} {r : Result Counts Refused} (is : r ≡ Ok counts) (answer : scan.said r ≡ read_answer bs t) (left_in : u ≡ read_tables bs t)
      (a : Result (Unit {0}) Refused) {lent : Tables} (handed : lent ≡ u) (applies : Applies counts lent ps (applying.said a) v) where
    abbrev g : Taken bs counts u
    g = taken bs t bytes is answer left_in

    abbrev s : Snapshot
    s = g.holding.snapshot

    -- it is read, and the policy's answer is that of reading it
    read_so : (applying.said a ≡ said_of (policies.reading ps)) × (v ≡ left (policies.reading ps) s u)
    read_so = same (subst (λ (x : Tables). Applies counts x ps (applying.said a) v) handed applies) (applying.read (room_enough u g.room) s g.holding.valid g.holding.held)

    ends_read : {p : AnswerOf Policy} → policies.reading ps ≡ p → {answered : Said} {after : List ℕ} → Revises (accepted s) p out answered after → Ends bs ps out answered after
    ends_read e {answered} {after} h =
        revises_long bs ps out fits (subst₂ (λ (b : Answer) (p : AnswerOf Policy). Revises b p out answered after) (sym g.is_read) (sym e) h)

    -- the policy is refused
    pub ends_refused : {e : Refused} → a ≡ Err e → Ends bs ps out (refuses of_policy e.refusal e.place) out
    ends_refused {e} told = ends_read (read_refused (policies.reading ps) e.refusal e.place (sym (ap applying.said told) ∙ read_so.0)) (refl, refl)

    -- the snapshot is rewritten: it is written
    pub ends_written : T (are_bytes ps) → {x : Unit {0}} → a ≡ Ok x → {w : Result ℕ Refused} {shown : Tables} {after : List ℕ} → shown ≡ v → Writes counts shown out (writing.said w) after
        → ((n : ℕ) × (w ≡ Ok n)) × Ends bs ps out (gives []) after
    ends_written rules_bytes told {w} {shown} {after} same writes =
        let (policy, e) = read_accepted (policies.reading ps) (sym (ap applying.said told) ∙ read_so.0) in
        let good : rules.Valid policy = ((theorems.accepts ps policy rules_bytes).0 e).1 in
        let made : Snapshot = rewritten policy s in
        let valid = g.holding.valid in
        let is_left : shown ≡ filled made u = same ∙ read_so.1 ∙ ap (λ (p : AnswerOf Policy). left p s u) e in
        let long = theorems.as_long policy s valid.square in
        let given = ap length ((snapshots.accepts bs s bytes).0 g.is_read).0 in
        let again : Writes counts (filled made u) out (writing.wrote (length (encode made))) (sets out 0 (encode made)) =
        writing.done (room_enough (filled made u) (filled_room made g.room)) made (theorems.still_valid policy s good valid) (theorems.then_held policy s good valid g.holding.held g.room) (omega arith) in
        let (f, h) = writes_one {b = Ok (length (encode made))} (subst (λ (x : Tables). Writes counts x out (writing.said w) after) is_left writes) again in (
          (length (encode made), f),
          ends_read e (refl, h),
        )
