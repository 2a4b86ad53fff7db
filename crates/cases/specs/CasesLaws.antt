-- What is read is written as the same bytes again: of the calls that the program makes.
use Rattle.std.specs.Prelude.{ℕ, ◌≤◌, ◌≡◌, refl, Bool, true, false, cond, List, [], ◌∷◌, length, take, T, ltb, replicate, Result, Ok, Err}
use Rattle.std.proofs.Common.{arith, sym, ap, ◌∙◌, length-take-le}
use Rattle.std.proofs.lemmas.Bool.{false≢true}
use Rattle.std.proofs.Math.Pow.{are_bytes}
use Rattle.std.proofs.lemmas.List.Edits.{sets}
use Rattle.refusal.specs.declared.Refused.{Refused}
use Rattle.model.proofs.RowLaws.{by}
use Rattle.snapshot.specs.declared.Counts.{Counts}
use Rattle.snapshot.specs.Limits.{most_routes}
use Rattle.snapshot.specs.Ranges.{any_of}
use Rattle.snapshot.specs.Format.{encode}
use Rattle.snapshot.specs.Reading.{reading}
use Rattle.snapshot.specs.Tables.{Tables, short}
use Rattle.scan.specs.Scan.{said as read_said, told}
use Rattle.reader.specs.Read.{read_answer, read_tables}
use Rattle.reader.specs.ReadLaws.{no_room_at, answer_told}
use Rattle.tables.specs.Judging.{Decides}
use Rattle.snapshot.proofs.TablesLaws.{has_room}
use Rattle.tables.specs.Theorems.{held_one}
use Rattle.writer.specs.Writing.{Writes, said, done}
use Rattle.writer.specs.AnswerLaws.{written_back}
use Rattle.writer.specs.Theorems.{writes_one}
use Rattle.roundtrip.specs.Trips.{Written}
use Rattle.roundtrip.specs.TripLaws.{was_written}
use Rattle.cases.specs.Cases.{finding, found, room_for}

-- ---- written and compared

module _ {before after : List ℕ} {counts : Counts} {t : Tables} {answer : Result ℕ Refused} where
  pub within : {n : ℕ} → answer ≡ Ok n → Writes counts t before (said answer) after → n ≤ length before
  within {n} e w = let (_, _, _, _, _, fits) = written_back n w (ap said e) in fits

  -- so many bytes were written: they decide whether the tables hold these bytes
  pub compared : {bs : List ℕ} {n : ℕ} {same : Bool} → answer ≡ Ok n
      → Writes counts t before (said answer) after
      → (same ≡ true → take n after ≡ bs) × (take n after ≡ bs → same ≡ true) → Decides (Written bs counts t) same
  compared {n} e w same =
      let (s, enough, valid, held, is, _) = written_back n w (ap said e) in
      record {
        yes = λ e. record { room = enough; snapshot = s; valid = valid; held = held; bytes = sym (same.0 e) ∙ is };
        no = λ e h. false≢true (sym e ∙ same.1 (is ∙ ap encode (held_one (has_room t enough) valid held h.valid h.held) ∙ sym h.bytes));
      }

  -- a refusal where there is room for the bytes: the tables do not hold them
  pub not_written : {bs : List ℕ} {r : Refused} → answer ≡ Err r → length bs ≤ length before
      → Writes counts t before (said answer) after
      → Decides (Written bs counts t) false
  not_written e fits w = record {
    yes = λ e. absurd (false≢true e);
    no = λ _ h.
        let long = ap length h.bytes in
        let again : Writes counts t before (said (Ok (length (encode h.snapshot)))) (sets before 0 (encode h.snapshot)) =
        done h.room h.snapshot h.valid h.held (omega arith) in
        let f : answer ≡ Ok (length (encode h.snapshot)) = (writes_one w again).0 in
        cc;
  }

-- ---- read, and then written and compared

module _ (bs : List ℕ) (t : Tables) where
  found_as : (answer : Result Counts Refused) → read_said answer ≡ read_answer bs t → finding answer ≡ found bs t
  found_as answer a = ap finding (answer_told bs t {r = answer} a) ∙ chosen (any_of (short t))
    where
      chosen : (b : Bool) → finding (cond b (Err no_room_at) (told (reading bs))) ≡ cond b (Err no_room_at) (finding (told (reading bs)))
      chosen true = refl
      chosen false = refl

  pub found_refused : {answer : Result Counts Refused} {e : Refused} → answer ≡ Err e → read_said answer ≡ read_answer bs t → Err e ≡ found bs t
  found_refused {answer} is a = ap finding (sym is) ∙ found_as answer a

  -- what is accepted is found to be the same
  pub found_same : {answer : Result Counts Refused} {c : Counts} {u : Tables} {same : Bool} → T (are_bytes bs) → answer ≡ Ok c
      → (read_said answer ≡ read_answer bs t) × (u ≡ read_tables bs t) → Decides (Written bs c u) same → Ok (c, same) ≡ found bs t
  found_same {answer} {c} {u} {same} bytes is (a, f) d =
      ap (λ (b : Bool). Ok (c, b)) (by same (λ yes. yes) (λ no. absurd (d.no no (was_written bs t bytes is a f)))) ∙ ap finding (sym is) ∙ found_as answer a

-- ---- with tables of its own

-- ROOM exactly where there is no room for all peers
pub found_by_peers : (bs : List ℕ) (peers : ℕ) → peers ≤ most_routes
    → found bs (room_for peers) ≡ cond (ltb peers most_routes) (Err no_room_at) (finding (told (reading bs)))
found_by_peers bs peers few =
    ap (λ (b : Bool). cond b (Err no_room_at) (finding (told (reading bs))))
    (ap (λ (n : ℕ). any_of (ltb n most_routes ∷ [])) (length-take-le peers (replicate most_routes 0) few) ∙ last (ltb peers most_routes))
  where
    last : (b : Bool) → any_of (b ∷ []) ≡ b
    last true = refl
    last false = refl
