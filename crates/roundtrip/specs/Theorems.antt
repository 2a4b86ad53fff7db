-- The two round trips, stated of the promises of `read_snapshot` and `write_snapshot`: of whatever these answer and leave, as
-- long as each meets its promise.
use Rattle.std.specs.Prelude.{ℕ, ◌≤◌, ◌≡◌, Bool, false, cond, List, length, take, T, Result, Ok, Err}
use Rattle.std.proofs.Common.{arith, sym, ap, subst₂, ◌∙◌}
use Rattle.std.proofs.lemmas.List.Edits.{sets}
use Rattle.std.proofs.Math.Pow.{are_bytes}
use Rattle.snapshot.specs.declared.Counts.{Counts}
use Rattle.refusal.specs.declared.Refused.{Refused}
use Rattle.snapshot.specs.Ranges.{any_of}
use Rattle.snapshot.proofs.RangesLaws.{none_any}
use Rattle.snapshot.specs.Format.{encode}
use Rattle.snapshot.specs.Reading.{reading, accepted}
use Rattle.snapshot.specs.Tables.{Tables, short, Held}
use Rattle.snapshot.proofs.TablesLaws.{has_room}
use Rattle.snapshot.proofs.Theorems as snapshot
use Rattle.tables.specs.FilledLaws.{filled_held}
use Rattle.scan.specs.Scan.{said as read_said, told}
use Rattle.reader.specs.Read.{read_answer, read_tables}
use Rattle.reader.specs.ReadLaws.{no_room_at, answer_told, tables_left}
use Rattle.writer.specs.Writing.{said as write_said, Writes, done}
use Rattle.writer.specs.AnswerLaws.{written_back}
use Rattle.writer.specs.Theorems.{writes_one}
use Rattle.roundtrip.specs.Trips.{SameRows}
use Rattle.roundtrip.specs.TripLaws.{was_written}

-- "Read and written again gives the same bytes": bytes `bs` were read into the tables t, which then were u, and accepted with counts c;
-- writing c and u into an output that has room for them answers that so many bytes were written, and puts `bs` there.
pub read_then_written : (bs : List ℕ) (t u : Tables) (c : Counts) (r : Result Counts Refused) (w : Result ℕ Refused) {before after : List ℕ} → T (are_bytes bs)
    → (read_said r ≡ read_answer bs t) × (u ≡ read_tables bs t) → r ≡ Ok c
    → Writes c u before (write_said w) after → length bs ≤ length before
    → (w ≡ Ok (length bs)) × (after ≡ sets before 0 bs)
read_then_written bs t u c r w {before} bytes reads told writes fits =
    let h = was_written bs t bytes told reads.0 reads.1 in
    let long = ap length h.bytes in
    let again : Writes c u before (write_said (Ok (length (encode h.snapshot)))) (sets before 0 (encode h.snapshot)) =
    done h.room h.snapshot h.valid h.held (omega arith) in
    let (e, f) = writes_one writes again in
    (e ∙ ap Ok (sym long), f ∙ ap (sets before 0) (sym h.bytes))

-- "Written and read again the same used rows": counts c and tables t were written as n bytes; reading these into any tables u that have
-- room, which then are v, accepts them with counts c, and v has the same used rows as t.
pub written_then_read : (c : Counts) (t u v : Tables) (r : Result Counts Refused) (w : Result ℕ Refused) (n : ℕ) {before after : List ℕ}
    → Writes c t before (write_said w) after → w ≡ Ok n
    → any_of (short u) ≡ false → (read_said r ≡ read_answer (take n after) u) × (v ≡ read_tables (take n after) u)
    → (r ≡ Ok c) × SameRows c t v
written_then_read c t u v r w n {after = after} writes wrote room reads =
    let (s, enough, valid, held, is, _) = written_back n writes (ap write_said wrote) in
    let back : reading (take n after) ≡ accepted s = ap reading is ∙ snapshot.written_read s valid in
    let left = reads.1 ∙ tables_left (take n after) u room back in
    let has = has_room u (none_any (short u) room) in (
      answer_told (take n after) u {r = r} reads.0
          ∙ ap (λ (b : Bool). cond b (Err no_room_at) (told (reading (take n after)))) room
          ∙ ap told back
          ∙ ap Ok (sym held.0),
      record {
        snapshot = s;
        first = held;
        second = subst₂ (λ (x : Counts) (y : Tables). Held x y s) (sym held.0) (sym left) (filled_held valid has);
      },
    )
