-- What is accepted stands in the tables; and bytes are refused in one way only.
use Rattle.std.specs.Prelude.{ℕ, ◌≡◌, false, List, T, Result, Ok}
use Rattle.std.proofs.Common.{sym, ap, ◌∙◌, subst, subst₂}
use Rattle.std.proofs.Math.Pow.{are_bytes}
use Rattle.refusal.specs.declared.Refusal.{Refusal}
use Rattle.refusal.specs.declared.Refused.{Refused}
use Rattle.refusal.specs.declared.Refusal.TheVariants as refusal
use Rattle.refusal.proofs.NumbersLaws.{gives_refuses}
use Rattle.model.proofs.RowLaws.{by}
use Rattle.snapshot.specs.declared.Counts.{Counts}
use Rattle.snapshot.specs.Ranges.{any_of}
use Rattle.snapshot.proofs.RangesLaws.{none_any}
use Rattle.snapshot.specs.Reading.{Answer, accepted, refused, reading}
use Rattle.snapshot.proofs.Theorems.{accepts}
use Rattle.snapshot.specs.Tables.{Tables, short, Held, Room}
use Rattle.snapshot.proofs.TablesLaws.{has_room}
use Rattle.tables.specs.Judging.{Holding}
use Rattle.tables.specs.FilledLaws.{filled_held, filled_room}
use Rattle.scan.specs.Scan.{said}
use Rattle.reader.specs.Read.{read_answer, read_tables}
use Rattle.reader.specs.ReadLaws.{no_room, was_accepted, tables_left}

-- tables that hold the snapshot that was read from the bytes
pub record Taken (bs : List ℕ) (c : Counts) (u : Tables) : Type 0 where
  pub room : Room u
  pub holding : Holding c u
  pub is_read : reading bs ≡ accepted holding.snapshot

module _ (bs : List ℕ) (t : Tables) where
  -- accepted only where each table has room
  room_accepted : {r : Result Counts Refused} {c : Counts} → r ≡ Ok c → said r ≡ read_answer bs t → any_of (short t) ≡ false
  room_accepted told e =
      by (any_of (short t)) (λ short. absurd (gives_refuses refusal.Room 0 _ (sym (ap said told) ∙ e ∙ sym (no_room bs t short).0))) (λ enough. enough)

  pub taken : {r : Result Counts Refused} {c : Counts} {u : Tables} → T (are_bytes bs) → r ≡ Ok c → said r ≡ read_answer bs t → u ≡ read_tables bs t → Taken bs c u
  taken bytes told e f =
      let enough = room_accepted told e in
      let (s, is, counts) = was_accepted bs t enough told e in
      let valid = ((accepts bs s bytes).0 is).1 in
      let roomy = has_room t (none_any (short t) enough) in
      let left = f ∙ tables_left bs t enough is in
      record {
        room = subst Room (sym left) (filled_room s roomy);
        holding = record {
          snapshot = s;
          valid = valid;
          held = subst₂ (λ (x : Counts) (y : Tables). Held x y s) (sym counts) (sym left) (filled_held valid roomy);
        };
        is_read = is;
      }

-- an answer that is two refusals is one, with one place
pub one_refused : {a : Answer} {r q : Refusal} {at place : ℕ} → a ≡ refused r at → a ≡ refused q place → (r ≡ q) × (at ≡ place)
one_refused {r = r} {q = q} {at = at} {place = place} e f =
    let same : refused r at ≡ refused q place = sym e ∙ f in
    (let i : r ≡ q = cc in i, let j : at ≡ place = cc in j)
