-- What is accepted is written in the tables.
use Rattle.std.specs.Prelude.{ℕ, ◌≡◌, List, T, Result, Ok}
use Rattle.std.proofs.Math.Pow.{are_bytes}
use Rattle.refusal.specs.declared.Refused.{Refused}
use Rattle.snapshot.specs.declared.Counts.{Counts}
use Rattle.snapshot.proofs.Theorems.{accepts}
use Rattle.snapshot.specs.Tables.{Tables}
use Rattle.snapshot.proofs.TablesLaws.{room_enough}
use Rattle.scan.specs.Scan.{said}
use Rattle.reader.specs.Read.{read_answer, read_tables}
use Rattle.reader.specs.TakenLaws.{taken}
use Rattle.roundtrip.specs.Trips.{Written}

pub was_written : (bs : List ℕ) (t : Tables) {r : Result Counts Refused} {c : Counts} {u : Tables} → T (are_bytes bs) → r ≡ Ok c → said r ≡ read_answer bs t
    → u ≡ read_tables bs t → Written bs c u
was_written bs t {u = u} bytes told e f =
    let g = taken bs t bytes told e f in
    let s = g.holding.snapshot in
    record {
      room = room_enough u g.room;
      snapshot = s;
      valid = g.holding.valid;
      held = g.holding.held;
      bytes = ((accepts bs s bytes).0 g.is_read).0;
    }
