-- What is proved of the snapshot, in one place: each theorem under the sentences of document 01 that it makes true.
use Rattle.std.specs.Prelude.{ℕ, suc, ◌≤◌, ◌≡◌, ◌↔◌, List, map, length, take, T}
use Rattle.std.proofs.Common.{sym, ap, ◌∙◌}
use Rattle.std.proofs.Math.Pow.{are_bytes}
use Rattle.snapshot.specs.Limits.{longest}
use Rattle.snapshot.specs.Format.{Snapshot, Valid, encode}
use Rattle.snapshot.specs.Reading.{accepted, reading}
use Rattle.snapshot.proofs.AcceptsLaws.{reading_sound}
use Rattle.snapshot.proofs.ReturnsLaws.{reading_back}
use Rattle.snapshot.proofs.WrittenLaws as written
use Rattle.snapshot.specs.Longest.{full_snapshot}
use Rattle.snapshot.proofs.LongestLaws.{full_valid, full_long}
use Rattle.snapshot.proofs.BorderLaws.{reading_take}
use Rattle.snapshot.proofs.Examples as examples

-- "Order: one kind 1; n of kind 2 by index from 0; .. one kind 6; then nothing. Prefixes rise strictly .. Ranges: .. At most .."
-- Reading accepts exactly the bytes of valid snapshots, each as the snapshot whose bytes they are.
pub accepts : (bs : List ℕ) (s : Snapshot) → T (are_bytes bs) → (reading bs ≡ accepted s) ↔ ((bs ≡ encode s) × Valid s)
accepts bs s bytes = (reading_sound bs s bytes, λ h. ap reading h.0 ∙ reading_back s h.1)

-- "The build reads a snapshot, writes one back": what is written is read back, and what is read is written back.
pub written_read : (s : Snapshot) → Valid s → reading (encode s) ≡ accepted s
written_read = reading_back

pub read_written : (bs : List ℕ) (s : Snapshot) → T (are_bytes bs) → reading bs ≡ accepted s → encode s ≡ bs
read_written bs s bytes e = sym (reading_sound bs s bytes e).0

-- "one byte of kind, then a body whose length the kind fixes": the bytes tell the snapshot, and they are bytes.
pub tells : (s t : Snapshot) → Valid s → Valid t → encode s ≡ encode t → s ≡ t
tells = written.encode_injective

pub bytes : (s : Snapshot) → T (are_bytes (encode s))
bytes = written.encode_bytes

-- "The longest snapshot is therefore 55,623 bytes": none is longer,
pub none_longer : (s : Snapshot) → Valid s → length (encode s) ≤ longest
none_longer = written.encode_short

-- and one has that length.
pub one_as_long : Valid full_snapshot × (length (encode full_snapshot) ≡ longest)
one_as_long = (full_valid, full_long)

-- "and the first 55,624 bytes of an input decide its answer"
pub first_bytes_decide : (bs : List ℕ) → reading bs ≡ reading (take (suc longest) bs)
first_bytes_decide = reading_take

-- "P5's input has 169 bytes; its end record says 15", and a damaged input for each refusal of reading but FULL.
pub examples_read : map (λ c. reading c.input) examples.table ≡ map (λ c. c.answer) examples.table
examples_read = examples.table_read
