-- What reading a snapshot answers, and what it leaves in the lent tables.
use Rattle.std.specs.Prelude.{cond, List, ℕ}
use Rattle.refusal.specs.declared.Refusal.TheVariants.{Room}
use Rattle.refusal.specs.Numbers.{Said, refuses}
use Rattle.snapshot.specs.Ranges.{any_of}
use Rattle.snapshot.specs.Reading.{Answer, accepted, refused, reading}
use Rattle.snapshot.specs.Tables.{Tables, short, filled}
use Rattle.scan.specs.Scan.{said_of}

-- accepted, the used rows hold the snapshot and all other entries are as before; refused, all is as before
abbrev pub left : Answer → Tables → Tables
left (accepted s) t = filled s t
left (refused r at) t = t

-- the answer in numbers: ROOM first, where a table is shorter than its limit; then the snapshot's counts, or a refusal and its place
unfoldable pub read_answer : List ℕ → Tables → Said
read_answer bs t = cond (any_of (short t)) (refuses Room 0) (said_of (reading bs))

-- the tables afterwards
unfoldable pub read_tables : List ℕ → Tables → Tables
read_tables bs t = cond (any_of (short t)) t (left (reading bs) t)
