-- What is found of a file, and the line that says it.
use Rattle.std.specs.Prelude.{ℕ, Bool, true, cond, List, ◌++◌, take, Result, Ok, Err}
use Rattle.refusal.specs.declared.Refused.{Refused}
use Rattle.refusal.specs.Numbers.{number_of}
use Rattle.snapshot.specs.declared.Counts.{Counts}
use Rattle.snapshot.specs.Ranges.{any_of}
use Rattle.snapshot.specs.Reading.{reading}
use Rattle.snapshot.specs.Tables.{Tables, short}
use Rattle.snapshot.specs.Lent.{zeros}
use Rattle.scan.specs.Scan.{told}
use Rattle.reader.specs.ReadLaws.{no_room_at}
use Rattle.text.specs.Text.{ascii, decimal}
use Rattle.lines.specs.Lines.{refused_line}

-- what is found where reading gives this answer: whatever is accepted is written as the same bytes again
abbrev pub finding : Result Counts Refused → Result (Counts × Bool) Refused
finding (Ok c) = Ok (c, true)
finding (Err e) = Err e

-- what is found of bytes, read into these tables: ROOM first
abbrev pub found : List ℕ → Tables → Result (Counts × Bool) Refused
found bs t = cond (any_of (short t)) (Err no_room_at) (finding (told (reading bs)))

-- tables of zeros, with room for so many peers
abbrev pub room_for : ℕ → Tables
room_for peers = record zeros { rows = record zeros.rows { peer = take peers zeros.rows.peer } }

-- whether the bytes are the same
abbrev pub likeness : Bool → List ℕ
likeness same = cond same (ascii " same bytes\n") (ascii " other bytes\n")

-- what the line of a snapshot that was accepted says behind the name
abbrev pub accepted_line : Counts → Bool → List ℕ
accepted_line c same =
    ascii "accepted" ++ (ascii " " ++ decimal c.routers) ++ (ascii " " ++ decimal c.prefixes) ++ (ascii " " ++ decimal c.routes) ++ likeness same

-- what the line of a file says behind its name
abbrev pub finding_line : Result (Counts × Bool) Refused → List ℕ
finding_line (Ok f) = accepted_line f.0 f.1
finding_line (Err e) = refused_line (number_of e.refusal) e.place

-- no line has more bytes, its name included
abbrev pub widest_line : ℕ
widest_line = 128
