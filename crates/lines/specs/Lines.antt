-- The lines of the printed forecast. The words are written exactly, in lower case, one space apart, each line ended by byte 10.
use Rattle.std.specs.Prelude.{ℕ, ◌/◌, ◌%◌, Bool, cond, List, [], ◌++◌, eqb}
use Rattle.model.specs.Decision.{none}
use Rattle.text.specs.Text.{ascii, decimal}

-- no line has more bytes
abbrev pub widest : ℕ
widest = 80

-- line 1: routers, prefixes
abbrev pub heading_line : ℕ → ℕ → List ℕ
heading_line routers prefixes = (ascii "forecast " ++ decimal routers) ++ (ascii " " ++ decimal prefixes) ++ ascii "\n"

-- a word with the number and place of a refusal
abbrev pub refusal_line : List ℕ → ℕ → ℕ → List ℕ
refusal_line word number place = (word ++ decimal number) ++ (ascii " " ++ decimal place) ++ ascii "\n"

-- a refusal prints `refused` with number and place
abbrev pub refused_line : ℕ → ℕ → List ℕ
refused_line = refusal_line (ascii "refused ")

-- an address, byte by byte
abbrev pub dotted : ℕ → List ℕ
dotted a = (ascii "" ++ decimal (a / 16777216)) ++ (ascii "." ++ decimal (a / 65536 % 256)) ++ (ascii "." ++ decimal (a / 256 % 256)) ++ (ascii "." ++ decimal (a % 256))

-- `settled`, or `open` and the number of routers that differ
abbrev pub state : ℕ → List ℕ
state differing = cond (eqb differing 0) (ascii " settled") (ascii " open " ++ decimal differing)

-- a prefix's line: the prefix, then its state
abbrev pub prefix_line : ℕ → ℕ → ℕ → List ℕ
prefix_line address bits differing = ascii "prefix " ++ dotted address ++ (ascii "/" ++ decimal bits) ++ state differing ++ ascii "\n"

-- an entry: `own` and the row within the prefix, `via`, owning router and row, or `none`
abbrev pub entry : (ℕ → ℕ) → ℕ → ℕ → List ℕ
entry router r row =
    cond (eqb row none) (ascii " none")
    (cond (eqb (router row) r) (ascii " own " ++ decimal row)
    ((ascii " via " ++ decimal (router row)) ++ (ascii " " ++ decimal row)))

-- when open, `or` with the late entry
abbrev pub or_entry : Bool → (ℕ → ℕ) → ℕ → ℕ → List ℕ
or_entry is_open router r late = cond is_open (ascii " or" ++ entry router r late) []

-- a router's line: index, early entry, and when open the late one
abbrev pub router_line : Bool → (ℕ → ℕ) → ℕ → ℕ → ℕ → List ℕ
router_line is_open router r early late =
    (ascii "router " ++ decimal r) ++ entry router r early ++ or_entry is_open router r late ++ ascii "\n"
