-- Words and numbers as bytes, and what is left of a buffer into which they are put.
use Rattle.std.specs.Prelude.{ℕ, zero, suc, ◌+◌, ◌/◌, ◌%◌, ◌^◌, ◌≤◌, ◌≡◌, cond, List, [], ◌∷◌, ◌++◌, ltb, length}
use Prim.Native.Char.{code}
use Prim.Native.String as string
use Rattle.std.proofs.lemmas.List.Edits.{sets}
use Rattle.text.specs.declared.Sink.{Sink}

-- the bytes of a word
abbrev pub ascii : string.String → List ℕ
ascii string.[] = []
ascii (string.◌∷◌ c s) = code c ∷ ascii s

-- the last k decimal digits of n
abbrev pub digits : ℕ → ℕ → List ℕ
digits zero n = []
digits (suc k) n = (48 + n / 10 ^ k % 10) ∷ digits k n

-- the first number from k on so many digits of which hold n; looked for no longer than the count lasts
abbrev pub width_from : ℕ → ℕ → ℕ → ℕ
width_from zero k n = k
width_from (suc left) k n = cond (ltb n (10 ^ k)) k (width_from left (suc k) n)

-- how many digits n has: n of them would always do
abbrev pub width : ℕ → ℕ
width n = width_from n 1 n

-- a number in decimal, with no leading zeros
unfoldable pub decimal : ℕ → List ℕ
decimal n = digits (width n) n

-- one text after the other, for each number of a list
abbrev pub each : (ℕ → List ℕ) → List ℕ → List ℕ
each text [] = []
each text (r ∷ rs) = text r ++ each text rs

-- so many bytes more fit into the buffer that a sink holds
abbrev pub HasRoom : Sink → ℕ → Type 0
HasRoom sink most = sink.at + most ≤ length sink.out.now

-- a text was put into the buffer that a sink holds: the place is the one after it, and all other bytes are as before
pub record Puts (before after : Sink) (text : List ℕ) : Type 0 where
  pub same : after.out.ghost_name ≡ before.out.ghost_name
  pub long : length after.out.now ≡ length before.out.now
  pub place : after.at ≡ before.at + length text
  pub bytes : after.out.now ≡ sets before.out.now before.at text

-- and the place has gone on by at most so many bytes
pub record PutsAtMost (most : ℕ) (before after : Sink) (text : List ℕ) : Type 0 where
  pub puts : Puts before after text
  pub short : after.at ≤ before.at + most
