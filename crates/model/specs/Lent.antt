-- Rows kept as a list in a slice that is lent to a function.
use Rattle.std.specs.Prelude.{ℕ, ◌≤◌, ◌<◌, ◌≡◌, List, length, take}
use Rattle.std.proofs.lemmas.List.Edits.{sets}
use Rattle.model.specs.Rows.{column, keep_least, keep_greatest}

-- every row of a list is a row of columns that are n long
pub record Inside (n : ℕ) (rows : List ℕ) : Type 0 where
  pub below : (i : ℕ) → i < length rows → column rows i < n

-- the first n of a list are these rows
pub record Front (n : ℕ) (list rows : List ℕ) : Type 0 where
  pub few : n ≤ length list
  pub are : take n list ≡ rows

-- these rows, n of them, are written over the front of a list; the entries behind them are as before
pub record Packed (n : ℕ) (before after rows : List ℕ) : Type 0 where
  pub many : n ≡ length rows
  pub room : length rows ≤ length before
  pub all : after ≡ sets before 0 rows

-- a list of rows after steps 1 and 2 in place: the rows that each leaves, written over its front in turn
abbrev pub after_two : (ℕ → ℕ) → (ℕ → ℕ) → List ℕ → List ℕ
after_two preference path rows =
    let kept = keep_greatest preference rows in
    sets (sets rows 0 kept) 0 (keep_least path kept)
