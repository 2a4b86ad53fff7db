-- What a round trip leaves the same: the bytes of a snapshot, and the used rows of tables.
use Rattle.std.specs.Prelude.{ℕ, ◌≡◌, List, T}
use Rattle.snapshot.specs.declared.Counts.{Counts}
use Rattle.snapshot.specs.Ranges.{none}
use Rattle.snapshot.specs.Format.{Snapshot, encode, Valid}
use Rattle.snapshot.specs.Tables.{Tables, short, Held}

-- these are the bytes of the snapshot that counts and tables hold
pub record Written (bs : List ℕ) (counts : Counts) (t : Tables) : Type 0 where
  pub room : T (none (short t))
  pub snapshot : Snapshot
  pub valid : Valid snapshot
  pub held : Held counts t snapshot
  pub bytes : bs ≡ encode snapshot

-- two sets of tables have the same used rows: there is one snapshot that both hold, so that to fill it in would change neither
pub record SameRows (counts : Counts) (t u : Tables) : Type 0 where
  pub snapshot : Snapshot
  pub first : Held counts t snapshot
  pub second : Held counts u snapshot
