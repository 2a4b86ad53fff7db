-- What is proved of the policy, in one place: each theorem under the sentences of request a that it makes true.
use Rattle.std.specs.Prelude.{ℕ, suc, ◌-◌, ◌*◌, ◌≤◌, ◌<◌, ◌≡◌, refl, ◌↔◌, List, [], ◌∷◌, map, length, take, T}
use Rattle.std.proofs.Common.{ap, ◌∙◌, lit≤}
use Rattle.std.proofs.Math.Pow.{are_bytes}
use Rattle.model.specs.Decision.{Route}
use Rattle.model.specs.Stability.{Sound}
use Rattle.snapshot.specs.declared.Counts.{Counts}
use Rattle.snapshot.specs.Format.{Prefix, Snapshot}
use Rattle.snapshot.specs.Format as snapshots
use Rattle.snapshot.specs.Reading.{accepted}
use Rattle.snapshot.specs.Reading as snapshot_reading
use Rattle.snapshot.proofs.Theorems.{written_read}
use Rattle.snapshot.specs.Tables.{Tables, Room, filled, Held, all_routes, mesh}
use Rattle.tables.specs.Theorems.{sound}
use Rattle.policy.specs.Policy.{Policy, Valid, encode, longest}
use Rattle.policy.specs.Reading.{reading}
use Rattle.policy.proofs.AcceptsLaws.{reading_sound}
use Rattle.policy.proofs.ReturnsLaws.{reading_back}
use Rattle.policy.specs.Longest.{full_policy}
use Rattle.policy.proofs.LongestLaws as L
use Rattle.policy.proofs.BorderLaws.{reading_take}
use Rattle.policy.specs.Rewriting.{with, ruled, ruled_prefix, rewritten, with_rows, put_ruled}
use Rattle.policy.proofs.RewritingLaws as R
use Rattle.policy.specs.Passing.{unruled, passes}
use Rattle.policy.proofs.PassingLaws.{passes_ruled}
use Rattle.policy.proofs.Examples as examples

-- "kind 1 names a session ..; after it come its clauses, at most 32: kind 2 .. kind 6 ends the file with the record count. .. Sessions
-- rise by router, then peer address; at most 64."
-- Reading accepts exactly the bytes of valid policies, each as the policy whose bytes they are.
pub accepts : (bs : List ℕ) (policy : Policy) → T (are_bytes bs) → (reading bs ≡ accepted policy) ↔ ((bs ≡ encode policy) × Valid policy)
accepts bs policy bytes = (reading_sound bs policy bytes, λ h. ap reading h.0 ∙ reading_back policy h.1)

-- "Refusals: .. 2 to 6 and 8 to 10 in 01's order; a 65th session or 33rd clause is FULL; a second or late kind 5 is PLACE.": worked
-- policies, and damaged ones for each refusal.
pub examples_read : map (λ c. reading c.input) examples.table ≡ map (λ c. c.answer) examples.table
examples_read = examples.table_read

-- "clauses, at most 32 .. kind 5 .. may stand once .. Bodies have 5, 9, 8, 4, 0 and 4 bytes .. Sessions .. at most 64": so the longest
-- policy has 64 times a session, a kind 5 and 32 clauses of kind 2, and the end record: 64 * (6 + 1 + 32 * 10) + 5 bytes. None is longer,
pub none_longer : (policy : Policy) → Valid policy → length (encode policy) ≤ longest
none_longer = L.encode_short

-- and one has that length.
pub one_as_long : Valid full_policy × (length (encode full_policy) ≡ longest)
one_as_long = (L.full_valid, L.full_long)

-- So the first 20,934 bytes of an input decide its answer, the refusal and its place with it.
pub first_bytes_decide : (bs : List ℕ) → reading bs ≡ reading (take (suc longest) bs)
first_bytes_decide = reading_take

-- "The preference, mark and MED columns of lent tables are rewritten": whatever else a route has stays,
pub route_keeps : {A : Type 0} (f : Route → A) → ((r : Route) (preference mark med : ℕ) → f (with r preference mark med) ≡ f r)
    → (policy : Policy) (address bits : ℕ) (r : Route) → f (ruled policy address bits r) ≡ f r
route_keeps = R.ruled_keeps

module _ (policy : Policy) (s : Snapshot) where
  -- ids and distances stay,
  pub ids_stay : ((rewritten policy s).ids ≡ s.ids) × ((rewritten policy s).distances ≡ s.distances)
  ids_stay = (refl, refl)

  -- so do the prefixes, each with as many routes,
  pub prefixes_stay : {A : Type 0} (f : Prefix → A) → ((p : Prefix) → f (ruled_prefix policy p) ≡ f p) → map f (rewritten policy s).prefixes ≡ map f s.prefixes
  prefixes_stay f k = R.prefixes_keep f policy k s.prefixes

  -- it is as long,
  pub as_long : length s.distances ≡ length s.ids * (length s.ids - 1) → length (snapshots.encode (rewritten policy s)) ≡ length (snapshots.encode s)
  as_long = R.rewritten_long policy s

  module _ (good : Valid policy) (valid : snapshots.Valid s) where
    -- and it is a snapshot,
    pub still_valid : snapshots.Valid (rewritten policy s)
    still_valid = R.rewritten_valid policy s good valid

    -- which is read back from its bytes (demand 2),
    pub still_read : snapshot_reading.reading (snapshots.encode (rewritten policy s)) ≡ accepted (rewritten policy s)
    still_read = written_read (rewritten policy s) still_valid

    -- and whose prefixes are all such that the theorems of demand 3 speak of them,
    pub still_sound : (p : ℕ) → p < length (rewritten policy s).prefixes → Sound (mesh (rewritten policy s) p)
    still_sound = sound still_valid

    module _ {counts : Counts} {t : Tables} (held : Held counts t s) where
      -- and which the tables hold afterwards: "demands 2 and 3 read them afterwards".
      pub then_held : Room t → Held counts (filled (rewritten policy s) t) (rewritten policy s)
      then_held room = R.rewritten_held policy s good valid room held

      -- Of the tables those three columns alone are written.
      pub three_columns : filled (rewritten policy s) t ≡ with_rows t (put_ruled t.rows (all_routes (rewritten policy s).prefixes))
      three_columns = R.filled_ruled policy s held

-- "The first clause that fits decides the preference .. A session or route that no clause fits gets 100." To give every route 100 and then
-- pass it by each session in order comes to the same: sessions rise, so it is heard on one at most.
pub by_passes : (policy : Policy) (address bits : ℕ) (r : Route) → Valid policy → passes policy address bits (unruled r) ≡ ruled policy address bits r
by_passes policy address bits r good = passes_ruled policy address bits r good.sessions

-- Worked cases of it, and of "kind 5 .. sets MED to a present 0 on the whole session".
pub examples_ruled : map (λ c. examples.ruling c.policy) examples.rulings ≡ examples.rulings
examples_ruled = examples.rulings_made

-- "A .. route that no clause fits gets 100.": the file that is the end record alone is read as the policy without sessions,
pub end_alone : reading (6 ∷ 0 ∷ 0 ∷ 0 ∷ 0 ∷ []) ≡ accepted []
end_alone = reading_back [] (record { few = lit≤ tt; sessions = tt })

-- and that gives every route preference 100, and leaves its mark, its MED and all else.
pub all_get_100 : (s : Snapshot) → all_routes (rewritten [] s).prefixes ≡ map (λ r. with r 100 r.mark r.med) (all_routes s.prefixes)
all_get_100 s = R.all_usual s.prefixes
