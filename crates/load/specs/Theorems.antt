-- What is proved of the promise of the C call's forecast, under the sentence that it makes true.
use Rattle.std.specs.Prelude.{ℕ, ◌≡◌, List}
use Rattle.std.proofs.Common.{sym, ap₂, ◌∙◌, subst}
use Rattle.model.specs.Stability.{Between}
use Rattle.model.proofs.Theorems.{pair_determined}
use Rattle.snapshot.specs.Format.{Snapshot}
use Rattle.snapshot.specs.Tables.{mesh}
use Rattle.snapshot.proofs.ChecksLaws.{accepted_injective}
use Rattle.tables.specs.Theorems.{sound}
use Rattle.decide.specs.declared.Differing.{Differing}
use Rattle.decide.specs.Decide.{differing_of}
use Rattle.load.specs.Load.{Asked, Forecast}

module _ {bs : List ℕ} {n p : ℕ} (asked : Asked bs n p) where
  -- what a forecast says of the snapshot that the bytes are
  forecast_there : {d : Differing} {early late : List ℕ} → Forecast bs p d early late
      → Between (mesh asked.snapshot p) early late × (d ≡ differing_of (mesh asked.snapshot p) early late)
  forecast_there {d} {early} {late} f =
      subst (λ (s : Snapshot). Between (mesh s p) early late × (d ≡ differing_of (mesh s p) early late)) (accepted_injective (sym f.read ∙ asked.read))
      (f.between, f.differs)

  -- "Each public call's promise determines its result and the later contents of everything it was lent": any two forecasts of a prefix
  -- are one.
  pub forecast_one : {d d' : Differing} {early early' late late' : List ℕ} → Forecast bs p d early late → Forecast bs p d' early' late'
      → (d ≡ d') × (early ≡ early') × (late ≡ late')
  forecast_one {early = early} {early' = early'} {late = late} {late' = late'} f g =
      let M = mesh asked.snapshot p in
      let a = forecast_there f in
      let b = forecast_there g in
      let pair = pair_determined M (sound asked.valid p asked.below) early late early' late' a.0 b.0 in
      (a.1 ∙ ap₂ (differing_of M) pair.0 pair.1 ∙ sym b.1, pair.0, pair.1)
