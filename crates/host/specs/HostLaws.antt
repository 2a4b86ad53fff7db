-- The ways out of the host call, each with what it returns and leaves in the area.
use Rattle.std.specs.Prelude.{ℕ, ◌≤◌, ◌<◌, ◌≡◌, List, ◌++◌, length, get_or, T, Ok, Err}
use Rattle.std.proofs.Common.{div-one, sym, ap, ◌∙◌, subst, subst₂}
use Rattle.std.proofs.lemmas.List.Edits.{sets}
use Rattle.std.proofs.Math.Pow.{are_bytes}
use Rattle.refusal.specs.declared.Refused.{Refused}
use Rattle.refusal.specs.declared.Refusal.TheVariants.{NoPrefix}
use Rattle.std.specs.Int.{w16, to_be_bytes}
use Rattle.wire.specs.Numbers.{bytes_of}
use Rattle.model.specs.Rows.{span}
use Rattle.model.specs.Decision.{none}
use Rattle.snapshot.specs.declared.Counts.{Counts}
use Rattle.snapshot.specs.Reading.{reading}
use Rattle.snapshot.proofs.Theorems.{accepts}
use Rattle.text.specs.declared.Sink.{Sink}
use Rattle.text.specs.Text.{each, PutsAtMost}
use Rattle.scan.specs.Scan.{told}
use Rattle.reader.specs.ReadLaws.{told_refused, told_accepted}
use Rattle.decide.specs.declared.Differing.{Differing}
use Rattle.load.specs.Load.{Asked, Forecast}
use Rattle.host.specs.Host.{area_bytes, refusal_code, router_bytes, Answers, unread, no_prefix, given}

-- ---- the ways out

module _ {bs : List ℕ} {p : ℕ} {area : List ℕ} (enough : area_bytes ≤ length area) where
  pub answers_refused : {r : Refused} → Err r ≡ told (reading bs) → Answers bs p area (refusal_code r.refusal) area
  answers_refused {r} e = unread enough r.refusal r.place (told_refused (reading bs) e)

  pub answers_none : {c : Counts} → Ok c ≡ told (reading bs) → c.prefixes ≤ p → Answers bs p area (refusal_code NoPrefix) area
  answers_none {c} e m =
      let (s, is, counts) = told_accepted (reading bs) e in
      no_prefix enough s is (subst (λ (x : Counts). x.prefixes ≤ p) counts m)

  -- the forecast, with the rows of each router in the area
  pub answers_given : {d : Differing} {early late after : List ℕ} → Forecast bs p d early late
      → after ≡ sets area 0 (each (router_bytes early late) (span 0 (length early))) → Answers bs p area d.number after
  answers_given {early = early} {late = late} f e =
      subst₂ (Answers bs p area) (sym (ap (λ (x : Differing). x.number) f.differs))
      (sym (e ∙ ap (λ (n : ℕ). sets area 0 (each (router_bytes early late) (span 0 n))) f.between.early_stable.size))
      (given enough f.snapshot f.read f.below early late f.between)

-- a number that is another
pub answers_as : {bs : List ℕ} {p r q : ℕ} {area after : List ℕ} → r ≡ q → Answers bs p area q after → Answers bs p area r after
answers_as {bs} {p} {area = area} {after = after} e a = subst (λ (k : ℕ). Answers bs p area k after) (sym e) a

-- bytes that are accepted, and the number of a prefix that they have
pub asked : (bs : List ℕ) → T (are_bytes bs) → {p : ℕ} {c : Counts} → Ok c ≡ told (reading bs) → p < c.prefixes → Asked bs c.routers p
asked bs bytes {p} {c} e m =
    let (s, is, counts) = told_accepted (reading bs) e in
    let (written, valid) = (accepts bs s bytes).0 is in
    record {
      snapshot = s;
      read = is;
      written = written;
      valid = valid;
      routers = ap (λ (x : Counts). x.routers) counts;
      below = subst (λ (x : Counts). p < x.prefixes) counts m;
    }

-- ---- the rows in the area

-- a row's two bytes
pub two_bytes : (v : ℕ) → to_be_bytes w16 v ≡ bytes_of 2 v
two_bytes v = simp div-one

-- a router that there is has these rows
pub router_bytes_lem : (early late : List ℕ) (r : ℕ) {x y : ℕ} {a b : Sink} → x ≡ get_or early r none → y ≡ get_or late r none
    → PutsAtMost 4 a b (bytes_of 2 x ++ bytes_of 2 y) → PutsAtMost 4 a b (router_bytes early late r)
router_bytes_lem early late r {a = a} {b = b} e l p = subst₂ (λ (x y : ℕ). PutsAtMost 4 a b (bytes_of 2 x ++ bytes_of 2 y)) e l p
