-- The ways out of reading, each with what it answers and leaves.
use Rattle.std.specs.Prelude.{ℕ, ◌≤◌, ◌≡◌, refl, Bool, List, T, Result, Ok, Err}
use Rattle.std.proofs.Common.{ap₂, ◌∙◌, subst, subst₂}
use Rattle.std.proofs.Math.Path.{sym, ap}
use Rattle.std.proofs.Math.Bool.{true, false, cond}
use Rattle.std.proofs.Math.Pow.{are_bytes}
use Rattle.refusal.specs.declared.Refusal.TheVariants.{Room}
use Rattle.refusal.specs.declared.Refused.{Refused}
use Rattle.refusal.specs.Numbers.{refuses}
use Rattle.snapshot.specs.declared.Counts.{Counts}
use Rattle.snapshot.specs.Limits.{most_prefixes}
use Rattle.snapshot.specs.Ranges.{any_of}
use Rattle.snapshot.specs.Format.{Snapshot}
use Rattle.snapshot.specs.Reading.{Answer, accepted, refused, reading}
use Rattle.snapshot.proofs.Theorems.{accepts}
use Rattle.snapshot.specs.Tables.{Tables, short, filled, counts_of}
use Rattle.scan.specs.Scan.{counted, said, said_of, told}
use Rattle.scan.specs.ScanLaws.{said_told, said_is}
use Rattle.scan.specs.Theorems.{said_tells}
use Rattle.fill.specs.Fill.{Spans, filled_from}
use Rattle.fill.specs.FillLaws.{spans, fills}
use Rattle.reader.specs.Read.{left, read_answer, read_tables}

-- an answer tells what reading gave
pub told_refused : (a : Answer) {e : Refused} → Err e ≡ told a → a ≡ refused e.refusal e.place
told_refused (accepted s) h = cc
told_refused (refused q place) {e} h = let i : e ≡ record { refusal = q; place = place } = cc in ap (λ (x : Refused). refused x.refusal x.place) (sym i)

pub told_accepted : (a : Answer) {c : Counts} → Ok c ≡ told a → (s : Snapshot) × (a ≡ accepted s) × (c ≡ counts_of s)
told_accepted (accepted s) e = (s, refl, cc)
told_accepted (refused q place) e = cc

-- what is answered where a table is shorter than its limit
abbrev pub no_room_at : Refused
no_room_at = record { refusal = Room; place = 0 }

module _ (bs : List ℕ) (t : Tables) where
  pub no_room : any_of (short t) ≡ true → (refuses Room 0 ≡ read_answer bs t) × (t ≡ read_tables bs t)
  unfolding read_answer read_tables
  no_room e =
      (sym (ap (λ (b : Bool). cond b (refuses Room 0) (said_of (reading bs))) e), sym (ap (λ (b : Bool). cond b t (left (reading bs) t)) e))

  -- the code's answer
  pub answer_told : {r : Result Counts Refused} → said r ≡ read_answer bs t → r ≡ cond (any_of (short t)) (Err no_room_at) (told (reading bs))
  unfolding read_answer
  answer_told {r} = told_by (any_of (short t))
    where
      told_by : (b : Bool) → said r ≡ cond b (refuses Room 0) (said_of (reading bs)) → r ≡ cond b (Err no_room_at) (told (reading bs))
      told_by true e = said_tells r (Err no_room_at) e
      told_by false e = said_is bs e

  module _ (room : any_of (short t) ≡ false) where
    answer_is : {r : Result Counts Refused} → r ≡ told (reading bs) → said r ≡ read_answer bs t
    unfolding read_answer
    answer_is e = ap said e ∙ said_told (reading bs) ∙ sym (ap (λ (b : Bool). cond b (refuses Room 0) (said_of (reading bs))) room)

    tables_are : read_tables bs t ≡ left (reading bs) t
    unfolding read_tables
    tables_are = ap (λ (b : Bool). cond b t (left (reading bs) t)) room

    pub not_sound : {r : Refused} → Err r ≡ told (reading bs) → (refuses r.refusal r.place ≡ read_answer bs t) × (t ≡ read_tables bs t)
    not_sound e = (answer_is e, sym (tables_are ∙ ap (λ (a : Answer). left a t) (told_refused (reading bs) e)))

    pub sound : {c : Counts} {u : Tables} → T (are_bytes bs) → Ok c ≡ told (reading bs) → u ≡ filled_from bs c.routers c.prefixes t
        → (counted c ≡ read_answer bs t) × (u ≡ read_tables bs t)
    sound {c} {u} bytes e f =
        let (s, is, counts) = told_accepted (reading bs) e in
        let (written, valid) = (accepts bs s bytes).0 is in (
          answer_is e,
          f ∙ ap₂ (λ (l : List ℕ) (c : Counts). filled_from l c.routers c.prefixes t) written counts ∙ fills s valid t
              ∙ sym (tables_are ∙ ap (λ (a : Answer). left a t) is),
        )

-- an accepted input has what is to be filled in
pub spanned : (bs : List ℕ) {c : Counts} → T (are_bytes bs) → Ok c ≡ told (reading bs) → Spans bs c.routers × (c.prefixes ≤ most_prefixes)
spanned bs {c} bytes e =
    let (s, is, counts) = told_accepted (reading bs) e in
    let (written, valid) = (accepts bs s bytes).0 is in (
      subst₂ (λ (l : List ℕ) (c : Counts). Spans l c.routers) (sym written) (sym counts) (spans s valid),
      subst (λ (c : Counts). c.prefixes ≤ most_prefixes) (sym counts) valid.few_prefixes,
    )

-- ---- what an answer tells of the bytes, where each table has room

module _ (bs : List ℕ) (t : Tables) (room : any_of (short t) ≡ false) where
  told_read : {x : Result Counts Refused} → said x ≡ read_answer bs t → x ≡ told (reading bs)
  told_read e = answer_told bs t e ∙ ap (λ (b : Bool). cond b (Err no_room_at) (told (reading bs))) room

  pub was_refused : {x : Result Counts Refused} {r : Refused} → x ≡ Err r → said x ≡ read_answer bs t → reading bs ≡ refused r.refusal r.place
  was_refused is e = told_refused (reading bs) (sym is ∙ told_read e)

  pub was_accepted : {x : Result Counts Refused} {c : Counts} → x ≡ Ok c → said x ≡ read_answer bs t → (s : Snapshot) × (reading bs ≡ accepted s) × (c ≡ counts_of s)
  was_accepted is e = told_accepted (reading bs) (sym is ∙ told_read e)

  pub tables_left : {s : Snapshot} → reading bs ≡ accepted s → read_tables bs t ≡ filled s t
  tables_left is = tables_are bs t room ∙ ap (λ (a : Answer). left a t) is
