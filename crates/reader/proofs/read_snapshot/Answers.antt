-- Each way out is a law of ReadLaws.antt; that a table lacks room is asked of a view of the tables lent.
use Rattle.std.proofs.Common.{sym, ap, ◌∙◌}
use Rattle.std.specs.Prelude.{ℕ, ◌≡◌, Bool}
use Rattle.std.proofs.lemmas.Result.{err_from_is_err_and}
use Rattle.wire.specs.NumbersLaws.{slice_bytes}
use Rattle.snapshot.specs.Ranges.{any_of}
use Rattle.snapshot.proofs.RangesLaws.{none_any}
use Rattle.snapshot.specs.Tables.{Tables, short}
use Rattle.snapshot.proofs.TablesLaws.{has_room}
use Rattle.snapshot.specs.Lent.{lent_tables}
use Rattle.scan.specs.ScanLaws.{said_is}
use Rattle.reader.specs.ReadLaws.{no_room, not_sound, sound, spanned}
use Rattle.reader.proofs.read_snapshot.Goals as goal

-- what the view lacks, the tables lack
lacks : {b v : Bool} {shown lent : Tables} → shown ≡ lent → b ≡ any_of (short shown) → b ≡ v → any_of (short lent) ≡ v
lacks e f g = sym (ap (λ (t : Tables). any_of (short t)) e) ∙ sym f ∙ g

pub returns-then-lacks_room-clause-read : goal.returns-then-lacks_room-clause-read
returns-then-lacks_room-clause-read c = no_room c.args.input.now (lent_tables c.args.tables.now) (lacks c.view.ensures c.lacks_room.ensures c.if-lacks_room.true)

pub returns-in_err-counts-clause-read : goal.returns-in_err-counts-clause-read
returns-in_err-counts-clause-read c =
    let bs = c.args.input.now in
    let room = lacks c.view.ensures c.lacks_room.ensures c.if-lacks_room.false in
    let out = err_from_is_err_and c.from_residual.result c.from_residual.ensures.1 in
    rw (out.1, out.2) (not_sound bs (lent_tables c.args.tables.now) room (sym c.in_err-counts.was ∙ said_is bs c.judge.ensures))

pub fill_tables-requires : goal.fill_tables-requires
fill_tables-requires c =
    let bs = c.args.input.now in
    let t = lent_tables c.args.tables.now in
    let room = lacks c.view.ensures c.lacks_room.ensures c.if-lacks_room.false in
    let bytes = slice_bytes bs (λ (k : ℕ). (c.type_inv.input k).fits) in
    let (spans, few) = spanned bs bytes (sym c.in_ok-counts.was ∙ said_is bs c.judge.ensures) in
    (spans, few, has_room t (none_any (short t) room))

pub returns-clause-read : goal.returns-clause-read
returns-clause-read c =
    let bs = c.args.input.now in
    let room = lacks c.view.ensures c.lacks_room.ensures c.if-lacks_room.false in
    let bytes = slice_bytes bs (λ (k : ℕ). (c.type_inv.input k).fits) in
    sound bs (lent_tables c.args.tables.now) room bytes (sym c.in_ok-counts.was ∙ said_is bs c.judge.ensures) c.fill_tables.ensures.filled
