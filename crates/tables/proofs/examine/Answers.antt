-- Where no table is shorter than its limit, the judgement decides. Assumes nothing.
use Rattle.std.proofs.Common.{◌∙◌, sym, subst, T}
use Rattle.snapshot.specs.Lent.{tables_of}
use Rattle.snapshot.specs.Tables.{short}
use Rattle.snapshot.proofs.RangesLaws.{none_any}
use Rattle.tables.specs.Judging.{room, unheld, held}
use Rattle.tables.proofs.examine.Goals as goal

pub returns-then-lacks_room : goal.returns-then-lacks_room
returns-then-lacks_room c = room (subst T (sym (sym c.lacks_room.ensures ∙ c.if-lacks_room.true)) tt)

pub returns-then-not-judge : goal.returns-then-not-judge
returns-then-not-judge c =
    unheld (none_any (short (tables_of c.args.tables.now)) (sym c.lacks_room.ensures ∙ c.if-lacks_room.false)) (c.judge.ensures.no c.if-not-judge.true)

pub returns : goal.returns
returns c =
    held (none_any (short (tables_of c.args.tables.now)) (sym c.lacks_room.ensures ∙ c.if-lacks_room.false)) (c.judge.ensures.yes c.if-not-judge.false)
