-- Where the prefix passes, its routes decide. Assumes nothing.
use Rattle.std.proofs.Common.{arith}
use Rattle.snapshot.specs.Lent.{tables_of}
use Rattle.tables.specs.JudgeLaws.{decides_not, prefix_good, prefix_bad}
use Rattle.tables.proofs.prefix_good.Goals as goal

pub returns-then-count-prefix_bad : goal.returns-then-count-prefix_bad
returns-then-count-prefix_bad c =
    decides_not (prefix_bad c.args.routers (tables_of c.args.tables.now) c.args.p c.args.at c.requires.3 c.prefix_bad.ensures c.late_at.ensures c.if-count-prefix_bad.true)

pub returns : goal.returns
returns c =
    prefix_good c.args.routers (tables_of c.args.tables.now) c.args.p c.args.at c.requires.3 c.prefix_bad.ensures c.late_at.ensures
    (omega arith) c.if-count-prefix_bad.false c.routes_good.ensures
