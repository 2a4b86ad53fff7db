-- A row a turn.
use Rattle.std.proofs.Common.{refl, map}
use Rattle.clauses.specs.Walking.{clause_of}
use Rattle.passes.specs.Passes.{rewrite_tables}
use Rattle.passes.specs.TurnLaws.{keeps, keeps_on, along, along_long, along_skip, along_next}
use Rattle.passes.proofs.pass.Goals as goal
use Rattle.passes.proofs.pass.Goals.{then-s-router, else-s-router}

pub loop-q-init : goal.loop-q-init
loop-q-init c = record { rows = along (map clause_of c.args.clauses.now) c.args.s.now c.args.owner.now (rewrite_tables c.args.tables.now); kept = keeps }

pub rule-requires-clause-row : goal.rule-requires-clause-row
rule-requires-clause-row c =
    along_long (map clause_of c.args.clauses.now) c.args.s.now c.args.owner.now (rewrite_tables c.args.tables.now) c.loop-q.q c.loop-q.invariant.rows c.requires.long c.loop-q-test.true

pub loop-q-preserved : goal.loop-q-preserved
loop-q-preserved c =
    let cs = map clause_of c.args.clauses.now in
    let t = rewrite_tables c.args.tables.now in
    elim c.if-s-router.branch [
      | then-s-router w ↦ rw w.tables-is (record {
        rows = along_next cs c.args.s.now c.args.owner.now t c.loop-q.q c.loop-q.invariant.rows c.requires.long c.loop-q-test.true w.if-s-router.true refl w.rule.ensures.rewritten;
        kept = keeps_on c.loop-q.invariant.kept w.rule.ensures.kept;
      })
      | else-s-router w ↦ rw w.tables-is (record {
        rows = along_skip cs c.args.s.now c.args.owner.now t c.loop-q.q c.loop-q.invariant.rows w.if-s-router.false;
        kept = c.loop-q.invariant.kept;
      })
    ]
