use Rattle.std.proofs.Common.{length, ◌-◌}
use Rattle.passes.specs.Passes.{rewrite_tables, KeepsRewrite}
use Rattle.passes.specs.TurnLaws.{Left}
use Rattle.passes.proofs.pass_all.Given as goal

abbrev pub invariant-loop-s : goal.invariant-loop-s
invariant-loop-s l = record {
  left : Left l.policy l.owner (rewrite_tables l.fn.tables) l.at (rewrite_tables l.tables);
  kept : KeepsRewrite l.fn.tables l.tables;
}

abbrev pub decreases-loop-s : goal.decreases-loop-s
decreases-loop-s l = length l.policy - l.at
