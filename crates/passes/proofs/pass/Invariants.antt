use Rattle.std.proofs.Common.{map}
use Rattle.clauses.specs.Walking.{clause_of}
use Rattle.passes.specs.Passes.{rewrite_tables, KeepsRewrite}
use Rattle.passes.specs.TurnLaws.{Along}
use Rattle.passes.proofs.pass.Given as goal

abbrev pub invariant-loop-q : goal.invariant-loop-q
invariant-loop-q l = record {
  rows : Along (map clause_of l.clauses) l.s l.owner (rewrite_tables l.fn.tables) l.q (rewrite_tables l.tables);
  kept : KeepsRewrite l.fn.tables l.tables;
}
