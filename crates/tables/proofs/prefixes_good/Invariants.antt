-- The prefixes before p passed, and their routes end at `at`.
use Rattle.snapshot.specs.Lent.{tables_of}
use Rattle.tables.specs.JudgeLaws.{Counting}
use Rattle.tables.proofs.prefixes_good.Given as goal

abbrev pub invariant-loop-p : goal.invariant-loop-p
invariant-loop-p l = Counting l.counts (tables_of l.tables) l.p l.at
