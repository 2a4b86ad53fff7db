-- So many routers were read.
use Rattle.scan.specs.Scan.{Routers}
use Rattle.scan.proofs.routers.Given as goal

abbrev pub invariant-loop-given : goal.invariant-loop-given
invariant-loop-given l = Routers l.input l.n l.first l.given l.c
