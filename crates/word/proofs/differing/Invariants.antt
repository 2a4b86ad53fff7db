use Rattle.word.specs.Word.{differs}
use Rattle.word.specs.WordLaws.{Marked}
use Rattle.word.proofs.differing.Given as goal

-- the bits of the routers before r that differ
abbrev pub invariant-loop-r : goal.invariant-loop-r
invariant-loop-r l = Marked (differs l.early l.late) l.r l.bits
