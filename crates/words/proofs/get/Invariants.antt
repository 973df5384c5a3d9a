use Rattle.words.specs.Words.{Read}
use Rattle.words.proofs.get.Given as goal

abbrev pub invariant-loop-i : goal.invariant-loop-i
invariant-loop-i g l = Read l.s l.at l.i l.v
