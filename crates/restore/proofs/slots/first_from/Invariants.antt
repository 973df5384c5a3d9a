-- `restore::slots::first_from` meets its contract. Assumes nothing.
use Rattle.restore.proofs.Both.{Seeking}
use Rattle.restore.proofs.slots.first_from.Given as goal

abbrev pub invariant-loop-i : goal.invariant-loop-i
invariant-loop-i g l = Seeking g.T.Chained.device l.t l.from l.n l.i
