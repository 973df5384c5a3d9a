-- `mapping::keep_others` meets its contract. Assumes nothing.
use Rattle.mapping.specs.Commands.{of_other}
use Rattle.mapping.proofs.Table.{Keeping}
use Rattle.mapping.proofs.keep_others.Given as goal

abbrev pub invariant-loop-i : goal.invariant-loop-i
invariant-loop-i l = Keeping (of_other l.id) l.n l.initial.events l.events l.j l.i
