-- `xicsrows::find` meets its contract. The loop's invariant: no row passed has the number. Assumes nothing.
use Rattle.xicsrows.specs.XicsLayout.{table}
use Rattle.xicsrows.specs.Tables.{number_of}
use Rattle.xicsrows.proofs.Search.{NoneBefore}
use Rattle.xicsrows.proofs.find.Given as goal

abbrev pub invariant-loop-i : goal.invariant-loop-i
invariant-loop-i l = NoneBefore l.number (table (number_of l.t) l.s) l.i
