-- `xicsrules::rows_ok` meets its contract. The loop's invariant: every row passed keeps its rule, and none has the number of one before it.
-- Assumes nothing.
use Rattle.xicsrows.specs.XicsLayout.{server, table}
use Rattle.xicsrows.specs.Tables.{number_of}
use Rattle.xicsrules.specs.Inner.{row_ok}
use Rattle.xicsrules.proofs.Tests.{Testing}
use Rattle.xicsrules.proofs.rows_ok.Given as goal

abbrev pub invariant-loop-i : goal.invariant-loop-i
invariant-loop-i l = Testing (row_ok (number_of l.t) (table server l.s)) (table (number_of l.t) l.s) l.i
