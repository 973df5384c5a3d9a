-- `mapping::remove_row` meets its contract. Assumes nothing.
use native.Mathlib.Omega.{arith}
use Rattle.mapping.proofs.Table.{rows_moved_down}
use Rattle.mapping.proofs.remove_row.Goals as goal

pub returns-clause-out : goal.returns-clause-out
returns-clause-out g c =
    rows_moved_down c.args.n c.args.i c.args.rows.now c.copy_within.ensures.after (omega arith) (omega arith)
