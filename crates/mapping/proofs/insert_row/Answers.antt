-- `mapping::insert_row` meets its contract. Assumes nothing.
use native.Mathlib.Omega.{arith}
use Rattle.mapping.proofs.Table.{rows_moved_up}
use Rattle.mapping.proofs.insert_row.Goals as goal

pub returns-clause-put : goal.returns-clause-put
returns-clause-put g c =
    rows_moved_up c.args.n c.args.i c.args.row c.args.rows.now c.copy_within.ensures.after (omega arith) (omega arith)
