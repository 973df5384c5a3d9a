-- `listing::put_table` meets its contract. Assumes nothing.
use Rattle.std.proofs.Common.{◌*◌, take}
use Rattle.lines.specs.Text.{lines, Adds}
use Rattle.listing.proofs.put_table.Given as goal

abbrev pub invariant-loop-row : goal.invariant-loop-row
invariant-loop-row g l = Adds l.initial.out.items (lines g.T.Line.line (take l.row-index l.rows)) (g.T.Line.most * l.row-index) l.out.items
