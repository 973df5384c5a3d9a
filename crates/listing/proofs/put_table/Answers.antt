-- `listing::put_table` meets its contract. Assumes nothing.
use native.Mathlib.Omega.{arith}
use mathlib.Core.List.{append_assoc}
use Rattle.lines.proofs.Laws.{adds_both, adds_as, lines_none, line_room, line_more, lines_all}
use Rattle.listing.proofs.put_table.Goals as goal

pub loop-row-init : goal.loop-row-init
loop-row-init g c = lines_none _ _ c.args.rows.now _

pub put-requires : goal.put-requires
put-requires g c =
    omega (arith, line_room g.T.Line.line g.T.Line.most c.args.rows.now c.loop-row.row-index c.loop-row-test.true, c.loop-row.invariant.most, c.put_line.ensures.most, c.requires)

pub loop-row-preserved : goal.loop-row-preserved
loop-row-preserved g c = line_more _ _ _ _ _ c.row-item.is c.loop-row-test.true c.loop-row.invariant c.put.ensures

pub returns : goal.returns
returns g c =
    adds_as (adds_both c.put_line.ensures (lines_all _ _ _ _ c.loop-row.auto.row-index-end c.loop-row-test.false c.loop-row.invariant)) (simp append_assoc) (omega arith)
