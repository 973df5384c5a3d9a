-- `keeps::covers` meets its contract. The loop's invariant: what is left of the number fits into what is left of the regions where the
-- whole fits. Assumes nothing.
use native.Mathlib.Omega.{arith}
use mathlib.Core.Path.{sym, ◌∙◌}
use Rattle.guest.specs.Machine.{no_region}
use Rattle.layout.specs.Layout.{decode}
use Rattle.rules.proofs.Rows.{covers_here, covers_later, covers_end}
use Rattle.keeps.proofs.covers.Goals as goal

pub returns-then-left-row : goal.returns-then-left-row
returns-then-left-row c =
    let l = (decode c.args.s.now).regions in
    sym (c.loop-i.invariant
    ∙ covers_here l c.loop-i.i no_region c.loop-i.left (omega (arith, c.loop-i-test.true, c.region_count-i-end.ensures))
    (rw c.region_at-row.ensures at c.if-left-row.true))

pub loop-i-preserved : goal.loop-i-preserved
loop-i-preserved c =
    let l = (decode c.args.s.now).regions in
    c.loop-i.invariant
    ∙ rw c.region_at-row.ensures
    (covers_later l c.loop-i.i no_region c.loop-i.left (omega (arith, c.loop-i-test.true, c.region_count-i-end.ensures))
    (rw c.region_at-row.ensures at c.if-left-row.false))

pub returns : goal.returns
returns c =
    sym (c.loop-i.invariant
    ∙ covers_end (decode c.args.s.now).regions c.loop-i.i c.loop-i.left (omega (arith, c.loop-i-test.false, c.region_count-i-end.ensures)))
