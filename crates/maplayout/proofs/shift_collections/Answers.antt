-- `maplayout::shift_collections` meets its contract. Assumes nothing.
use native.Mathlib.Omega.{arith}
use Rattle.maplayout.proofs.Shift.{same, shift_start, shift_turn, shift_end}
use Rattle.maplayout.proofs.shift_collections.Goals as goal

pub loop-j-init : goal.loop-j-init
loop-j-init c =
    shift_start _ _ _ _ c.requires.0 c.requires.1 c.requires.2 c.requires.3

pub row_at-row-requires : goal.row_at-row-requires
row_at-row-requires c =
    omega (arith, c.requires.3, same _ _ _ _ c.requires.0 c.requires.1 c.requires.2 c.requires.3 _ _ _ c.loop-j.invariant)

pub put_row-requires : goal.put_row-requires
put_row-requires c =
    omega (arith, c.requires.3, same _ _ _ _ c.requires.0 c.requires.1 c.requires.2 c.requires.3 _ _ _ c.loop-j.invariant)

pub loop-j-preserved : goal.loop-j-preserved
loop-j-preserved c =
    shift_turn _ _ _ _ c.requires.0 c.requires.1 c.requires.2 c.requires.3 _ _ _ c.loop-j.invariant c.loop-j-test.true _ c.row_at-row.ensures _ c.put_row.auto.s c.put_row.ensures

pub put_row-requires-2 : goal.put_row-requires-2
put_row-requires-2 c =
    omega (arith, c.requires.3, same _ _ _ _ c.requires.0 c.requires.1 c.requires.2 c.requires.3 _ _ _ c.loop-j.invariant)

pub returns : goal.returns
returns c =
    shift_end _ _ _ _ c.requires.0 c.requires.1 c.requires.2 c.requires.3 _ _ _ c.loop-j.invariant c.loop-j-test.false _ c.put_row-2.auto.s c.put_row-2.ensures
