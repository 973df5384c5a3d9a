-- `maplayout::shift_collections` meets its contract. Assumes nothing.
use Rattle.maplayout.proofs.Shift.{Shifting}
use Rattle.maplayout.proofs.shift_collections.Given as goal

abbrev pub invariant-loop-j : goal.invariant-loop-j
invariant-loop-j l = Shifting l.initial.s l.i l.n l.initial.carry l.s l.carry l.j
