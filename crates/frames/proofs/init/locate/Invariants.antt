-- `frames::init::locate` meets its contract. The loop's invariant: what is left of the regions has what is left of the number where
-- the regions have it. Assumes nothing.
use mathlib.Core.Path.{◌≡◌}
use lib.ListN.{drop}
use Rattle.frames.specs.Init.{locate}
use Rattle.frames.proofs.init.locate.Given as goal

abbrev pub invariant-loop-r : goal.invariant-loop-r
invariant-loop-r l = locate (drop l.r-index l.r-items) l.left ≡ locate l.r-items l.k
