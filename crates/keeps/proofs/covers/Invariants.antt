-- `keeps::covers` meets its contract. The loop's invariant: what is left of the number fits into what is left of the regions where the
-- whole fits. Assumes nothing.
use mathlib.Core.Path.{◌≡◌}
use lib.Dec.{leb}
use lib.ListN.{drop}
use Rattle.layout.specs.Layout.{decode}
use Rattle.rules.specs.Standing.{total}
use Rattle.keeps.proofs.covers.Given as goal

abbrev pub invariant-loop-i : goal.invariant-loop-i
invariant-loop-i l = leb l.n (total (decode l.s).regions) ≡ leb l.left (total (drop l.i (decode l.s).regions))
