-- `rules::covers` meets its contract. The loop's invariant: what is left of the number fits into what is left of the regions where the
-- whole fits. Assumes nothing.
use mathlib.Core.Path.{◌≡◌}
use lib.Dec.{leb}
use lib.ListN.{drop}
use Rattle.rules.specs.Standing.{total}
use Rattle.rules.proofs.covers.Given as goal

abbrev pub invariant-loop-row : goal.invariant-loop-row
invariant-loop-row l = leb l.n (total l.row-items) ≡ leb l.left (total (drop l.row-index l.row-items))
