-- `rules::with_regions` meets its contract. The loop's invariant: the regions passed stand behind what stood. Assumes nothing.
use Prim.Native.Nat.{◌+◌}
use mathlib.Core.Path.{◌≡◌}
use lib.ListN.{take}
use mathlib.Core.List.{◌++◌, map}
use Rattle.areas.specs.Area.{areas}
use Rattle.rules.specs.Standing.{region_area}
use Rattle.rules.proofs.with_regions.Given as goal

abbrev pub invariant-loop-row : goal.invariant-loop-row
invariant-loop-row l =
    (l.next.count ≡ l.initial.next.count + l.row-index) × (areas l.next ≡ areas l.initial.next ++ map region_area (take l.row-index l.row-items))
