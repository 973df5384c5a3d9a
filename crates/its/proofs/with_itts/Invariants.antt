-- `its::with_itts` meets its contract. Assumes nothing.
use Prim.Native.Nat.{◌+◌}
use mathlib.Core.Path.{◌≡◌}
use mathlib.Core.List.{◌++◌, map}
use lib.ListN.{take}
use Rattle.areas.specs.Area.{areas}
use Rattle.mapping.specs.Mapped.{itt_area, rows}
use Rattle.its.proofs.with_itts.Given as goal

abbrev pub invariant-loop-d : goal.invariant-loop-d
invariant-loop-d l = record {
  counted : l.next.count ≡ l.fn.t.count + l.d-index;
  built : areas l.next ≡ areas l.fn.t ++ map itt_area (take l.d-index (rows l.fn.k).devices);
}
