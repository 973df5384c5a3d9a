-- The numbers of kinds and of places, which stand beside each other in a code. Assumes nothing.
use Prim.Native.Nat.{ℕ, ◌^◌, ◌≤◌, ◌<◌}
use native.Mathlib.Omega.{arith}
use Rattle.tables.specs.Fault.{
  Place,
  at_collection,
  at_device,
  at_event,
  Kind,
  fault_pe,
  fault_repeat,
  fault17th,
  fault_next,
  fault_size,
  fault33rd,
  fault_outside,
  fault_overlap,
  fault_lpi,
  fault_icid,
  fault1025th,
  kind_number,
  place_number,
  Indexed,
}

-- kinds are numbered from 1 to 11
pub record Numbered (n : ℕ) : Type 0 where
  pub some : 0 < n
  pub most : n ≤ 11

pub numbered : (c : Kind) → Numbered (kind_number c)
numbered fault_pe = record { some = omega arith; most = omega arith }
numbered fault_repeat = record { some = omega arith; most = omega arith }
numbered fault17th = record { some = omega arith; most = omega arith }
numbered fault_next = record { some = omega arith; most = omega arith }
numbered fault_size = record { some = omega arith; most = omega arith }
numbered fault33rd = record { some = omega arith; most = omega arith }
numbered fault_outside = record { some = omega arith; most = omega arith }
numbered fault_overlap = record { some = omega arith; most = omega arith }
numbered fault_lpi = record { some = omega arith; most = omega arith }
numbered fault_icid = record { some = omega arith; most = omega arith }
numbered fault1025th = record { some = omega arith; most = omega arith }

-- a place stays below the kind
pub place_few : (p : Place) → Indexed p → place_number p < 2 ^ 40
place_few (at_collection i) h = omega arith
place_few (at_device i) h = omega arith
place_few (at_event d i) h = omega (arith, h.0, h.1)
