-- `naming::fault_of` meets its contract. Assumes nothing.
use native.Mathlib.Omega.{arith}
use Rattle.naming.specs.Naming.{fault_of}
use Rattle.naming.proofs.Codes.{fits16}
use Rattle.naming.proofs.fault_of.Goals as goal

pub overflow_cast-device : goal.overflow_cast-device
overflow_cast-device c = omega (arith, fits16 _ _ _ c.field_get-device.ensures)

pub overflow_cast-entry : goal.overflow_cast-entry
overflow_cast-entry c = omega (arith, fits16 _ _ _ c.field_get-entry.ensures)

pub returns : goal.returns
unfolding fault_of
returns c =
    rw (
      c.place_in.ensures,
      c.kind_of.ensures,
      c.field_get-table.ensures,
      c.field_get-device.ensures,
      c.field_get-entry.ensures,
      c.field_get.ensures,
    )
