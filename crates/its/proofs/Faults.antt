-- What the tests of form tell. Assumes nothing.
use Prim.Native.Nat.{ℕ, ◌%◌, ◌≤◌}
use mathlib.Core.Path.{◌≡◌}
use mathlib.Core.Bool.{true, ◌&&◌}
use lib.Dec.{ltb, leb, eqb}
use borrow.Author.Tests.{leb-true}
use Rattle.areas.proofs.Tests.{and_left, and_right}
use Rattle.guest.specs.declared.Table.{Table}
use Rattle.mapping.specs.declared.Device.{Device}
use Rattle.mapping.specs.Commands.{well_formed}
use Rattle.its.specs.Forms.{is_formed}

-- the bits of a device
pub formed_bits : (entries : ℕ) (d : Device) → is_formed entries d ≡ true → d.bits ≤ 16
formed_bits entries d e =
    leb-true d.bits 16
    (and_right (leb 1 d.bits) (leb d.bits 16) (and_left (leb 1 d.bits && leb d.bits 16) (eqb (d.itt % 256) 0) (and_right (ltb d.id entries) ((leb 1 d.bits && leb d.bits 16) && eqb (d.itt % 256) 0) e)))

-- the pages of a table
pub formed_pages : (t : Table) → well_formed t ≡ true → t.pages ≤ 128
unfolding well_formed
formed_pages t e =
    leb-true t.pages 128 (and_right (leb 1 t.pages) (leb t.pages 128) (and_right (eqb (t.start % 4096) 0) (leb 1 t.pages && leb t.pages 128) e))
