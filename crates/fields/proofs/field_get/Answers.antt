-- `fields::field_get` meets its contract. Assumes nothing.
use mathlib.Core.Path.{◌≡◌}
use Prim.Native.Nat.{◌-◌, ◌^◌}
use native.Mathlib.Omega.{arith}
use lib.Bits.{and_mask}
use Rattle.fields.specs.Field.{get_field}
use Rattle.fields.proofs.field_get.Goals as goal

pub returns : goal.returns
unfolding get_field
returns c =
    let m : c.ones.result ≡ 2 ^ c.args.width - 1 = omega arith in
    rw m (and_mask _ c.args.width)
