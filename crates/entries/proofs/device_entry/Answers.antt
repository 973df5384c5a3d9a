-- `entries::device_entry` meets its contract. Assumes nothing.
use mathlib.Core.Path.{◌≡◌}
use Prim.Native.Nat.{◌*◌, ◌%◌, ◌^◌}
use native.Mathlib.Omega.{arith}
use native.Mathlib.Nat.{mod-eq_of_lt}
use Rattle.fields.proofs.Laws.{get_lt}
use Rattle.entries.specs.Device.{device_of}
use Rattle.entries.proofs.device_entry.Goals as goal

pub overflow_add-result : goal.overflow_add-result
overflow_add-result c = omega (arith, get_lt c.args.w 0 5)

pub returns : goal.returns
unfolding device_of
returns c =
    let e : (c.field_get-page.result * 256) % 2 ^ 64 ≡ c.field_get-page.result * 256 =
    mod-eq_of_lt (omega (arith, get_lt c.args.w 5 44)) in
    cc
