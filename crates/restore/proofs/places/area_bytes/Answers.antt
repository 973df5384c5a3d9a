-- `restore::places::area_bytes` meets its contract. Assumes nothing.
use Prim.Native.Nat.{◌-◌}
use native.Mathlib.Omega.{arith}
use Rattle.restore.proofs.Inside.{inside_says, part_is}
use Rattle.restore.proofs.places.area_bytes.Goals as goal

pub overflow_sub-from : goal.overflow_sub-from
overflow_sub-from c = (inside_says _ _ c.requires.0).from

pub overflow_add-to : goal.overflow_add-to
overflow_add-to c = omega (arith, inside_says _ _ c.requires.0)

pub slice_bounds-result-end : goal.slice_bounds-result-end
slice_bounds-result-end c = omega (arith, inside_says _ _ c.requires.0)

pub returns : goal.returns
returns c =
    let a = c.args in
    part_is (a.a.start - a.memory.start) a.a.size a.mem.now
