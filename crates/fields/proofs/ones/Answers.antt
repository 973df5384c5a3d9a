-- `fields::ones` meets its contract: all ones, shifted right. Assumes nothing.
use mathlib.Core.Path.{◌≡◌}
use Prim.Native.Nat.{◌+◌, ◌-◌, ◌/◌, ◌^◌}
use native.Mathlib.Omega.{arith}
use lib.Pow.{suc_ones}
use Rattle.fields.proofs.Masks.{ones_shr}
use Rattle.fields.proofs.ones.Goals as goal

pub returns : goal.returns
returns c =
    let n = c.args.width in
    let e : n + (64 - n) ≡ 64 = omega arith in
    let o : (2 ^ 64 - 1) / 2 ^ (64 - n) ≡ 2 ^ n - 1 = rw e at (ones_shr n (64 - n)) in
    omega (arith, suc_ones n)
