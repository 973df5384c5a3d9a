-- `lines::put_hexadecimal` meets its contract. Assumes nothing.
use Prim.Native.Nat.{◌<◌}
use native.Mathlib.Omega.{arith}
use Rattle.lines.proofs.Numbers.{digits_few, number_added}
use Rattle.lines.proofs.put_hexadecimal.Goals as goal

two : 1 < 16
two = omega arith

pub put_ended-requires : goal.put_ended-requires
put_ended-requires g c =
    omega (arith, digits_few 16 two c.args.n c.hex-k.result 16 (omega arith) (omega arith) c.hex-k.ensures.len, c.hex-k.ensures.in_bounds, c.requires)

pub returns : goal.returns
returns g c =
    number_added 16 two c.args.n c.hex-k.result 16 _ _ _ _ (omega arith) (omega arith) c.hex-k.ensures.len c.hex-k.ensures.in_bounds.1 c.hex-k.ensures.digits
    c.put_ended.ensures
