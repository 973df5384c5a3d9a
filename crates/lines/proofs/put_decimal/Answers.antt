-- `lines::put_decimal` meets its contract. Assumes nothing.
use Prim.Native.Nat.{◌<◌}
use native.Mathlib.Omega.{arith}
use Rattle.lines.proofs.Numbers.{digits_few, number_added}
use Rattle.lines.proofs.put_decimal.Goals as goal

two : 1 < 10
two = omega arith

pub put_ended-requires : goal.put_ended-requires
put_ended-requires g c =
    omega (arith, digits_few 10 two c.args.n c.decimal-k.result 20 (omega arith) (omega arith) c.decimal-k.ensures.len, c.decimal-k.ensures.in_bounds, c.requires)

pub returns : goal.returns
returns g c =
    number_added 10 two c.args.n c.decimal-k.result 20 _ _ _ _ (omega arith) (omega arith) c.decimal-k.ensures.len c.decimal-k.ensures.in_bounds.1 c.decimal-k.ensures.digits
    c.put_ended.ensures
