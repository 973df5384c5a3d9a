-- Words of a bank: what stays below a bound.
use Prim.Native.Nat.{ℕ, ◌^◌, ◌≤◌, ◌<◌}
use native.Mathlib.Omega.{arith}
use mathlib.Core.Bool.{Bool, true, false}
use lib.Dec.{eqb}
use Rattle.lists.specs.Rows.{choose}
use Rattle.fields.specs.Field.{put_field}
use Rattle.fields.proofs.Laws.{get_lt, put_keeps}
use Rattle.guest.specs.declared.Bank.{Bank}
use Rattle.banks.specs.Bank.{pending, is_edge, bit}

-- a VCPU's SGIs put into a word
pub low_put : (w v : ℕ) → w < 2 ^ 32 → v < 2 ^ 16 → put_field w 0 16 v < 2 ^ 32
low_put w v hw hv = put_keeps w 0 16 v 32 hw (omega arith) hv

-- pending is 0 or 1
pub pending_bit : (b : Bank) (i : ℕ) → pending b i ≤ 1
unfolding pending
pending_bit b i = by (is_edge b i) (eqb (bit b.latch i) 1)
  where
    by : (e l : Bool) → choose e (bit b.latch i) (choose l 1 (bit b.level i)) ≤ 1
    by true l = omega (arith, get_lt b.latch i 1)
    by false true = omega arith
    by false false = omega (arith, get_lt b.level i 1)
