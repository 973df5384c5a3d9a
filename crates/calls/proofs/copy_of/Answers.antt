-- `calls::copy_of` meets its contract. Assumes nothing.
use Prim.Native.Nat.{ℕ}
use native.Mathlib.Omega.{arith}
use mathlib.Core.Path.{sym, ◌∙◌}
use lib.ListN.{length-replicate}
use lib.Seq.{take_all, length-take-le}
use Rattle.calls.proofs.copy_of.Goals as goal

pub slice_bounds-copy_from_slice-end-2 : goal.slice_bounds-copy_from_slice-end-2
slice_bounds-copy_from_slice-end-2 c = sym (length-take-le 11400 _ (omega (arith, c.requires)))

pub copy_from_slice-requires : goal.copy_from_slice-requires
copy_from_slice-requires c = length-replicate {A = ℕ} 11400 0 ∙ sym (length-take-le 11400 _ (omega (arith, c.requires)))

pub returns : goal.returns
returns c = c.copy_from_slice.ensures.after ∙ take_all 11400 _ (omega (arith, c.requires))
