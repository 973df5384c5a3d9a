-- `layout::vcpu_at` meets its contract. Assumes nothing.
use native.Mathlib.Omega.{arith}
use Rattle.layout.proofs.InPlace.{vcpus_few, vcpu_read}
use Rattle.layout.proofs.vcpu_at.Goals as goal

pub row_at-requires : goal.row_at-requires
row_at-requires c = omega (arith, c.requires.1, vcpus_few _ c.requires.0, c.requires.0.long)

pub returns : goal.returns
returns c = vcpu_read _ _ _ c.requires.1 c.row_at.ensures
