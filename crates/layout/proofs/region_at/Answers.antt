-- `layout::region_at` meets its contract. Assumes nothing.
use native.Mathlib.Omega.{arith}
use Rattle.layout.proofs.InPlace.{regions_few, region_read}
use Rattle.layout.proofs.region_at.Goals as goal

pub row_at-requires : goal.row_at-requires
row_at-requires c = omega (arith, c.requires.1, regions_few _ c.requires.0, c.requires.0.long)

pub returns : goal.returns
returns c = region_read _ _ _ c.requires.1 c.row_at.ensures
