-- `maplayout::collection_at` meets its contract. Assumes nothing.
use native.Mathlib.Omega.{arith}
use Rattle.maplayout.proofs.InPlace.{collections_few, collection_read}
use Rattle.maplayout.proofs.collection_at.Goals as goal

pub row_at-requires : goal.row_at-requires
row_at-requires c = omega (arith, c.requires.1, collections_few _ c.requires.0, c.requires.0.long)

pub returns : goal.returns
returns c = collection_read _ _ _ c.requires.1 c.row_at.ensures
