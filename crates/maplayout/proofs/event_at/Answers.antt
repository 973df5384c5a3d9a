-- `maplayout::event_at` meets its contract. Assumes nothing.
use native.Mathlib.Omega.{arith}
use Rattle.maplayout.proofs.InPlace.{events_few, event_read}
use Rattle.maplayout.proofs.event_at.Goals as goal

pub row_at-requires : goal.row_at-requires
row_at-requires c = omega (arith, c.requires.1, events_few _ c.requires.0, c.requires.0.long)

pub returns : goal.returns
returns c = event_read _ _ _ c.requires.1 c.row_at.ensures
