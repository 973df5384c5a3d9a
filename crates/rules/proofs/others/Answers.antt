-- `rules::others` meets its contract. Assumes nothing.
use native.Mathlib.Omega.{arith}
use Rattle.guest.specs.Machine.{view}
use Rattle.rules.proofs.Built.{others_built}
use Rattle.rules.proofs.others.Goals as goal

pub returns : goal.returns
returns c = (
  others_built (view c.args.g) _ _ _ _ c.none.ensures.0 c.with_frame-first.ensures.0 c.with_regions-second.ensures.0
      c.with_frame.ensures.0,
  omega (arith, c.requires.held.regions, c.none.ensures.1, c.with_frame-first.ensures.1, c.with_regions-second.ensures.1),
)
