-- The routing run, computed. Assumes nothing.
use mathlib.Core.Path.{refl}
use Rattle.step.proofs.Computed.{computed}
use Rattle.step.specs.Routing.{Routing}

pub routing : Routing
unfolding computed
routing = refl
