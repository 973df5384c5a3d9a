-- The run, computed. Assumes nothing.
use mathlib.Core.Path.{refl}
use Rattle.step.proofs.Computed.{computed}
use Rattle.faultruns.specs.Explaining.{FaultRuns}

pub fault_runs : FaultRuns
unfolding computed
fault_runs = refl
