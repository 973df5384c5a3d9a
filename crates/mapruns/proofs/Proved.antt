-- The runs, computed. Assumes nothing.
use mathlib.Core.Path.{refl}
use Rattle.step.specs.Run.{Runs, unmade}
use Rattle.step.proofs.Computed.{computed}
use Rattle.mapruns.specs.Mapping.{mapping}
use Rattle.mapruns.specs.Restoring.{restoring}
use Rattle.mapruns.specs.Main.{main}
use Rattle.mapruns.specs.Runs.{MapRuns}

by_mapping : Runs mapping unmade
unfolding computed
by_mapping = refl

by_restoring : Runs restoring unmade
unfolding computed
by_restoring = refl

by_main : Runs main unmade
unfolding computed
by_main = refl

pub map_runs : MapRuns
map_runs = record {
  mapping = by_mapping;
  restoring = by_restoring;
  main = by_main;
}
