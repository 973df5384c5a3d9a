-- §10.9: the numbers of docs/DEFINITION.md, call by call, for its parts 5 to 9, and the main run. Beside each call stand its answer and
-- what it leaves in the lent memory.
use Rattle.step.specs.Run.{Runs, unmade}
use Rattle.mapruns.specs.Mapping.{mapping}
use Rattle.mapruns.specs.Restoring.{restoring}
use Rattle.mapruns.specs.Main.{main}

pub record MapRuns : Type 0 where
  pub mapping : Runs mapping unmade
  pub restoring : Runs restoring unmade
  pub main : Runs main unmade
