-- The runs, computed. Assumes nothing.
use mathlib.Core.Path.{refl}
use Rattle.step.specs.Run.{Runs, unmade}
use Rattle.step.proofs.Computed.{computed}
use Rattle.limitruns.specs.Limits.{map_limit, restored_devices, event_limit, explained_events, LimitRuns}

by-map_limit : Runs map_limit unmade
unfolding computed
by-map_limit = refl

by-restored_devices : Runs restored_devices unmade
unfolding computed
by-restored_devices = refl

by-event_limit : Runs event_limit unmade
unfolding computed
by-event_limit = refl

by-explained_events : Runs explained_events unmade
unfolding computed
by-explained_events = refl

pub limit_runs : LimitRuns
limit_runs = record { commands = by-map_limit; devices = by-restored_devices; events = by-event_limit; explained = by-explained_events }
