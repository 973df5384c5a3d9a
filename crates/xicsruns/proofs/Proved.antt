-- The runs, computed. Assumes nothing.
use mathlib.Core.Path.{◌≡◌, refl}
use mathlib.Core.List.{◌++◌}
use Rattle.xicsruns.specs.XicsRun.{XicsRuns, after, zeros, ones, unmade}
use Rattle.xicsruns.specs.Registering.{wrong_length, not_sound, registering, from_zeros, many, last, limits, made, made_of}
use Rattle.xicsruns.specs.Broken.{Broken}
use Rattle.xicsruns.specs.Words.{registered, sources, servers}
use Rattle.xicsruns.specs.Delivering.{delivering}
use Rattle.xicsruns.specs.XicsRuns.{AllXicsRuns}
use Rattle.xicsruns.proofs.Computed.{computed}

by_short : XicsRuns wrong_length (zeros 2063)
unfolding computed
by_short = refl

by_over : XicsRuns wrong_length (zeros 2065)
unfolding computed
by_over = refl

by_short_broken : XicsRuns wrong_length (ones 2063)
unfolding computed
by_short_broken = refl

by_over_broken : XicsRuns wrong_length (ones 2065)
unfolding computed
by_over_broken = refl

by_broken : Broken
unfolding computed
by_broken = record {
  sound = refl;
  server_number = refl;
  server_twice = refl;
  lowest = refl;
  bit15 = refl;
  no_priority = refl;
  no_source = refl;
  source_number = refl;
  source_twice = refl;
  bit43 = refl;
  destination = refl;
  servers = refl;
  sources = refl;
}

by_zeros : XicsRuns from_zeros (zeros 2064)
unfolding computed
by_zeros = refl

by_registering : XicsRuns (not_sound ++ registering) unmade
unfolding computed
by_registering = refl

by_last : XicsRuns last (many 63 62)
unfolding computed
by_last = refl

by_limits : XicsRuns limits (many 64 64)
unfolding computed
by_limits = refl

by_made : XicsRuns made unmade
unfolding computed
by_made = refl

by_bytes : after made unmade ≡ made_of
unfolding computed
by_bytes = refl

by_sources : XicsRuns (registered ++ sources) unmade
unfolding computed
by_sources = refl

by_servers : XicsRuns (registered ++ servers) unmade
unfolding computed
by_servers = refl

by_delivering : XicsRuns (registered ++ delivering) unmade
unfolding computed
by_delivering = refl

pub xics_runs : AllXicsRuns
xics_runs = record {
  lengths = (by_short, by_over, by_short_broken, by_over_broken);
  broken = by_broken;
  zeros = by_zeros;
  registering = by_registering;
  last = by_last;
  limits = by_limits;
  made = (by_made, by_bytes);
  sources = by_sources;
  servers = by_servers;
  delivering = by_delivering;
}
