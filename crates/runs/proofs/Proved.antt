-- The runs, computed. Assumes nothing.
use mathlib.Core.Path.{refl}
use mathlib.Core.List.{◌++◌}
use Rattle.step.specs.Run.{Runs, zeros, unmade}
use Rattle.step.proofs.Computed.{computed}
use Rattle.runs.specs.Opening.{wrong_length, no_guest, setting_up}
use Rattle.runs.specs.Order.{order}
use Rattle.runs.specs.Frames.{frames}
use Rattle.runs.specs.Banks.{banks}
use Rattle.runs.specs.Limits.{limits}
use Rattle.runs.specs.Broken.{Broken}
use Rattle.runs.specs.Former.{Former}
use Rattle.runs.specs.Runs.{GuestRuns}

by_short : Runs wrong_length (zeros 11399)
unfolding computed
by_short = refl

by_over : Runs wrong_length (zeros 11401)
unfolding computed
by_over = refl

by_fresh : Runs (no_guest ++ setting_up) unmade
unfolding computed
by_fresh = refl

by_order : Runs order unmade
unfolding computed
by_order = refl

by_frames : Runs frames unmade
unfolding computed
by_frames = refl

by_banks : Runs banks unmade
unfolding computed
by_banks = refl

by_limits : Runs limits unmade
unfolding computed
by_limits = refl

by_broken : Broken
unfolding computed
by_broken = record {
  latch = (refl, refl);
  level = (refl, refl);
  trigger = (refl, refl);
  before = refl;
  status = (refl, refl);
  own = (refl, refl, refl, refl, refl);
  own_later = (refl, refl, refl, refl);
  shared = (refl, refl, refl, refl);
  shared_later = (refl, refl, refl, refl);
  behind = (refl, refl, refl);
}

by_former : Former
unfolding computed
by_former = record { kept = refl; later = refl; set = refl; another = refl; again = refl; others = (refl, refl, refl, refl, refl) }

pub guest_runs : GuestRuns
guest_runs = record {
  lengths = (by_short, by_over);
  fresh = by_fresh;
  order = by_order;
  frames = by_frames;
  banks = by_banks;
  limits = by_limits;
  broken = by_broken;
  former = by_former;
}
