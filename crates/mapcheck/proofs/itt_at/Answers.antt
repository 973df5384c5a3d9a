-- `mapcheck::itt_at` meets its contract. Assumes nothing.
use Rattle.mapcheck.proofs.Verdicts.{bits_few}
use Rattle.mapcheck.proofs.itt_at.Goals as goal

pub device_at-requires : goal.device_at-requires
device_at-requires c = (c.requires.0.counted, c.requires.1)

pub itt_area-requires : goal.itt_area-requires
itt_area-requires c = bits_few _ _ c.requires.0.small c.requires.1 c.device_at.ensures
