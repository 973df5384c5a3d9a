-- `restore::places::meets_itt` meets its contract. Assumes nothing.
use Rattle.restore.proofs.Searches.{bits_few}
use Rattle.restore.proofs.places.meets_itt.Goals as goal

pub itt_area-requires : goal.itt_area-requires
itt_area-requires c = bits_few _ c.args.i c.requires.2 c.requires.1 _ c.device_at.ensures
