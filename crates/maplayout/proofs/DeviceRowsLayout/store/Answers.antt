use Rattle.maplayout.specs.MapLayout.{device_bytes}
use Rattle.maplayout.proofs.DeviceRowsLayout.store.Goals as goal

pub returns : goal.returns
unfolding device_bytes
returns c = c.store_words.ensures
