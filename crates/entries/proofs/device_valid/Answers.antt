-- `entries::device_valid` meets its contract. Assumes nothing.
use Rattle.entries.specs.Device.{is_device}
use Rattle.entries.proofs.device_valid.Goals as goal

pub returns : goal.returns
unfolding is_device
returns c = cc
