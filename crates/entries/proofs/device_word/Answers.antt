-- `entries::device_word` meets its contract. Assumes nothing.
use Rattle.entries.specs.Device.{device_word}
use Rattle.entries.proofs.device_word.Goals as goal

pub returns : goal.returns
unfolding device_word
returns c = cc
