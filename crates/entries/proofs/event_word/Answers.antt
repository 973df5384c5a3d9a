-- `entries::event_word` meets its contract. Assumes nothing.
use Rattle.entries.specs.Event.{event_word}
use Rattle.entries.proofs.event_word.Goals as goal

pub returns : goal.returns
unfolding event_word
returns c = cc
