-- `entries::event_entry` meets its contract. Assumes nothing.
use Rattle.entries.specs.Event.{event_of}
use Rattle.entries.proofs.event_entry.Goals as goal

pub returns : goal.returns
unfolding event_of
returns c = cc
