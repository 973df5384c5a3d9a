-- `entries::event_valid` meets its contract. Assumes nothing.
use Rattle.entries.specs.Event.{is_event}
use Rattle.entries.proofs.event_valid.Goals as goal

pub returns : goal.returns
unfolding is_event
returns c = cc
