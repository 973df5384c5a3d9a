-- `maplayout::add_event` meets its contract. Assumes nothing.
use Rattle.maplayout.proofs.Added.{event_puts}
use Rattle.maplayout.proofs.add_event.Goals as goal

pub returns : goal.returns
returns c =
    event_puts _ _ _ _ _ c.event_count-n.ensures c.put_row.ensures c.put64.ensures
