-- `maplayout::add_device` meets its contract. Assumes nothing.
use Rattle.maplayout.proofs.Added.{device_puts}
use Rattle.maplayout.proofs.add_device.Goals as goal

pub returns : goal.returns
returns c =
    device_puts _ _ _ _ _ c.device_count-n.ensures c.put_row.ensures c.put64.ensures
