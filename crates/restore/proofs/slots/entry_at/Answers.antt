-- `restore::slots::entry_at` meets its contract. Assumes nothing.
use Rattle.tables.specs.Bytes.{entry_at}
use Rattle.restore.proofs.slots.entry_at.Goals as goal

pub returns : goal.returns
unfolding entry_at
returns c = c.get64.ensures.is
