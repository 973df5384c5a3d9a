-- `banks::raise` meets its contract: the latch is put, the other two words stay. Assumes nothing.
use Rattle.banks.specs.Bank.{raised}
use Rattle.banks.proofs.raise.Goals as goal

pub returns : goal.returns
unfolding raised
returns c = rw c.field_put-b.ensures
