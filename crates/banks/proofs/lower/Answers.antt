-- `banks::lower` meets its contract: the latch is put, the other two words stay. Assumes nothing.
use Rattle.banks.specs.Bank.{lowered}
use Rattle.banks.proofs.lower.Goals as goal

pub returns : goal.returns
unfolding lowered
returns c = rw c.field_put-b.ensures
