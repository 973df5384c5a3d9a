-- `banks::trimmed` meets its contract: a field of each word. Assumes nothing.
use Rattle.banks.specs.Bank.{trimmed}
use Rattle.banks.proofs.trimmed.Goals as goal

pub returns : goal.returns
unfolding trimmed
returns c = rw (c.field_get.ensures, c.field_get-2.ensures, c.field_get-3.ensures)
