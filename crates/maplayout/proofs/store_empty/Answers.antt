-- `maplayout::store_empty` meets its contract. Assumes nothing.
use Rattle.maplayout.proofs.Added.{stored_empty}
use Rattle.maplayout.proofs.store_empty.Goals as goal

pub returns : goal.returns
returns c = stored_empty _ _ c.store_words.ensures
