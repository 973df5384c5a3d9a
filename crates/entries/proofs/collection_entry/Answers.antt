-- `entries::collection_entry` meets its contract. Assumes nothing.
use Rattle.entries.specs.Collection.{collection_of}
use Rattle.entries.proofs.collection_entry.Goals as goal

pub returns : goal.returns
unfolding collection_of
returns c = cc
