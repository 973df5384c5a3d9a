-- `entries::collection_valid` meets its contract. Assumes nothing.
use Rattle.entries.specs.Collection.{is_collection}
use Rattle.entries.proofs.collection_valid.Goals as goal

pub returns : goal.returns
unfolding is_collection
returns c = cc
