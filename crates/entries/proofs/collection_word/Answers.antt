-- `entries::collection_word` meets its contract. Assumes nothing.
use Rattle.entries.specs.Collection.{collection_word}
use Rattle.entries.proofs.collection_word.Goals as goal

pub returns : goal.returns
unfolding collection_word
returns c = cc
