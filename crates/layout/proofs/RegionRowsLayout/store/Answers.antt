use Rattle.layout.specs.Layout.{region_bytes}
use Rattle.layout.proofs.RegionRowsLayout.store.Goals as goal

pub returns : goal.returns
unfolding region_bytes
returns c = c.store_words.ensures
