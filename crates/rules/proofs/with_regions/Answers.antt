-- `rules::with_regions` meets its contract. The loop's invariant: the regions passed stand behind what stood. Assumes nothing.
use Rattle.rules.proofs.Rows.{no_region, count_small}
use Rattle.rules.proofs.with_regions.Goals as goal

pub region_area-requires : goal.region_area-requires
region_area-requires c = count_small _ _ no_region c.loop-row-test.true c.requires.2
