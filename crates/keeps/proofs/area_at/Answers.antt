-- `keeps::area_at` meets its contract. Assumes nothing.
use Rattle.guest.specs.Machine.{no_region}
use Rattle.layout.specs.Layout.{decode}
use Rattle.rules.proofs.Rows.{count_small}
use Rattle.keeps.proofs.area_at.Goals as goal

pub region_area-requires : goal.region_area-requires
region_area-requires c =
    rw c.region_at.ensures (count_small (decode c.args.s.now).regions c.args.i no_region c.requires.in_bounds c.requires.counted.1)
