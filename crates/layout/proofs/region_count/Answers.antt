-- `layout::region_count` meets its contract. Assumes nothing.
use mathlib.Core.Path.{◌∙◌}
use Rattle.layout.proofs.InPlace.{region_count}
use Rattle.layout.proofs.region_count.Goals as goal

pub returns : goal.returns
returns c = c.get64.ensures.is ∙ region_count _
