-- `areas::strikes` meets its contract: std's search finds one where the first that is struck is a row of the table. Assumes nothing.
use mathlib.Core.Path.{◌∙◌}
use Rattle.lists.proofs.Searches.{any_found}
use Rattle.areas.specs.Area.{areas, overlaps, struck, strikes}
use Rattle.areas.proofs.strikes.Goals as goal

pub returns : goal.returns
unfolding strikes struck
returns c = rw c.as_slice.ensures at c.any_struck.ensures ∙ any_found (overlaps c.args.a) (areas c.args.t)
