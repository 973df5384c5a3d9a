-- `areas::ends_by` meets its contract: a size against what is left up to the limit is an end against the limit. Assumes nothing.
use native.Mathlib.Omega.{arith}
use Rattle.areas.proofs.Differences.{ends_low, ends_high}
use Rattle.areas.proofs.ends_by.Goals as goal

pub returns-then-a-limit : goal.returns-then-a-limit
returns-then-a-limit c = ends_low _ _ (omega arith)

pub returns-else-a-limit : goal.returns-else-a-limit
returns-else-a-limit c = ends_high _ _ (omega arith)
