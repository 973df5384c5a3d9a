-- `areas::inside` meets its contract: differences of starts against sizes are ends against ends. Assumes nothing.
use native.Mathlib.Omega.{arith}
use Rattle.areas.proofs.Differences.{starts_before, starts_after, starts_within}
use Rattle.areas.proofs.inside.Goals as goal

pub returns-then-a-whole : goal.returns-then-a-whole
returns-then-a-whole c = starts_before _ _ (omega arith)

pub returns-then-before-whole : goal.returns-then-before-whole
returns-then-before-whole c = starts_within _ _ (omega arith) (omega arith)

pub returns-else-before-whole : goal.returns-else-before-whole
returns-else-before-whole c = starts_after _ _ (omega arith) (omega arith)
