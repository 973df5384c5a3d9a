-- `areas::overlaps` meets its contract: the difference of the starts against a size says whether the earlier area reaches the later
-- one. Assumes nothing.
use native.Mathlib.Omega.{arith}
use Rattle.areas.proofs.Differences.{first_reaches, first_short, second_reaches, second_short}
use Rattle.areas.proofs.overlaps.Goals as goal

pub returns-then-b-a : goal.returns-then-b-a
returns-then-b-a c = first_reaches _ _ (omega arith) (omega arith)

pub returns-else-b-a : goal.returns-else-b-a
returns-else-b-a c = first_short _ _ (omega arith) (omega arith)

pub returns-then-a-b-2 : goal.returns-then-a-b-2
returns-then-a-b-2 c = second_reaches _ _ (omega arith) (omega arith)

pub returns-else-a-b-2 : goal.returns-else-a-b-2
returns-else-a-b-2 c = second_short _ _ (omega arith) (omega arith)
