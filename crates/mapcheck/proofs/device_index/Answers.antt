-- `mapcheck::device_index` meets its contract. Assumes nothing.
use native.Mathlib.Omega.{arith}
use Rattle.mapcheck.proofs.Verdicts.{row_sought}
use Rattle.mapcheck.proofs.device_index.Goals as goal

pub returns-then-device_at-id : goal.returns-then-device_at-id
returns-then-device_at-id c =
    row_sought _ _ _ c.requires.1 (omega (arith, c.device_count.ensures, c.if-likely-device_count.true)) c.device_at.ensures c.if-device_at-id.true
