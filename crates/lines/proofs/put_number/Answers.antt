-- `lines::put_number` meets its contract. Assumes nothing.
use native.Mathlib.Omega.{arith}
use mathlib.Core.List.{append_assoc}
use Rattle.lines.proofs.Laws.{adds_both, adds_as}
use Rattle.lines.proofs.put_number.Goals as goal

pub returns : goal.returns
returns g c =
    adds_as (adds_both c.put_text.ensures c.put_decimal.ensures) (simp append_assoc) (omega arith)
