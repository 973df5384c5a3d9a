-- `naming::put_met` meets its contract. Assumes nothing.
use native.Mathlib.Omega.{arith}
use mathlib.Core.List.{append_assoc}
use Rattle.lines.proofs.Laws.{adds_as, adds_both}
use Rattle.naming.specs.Naming.{fault_text}
use Rattle.naming.proofs.put_met.Goals as goal

pub returns : goal.returns
unfolding fault_text
returns g c =
    adds_as (adds_both (adds_both c.put_place.ensures c.put_text.ensures) c.put_text-2.ensures)
    (rw c.name.ensures.0 (simp append_assoc)) (omega arith)
