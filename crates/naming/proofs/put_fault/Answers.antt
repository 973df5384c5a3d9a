-- `naming::put_fault` meets its contract. Assumes nothing.
use Prim.Native.Nat.{◌≤◌}
use native.Mathlib.Omega.{arith}
use mathlib.Core.Path.{refl, ap, ◌∙◌}
use lib.ListN.{length}
use Rattle.lines.proofs.Laws.{at_start}
use Rattle.naming.specs.Naming.{fault_text}
use Rattle.naming.proofs.Puts.{put_there}
use Rattle.naming.proofs.put_fault.Goals as goal

pub returns : goal.returns
returns c =
    let e = at_start c.new-text.ensures c.put_met.ensures ∙ ap fault_text c.fault_of.ensures in
    let m : length c.put_met.new.out.items ≤ 91 = omega (arith, c.put_met.ensures.most, ap length c.new-text.ensures) in
    rw (← e) (put_there _ _ _ _ _ _ _ c.requires m (omega (arith, c.len.ensures.value)) refl (c.copy_from_slice.ensures.after ∙ c.as_slice.ensures.value))
