-- `restore::slots::walk` meets its contract. Assumes nothing.
use Prim.Native.Nat.{◌-◌, ◌/◌}
use mathlib.Core.Path.{◌≡◌}
use lib.ListN.{length}
use Rattle.tables.specs.Restored.{walk}
use Rattle.restore.specs.Both.{slots_of}
use Rattle.restore.proofs.Walk.{Walks}
use Rattle.restore.proofs.slots.walk.Given as goal

abbrev pub invariant-loop-s : goal.invariant-loop-s
invariant-loop-s g l =
    let T = g.T.Chained in
    (Walks T.device l.t (λ m. T.visits l.table m l.t) (λ m. walk (slots_of T.device l.t) (T.visits l.table m l.t)) l.initial.s l.at l.s) × (length l.s ≡ length l.initial.s)

abbrev pub decreases-loop-s : goal.decreases-loop-s
decreases-loop-s g l = length l.t / 8 - l.at
