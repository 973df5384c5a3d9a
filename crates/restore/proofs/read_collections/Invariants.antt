-- `restore::read_collections` meets its contract. Assumes nothing.
use Prim.Native.Nat.{◌/◌}
use lib.ListN.{length}
use Rattle.restore.proofs.Collections.{Reading}
use Rattle.restore.proofs.read_collections.Given as goal

abbrev pub invariant-loop-i : goal.invariant-loop-i
invariant-loop-i l = Reading l.t l.initial.s (length l.t / 8) l.i l.s
