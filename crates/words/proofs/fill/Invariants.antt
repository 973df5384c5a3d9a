use Prim.Native.Nat.{◌-◌}
use mathlib.Core.Path.{◌≡◌}
use mathlib.Core.List.{◌++◌}
use lib.ListN.{length, take}
use Rattle.words.specs.Words.{bytes_of}
use Rattle.words.proofs.fill.Given as goal

abbrev pub invariant-loop-b : goal.invariant-loop-b
invariant-loop-b l =
    (length l.s ≡ length l.initial.s) × (take l.b-index l.s ++ bytes_of (length l.initial.s - l.b-index) l.rest ≡ bytes_of (length l.initial.s) l.v)
