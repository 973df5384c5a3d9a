-- Areas inside memory, and their bytes. Assumes nothing.
use Prim.Native.Nat.{ℕ, ◌+◌, ◌-◌, ◌≤◌}
use native.Mathlib.Omega.{arith}
use mathlib.Core.Path.{◌≡◌}
use mathlib.Core.Bool.{true}
use mathlib.Core.List.{List, [], ◌∷◌}
use lib.ListN.{take, drop}
use lib.Dec.{leb}
use borrow.Author.Tests.{leb-true}
use Rattle.areas.specs.declared.Area.{Area}
use Rattle.areas.specs.Area.{inside, end_of}
use Rattle.areas.proofs.Tests.{split}

pub record Inside (w a : Area) : Type 0 where
  pub from : w.start ≤ a.start
  pub upto : a.start + a.size ≤ w.start + w.size

pub inside_says : (w a : Area) → inside w a ≡ true → Inside w a
unfolding inside
inside_says w a e =
    let p = split (leb w.start a.start) (leb (end_of a) (end_of w) ∷ []) e in
    record { from = leb-true w.start a.start p.0; upto = leb-true (end_of a) (end_of w) p.1 }

-- the part from x on that is z long
pub part_is : {A : Type 0} (x z : ℕ) (l : List A) → take (x + z - x) (drop x l) ≡ take z (drop x l)
part_is x z l = let e : x + z - x ≡ z = omega arith in rw e
