-- From what the code did to what a command's definition says. Assumes nothing.
use Prim.Native.Nat.{ℕ, zero, suc, ◌<◌, ◌≤◌}
use mathlib.Core.Path.{◌≡◌, ap}
use mathlib.Core.List.{List, [], ◌∷◌}
use native.Mathlib.Omega.{arith}
use Rattle.std.specs.Prelude.{Ok}
use mathlib.Core.Bool.{Bool, true, false, ◌&&◌}
use lib.Dec.{ltb}
use lib.ListN.{length, get_or, set, take}
use lib.Seq.{length-take-le}
use borrow.Author.Tests.{lt-ltb, le-ltb}
use Rattle.lists.proofs.Find.{row_le}
use Rattle.lists.specs.Rows.{find_ix}
use Rattle.mapping.specs.declared.Mapping.{Mapping}
use Rattle.mapping.specs.Mapped.{no_event, Mapped, Maps, Holds, refuse, accept}
use Rattle.mapping.specs.Commands.{move, has_event, has_collection, index_of_event, moved_to, with_events}

-- a command that is done, with a struct that holds the rows it comes to
pub accepts : {k next : Mapped} {o : Mapping} → Holds o next → Maps k (Ok o) (accept next)
accepts h = record { is = ap accept h.is; within = h.within }

-- a search among the first n of an array: it ended before n, at a row, or at n
module _ {A : Type 0} (p : A → Bool) (n : ℕ) (l : List A) (r : n ≤ length l) where
  pub stands : find_ix p (take n l) < n → ltb (find_ix p (take n l)) (length (take n l)) ≡ true
  stands h = rw (length-take-le n l r) (lt-ltb _ n h)

  pub absent : n ≤ find_ix p (take n l) → ltb (find_ix p (take n l)) (length (take n l)) ≡ false
  absent h = rw (length-take-le n l r) (le-ltb _ n h)

-- a place among the first n of an array
pub place_le : {A : Type 0} (p : A → Bool) (n : ℕ) (l : List A) → find_ix p (take n l) ≤ n
unfolding find_ix
place_le p zero [] = omega arith
place_le p (suc n) [] = omega arith
place_le p n (x ∷ xs) = row_le p x n (x ∷ xs)

-- what the code knows of a search, an index or the number of rows
pub ruleset searches = (stands, absent, place_le)

-- a move, where its event and its collection stand, and where one of them does not
module _ (device event icid : ℕ) (k : Mapped) where
  pub moved : has_event device event k ≡ true → has_collection icid k ≡ true → move device event icid k
      ≡ accept (with_events (set k.events (index_of_event device event k) (moved_to icid (get_or k.events (index_of_event device event k) no_event))) k)
  unfolding move
  moved e c = rw (e, c)

  pub unmoved : (has_event device event k && has_collection icid k) ≡ false → move device event icid k ≡ refuse k 2
  unfolding move
  unmoved h = rw h
