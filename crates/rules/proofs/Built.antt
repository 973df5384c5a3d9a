-- The frames that stand, as the code puts them behind one another. Assumes nothing.
use Prim.Native.Nat.{ℕ, ◌*◌}
use mathlib.Core.Path.{◌≡◌}
use mathlib.Core.List.{List, [], ◌++◌, map}
use lib.ListN.{length}
use borrow.Author.Tests.{eq-eqb, ne_eqb}
use Rattle.areas.specs.declared.Area.{Area}
use Rattle.guest.specs.Machine.{Machine}
use Rattle.rules.specs.Standing.{placed, run_size, region_area, standing, others, distributor_size, redistributor_size, its_size}

module _ (m : Machine) where
  -- the bytes of the single run, after INIT and before
  pub run_whole : (n : ℕ) → m.control.init ≡ 1 → length m.vcpus ≡ n → redistributor_size * n ≡ run_size m
  run_whole n i e = rw (eq-eqb m.control.init 1 i, e)

  pub run_first : (m.control.init ≡ 1 → ⊥) → redistributor_size ≡ run_size m
  run_first n = rw (ne_eqb m.control.init 1 n)

  pub standing_built : (size : ℕ) (a b c d e : List Area) → size ≡ run_size m → a ≡ [] → b ≡ a ++ placed m.frames.distributor distributor_size
      → c ≡ b ++ placed m.frames.single size → d ≡ c ++ map region_area m.regions → e ≡ d ++ placed m.frames.its its_size → e ≡ standing m
  unfolding standing
  standing_built size a b c d e hs ha hb hc hd he = rw (he, hd, hc, hb, ha, hs)

  pub others_built : (a b c d : List Area) → a ≡ [] → b ≡ a ++ placed m.frames.distributor distributor_size
      → c ≡ b ++ map region_area m.regions → d ≡ c ++ placed m.frames.its its_size → d ≡ others m
  unfolding others
  others_built a b c d ha hb hc hd = rw (hd, hc, hb, ha)
