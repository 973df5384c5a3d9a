-- Where a bank stands: a row in use is within its array, and the spot of a good VCPU and INTID stands.
use Prim.Native.Nat.{ℕ, ◌<◌, ◌-◌, ◌/◌}
use native.Mathlib.Omega.{arith}
use mathlib.Core.Path.{◌≡◌, refl}
use mathlib.Core.Bool.{Bool, true, false}
use lib.ListN.{length}
use lib.Dec.{ltb}
use lib.Seq.{length-take-le}
use borrow.Author.Tests.{ltb-true}
use Rattle.lists.specs.Rows.{choose}
use Rattle.guest.specs.declared.Guest.{Guest}
use Rattle.guest.specs.Machine.{Machine, view, Held}
use Rattle.irqs.specs.declared.Spot.TheVariants.{Own, Shared, Absent}
use Rattle.irqs.specs.Spots.{shared_spot, spot_of, Stands}
use Rattle.irqs.proofs.Lists.{row_lt}

module _ (g : Guest) (h : Held g) (k : ℕ) where
  pub vcpu_within : k < length (view g).vcpus → k < 64
  vcpu_within i = omega (arith, row_lt g.vcpus.count g.vcpus.rows k i, h.vcpus)

  pub shared_within : k < length (view g).shared → k < 31
  shared_within i = omega (arith, row_lt g.shared.count g.shared.rows k i, h.shared)

-- the code's counts are the lengths
module _ (g : Guest) (h : Held g) where
  pub vcpus_count : length g.vcpus.rows ≡ 64 → length (view g).vcpus ≡ g.vcpus.count
  vcpus_count e = length-take-le g.vcpus.count g.vcpus.rows (omega (arith, h.vcpus))

  pub shared_count_lem : length g.shared.rows ≡ 31 → length (view g).shared ≡ g.shared.count
  shared_count_lem e = length-take-le g.shared.count g.shared.rows (omega (arith, h.shared))

module _ (m : Machine) where
  pub shared_stands : (n : ℕ) → Stands (shared_spot n m) m
  unfolding shared_spot
  shared_stands n = by (ltb (n - 1) (length m.shared)) refl
    where
      by : (b : Bool) → ltb (n - 1) (length m.shared) ≡ b → Stands (choose b (Shared (n - 1)) Absent) m
      by true e = ltb-true (n - 1) (length m.shared) e
      by false e = tt

  pub spot_stands : (k intid : ℕ) → k < length m.vcpus → Stands (spot_of k intid m) m
  unfolding spot_of
  spot_stands k intid h = by (ltb intid 32)
    where
      by : (b : Bool) → Stands (choose b (Own k) (shared_spot (intid / 32) m)) m
      by true = h
      by false = shared_stands (intid / 32)
