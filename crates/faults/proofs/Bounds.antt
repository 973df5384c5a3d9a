-- The device and the entry of a fault that is there are below 65,536 (§13.6). Assumes nothing.
use Prim.Native.Nat.{ℕ, ◌≤◌, ◌<◌}
use native.Mathlib.Omega.{arith}
use mathlib.Core.Path.{◌≡◌}
use mathlib.Core.Bool.{true}
use mathlib.Core.List.{List}
use lib.ListN.{length, length-take}
use lib.Pow.{pow_mono}
use Rattle.areas.specs.declared.Area.{Area}
use Rattle.guest.specs.Machine.{Machine}
use Rattle.rules.specs.Rules.{rules, table_area}
use Rattle.rules.proofs.Facts.{sound_devices, sound_collections}
use Rattle.tables.specs.Bytes.{area_bytes, device_slots, event_slots}
use Rattle.tables.specs.Fault.{Fault, Indexed}
use Rattle.faults.specs.FaultAt.{Ahead, itt_in, device_links, event_links, ReadItt, FaultAt, in_collections, in_devices, in_itt}
use Rattle.faults.proofs.Along.{ahead_inside}

module _ (m : Machine) (mem : List ℕ) where
  bytes_most : (a : Area) → length (area_bytes m mem a) ≤ a.size
  unfolding area_bytes
  bytes_most a = simp length-take (omega arith)

  module _ (r : rules m ≡ true) where
    device_below : (ids : List ℕ) (d : ℕ) → Ahead (device_links m mem) ids d → d < 65536
    unfolding device_slots
    device_below ids d a =
        omega (arith, ahead_inside (device_links m mem) ids d a, bytes_most (table_area m.tables.devices), (sound_devices m r).most)

    event_below : (d : ℕ) (es : List ℕ) (e : ℕ) → ReadItt m mem d → Ahead (event_links m mem d) es e → e < 65536
    unfolding event_slots
    event_below d es e o a = let p = pow_mono o.bits in omega (arith, ahead_inside (event_links m mem d) es e a, bytes_most (itt_in m mem d))

    pub fault_small : (f : Fault) → FaultAt m mem f → Indexed f.place
    fault_small f (in_collections i c x y) = omega (arith, x.inside, bytes_most (table_area m.tables.collections), (sound_collections m r).most)
    fault_small f (in_devices ids d c a x) = device_below ids d a
    fault_small f (in_itt ids d es e c a o b x) = (omega (arith, device_below ids d a), event_below d es e o b)
