-- A restore reads the same, with the cap and without it, from every memory. Assumes nothing.
use Prim.Native.Nat.{ℕ, zero, suc, ◌/◌, ◌^◌, ◌≤◌}
use native.Mathlib.Omega.{arith}
use mathlib.Core.Path.{◌≡◌, refl, ap, ◌∙◌, fun_ext}
use mathlib.Core.Bool.{Bool}
use mathlib.Core.List.{List}
use lib.ListN.{length, length-take}
use lib.Pow.{pow_mono}
use borrow.Author.Tests.{ltb-false}
use Rattle.lists.proofs.All.{more}
use Rattle.guest.specs.Machine.{Machine}
use Rattle.mapping.specs.declared.Device.{Device}
use Rattle.mapping.specs.Mapped.{Mapped, empty}
use Rattle.chains.specs.Slots.{Slots, first_from, following, Path, onward, path}
use Rattle.tables.specs.Bytes.{area_bytes, device_at, device_table, collection_table, itt_table, device_slots, event_slots}
use Rattle.tables.specs.Fault.{at_device}
use Rattle.tables.specs.Restored.{Out, and_then, walk, read_collections, visit_event, read_events, device_tests, put_device, visit_device, read_devices, restored}
use Rattle.described.proofs.Tried.{Passed, tried_same}
use Rattle.eventcap.proofs.Capped.{device_limit, event_limit, capped_following, capped_path, capped_walk, capped_events, capped_visit, capped_devices, capped_restored}
use Rattle.eventcap.proofs.Ways.{device_ways, event_ways}

-- what leads the same way is walked the same way
module _ (cap : ℕ) (T : Slots) (ways : (i : ℕ) → capped_following cap T i ≡ following T i) where
  path_same : (fuel i : ℕ) → capped_path cap T fuel i ≡ path T fuel i
  unfolding capped_path path
  path_same zero i = refl
  path_same (suc fuel) i = rw (ways i) (ap (λ (rest : ℕ → Path). onward i rest (following T i)) (fun_ext (λ j. path_same fuel j)))

  walk_same : (v : Bool → ℕ → Mapped → Out) (k : Mapped) → capped_walk cap T v k ≡ walk T v k
  unfolding capped_walk walk
  walk_same v k = rw (path_same T.size (first_from T 0))

-- the ITT of a device has at most 65,536 entries, however much of it is in memory
pub itt_few : (m : Machine) (mem : List ℕ) (d : Device) → d.bits ≤ 16 → length (itt_table m mem d) / 8 ≤ 65536
unfolding area_bytes
itt_few m mem d h =
    let p : 2 ^ d.bits ≤ 2 ^ 16 = pow_mono h in
    simp length-take (omega arith)

events_same : (t : List ℕ) → length t / 8 ≤ 65536 → (id : ℕ) (k : Mapped) → capped_events t id k ≡ read_events t id k
unfolding capped_events read_events
events_same t few id k = walk_same event_limit (event_slots t) (event_ways t few) (visit_event t id) k

-- size is tested before the events are read
visit_same : (m : Machine) (mem t : List ℕ) (good : Bool) (i : ℕ) (k : Mapped) → capped_visit m mem t good i k ≡ visit_device m mem t good i k
unfolding capped_visit visit_device
visit_same m mem t good i k =
    let u = itt_table m mem d in
    tried_same (at_device i) (device_tests good m d k) (capped_events u i (put_device d k)) (read_events u i (put_device d k))
    (λ a. events_same u (itt_few m mem d (most a)) i (put_device d k))
  where
    d : Device
    d = device_at t i

    most : Passed (device_tests good m d k) → d.bits ≤ 16
    most (more a (more b r)) = ltb-false 16 d.bits b

module _ (m : Machine) (mem : List ℕ) where
  devices_same : (k : Mapped) → capped_devices m mem k ≡ read_devices m mem k
  unfolding capped_devices read_devices
  devices_same k =
      let t = device_table m mem in
      walk_same device_limit (device_slots t) (device_ways t) (capped_visit m mem t) k
      ∙ ap (λ (v : Bool → ℕ → Mapped → Out). walk (device_slots t) v k)
      (fun_ext (λ good. fun_ext (λ i. fun_ext (λ h. visit_same m mem t good i h))))

  pub restored_same : capped_restored m mem ≡ restored m mem
  unfolding capped_restored restored
  restored_same =
      let t = collection_table m mem in
      ap (and_then (read_collections m t (length t / 8) 0 empty)) (fun_ext devices_same)
