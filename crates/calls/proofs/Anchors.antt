-- RESET (§5.14) by what it does to a box, not by how it is defined: what it refuses, what it leaves, and what answers -6 after it.
-- Assumes nothing.
use Prim.Native.Nat.{ℕ}
use mathlib.Core.Path.{◌≡◌, refl}
use mathlib.Core.List.{[]}
use borrow.Author.Tests.{eq-eqb, ne_eqb}
use Rattle.guest.specs.Machine.{Machine}
use Rattle.mapping.specs.Mapped.{Mapped}
use Rattle.calls.specs.declared.Command.{Command}
use Rattle.calls.specs.declared.Command.TheVariants.{MapDevice, UnmapDevice, MapCollection, UnmapCollection, MapEvent, Discard, Move, Reset}
use Rattle.calls.specs.Commands.{BoxResult, refuse_box, reset, on_mapping, command_step, lookup_step, memory_fault}

-- an accepted RESET: no row of the mapping, no table placed, every other part of the guest as it was, the ITS's INIT mark with it
pub record Emptied (m : Machine) (r : BoxResult) : Type 0 where
  pub accepted : r.errno ≡ 0
  pub collections : r.next.mapped.collections ≡ []
  pub devices : r.next.mapped.devices ≡ []
  pub events : r.next.mapped.events ≡ []
  pub device_table : r.next.machine.tables.devices.set ≡ 0
  pub collection_table : r.next.machine.tables.collections.set ≡ 0
  pub memory : r.next.machine.memory ≡ m.memory
  pub control : r.next.machine.control ≡ m.control
  pub frames : r.next.machine.frames ≡ m.frames
  pub regions : r.next.machine.regions ≡ m.regions
  pub vcpus : r.next.machine.vcpus ≡ m.vcpus
  pub shared : r.next.machine.shared ≡ m.shared

module _ (m : Machine) (k : Mapped) where
  -- the width of the value, then INIT of the ITS, then running; the tables need not be placed
  pub reset_wide : (width : ℕ) → (width ≡ 0 → ⊥) → command_step (Reset width) m k ≡ refuse_box m k 14
  unfolding reset
  reset_wide width n = rw (ne_eqb width 0 n)

  pub reset_uninitialised : (m.control.itsinit ≡ 1 → ⊥) → command_step (Reset 0) m k ≡ refuse_box m k 6
  unfolding reset
  reset_uninitialised n = rw (ne_eqb m.control.itsinit 1 n)

  module _ (i : m.control.itsinit ≡ 1) where
    pub reset_busy : m.control.running ≡ 1 → command_step (Reset 0) m k ≡ refuse_box m k 16
    unfolding reset
    reset_busy u = rw (eq-eqb m.control.itsinit 1 i, eq-eqb m.control.running 1 u)

    pub reset_empties : (m.control.running ≡ 1 → ⊥) → Emptied m (command_step (Reset 0) m k)
    unfolding reset
    reset_empties n =
        rw (eq-eqb m.control.itsinit 1 i, ne_eqb m.control.running 1 n)
        (record {
          accepted = refl;
          collections = refl;
          devices = refl;
          events = refl;
          device_table = refl;
          collection_table = refl;
          memory = refl;
          control = refl;
          frames = refl;
          regions = refl;
          vcpus = refl;
          shared = refl;
        })

-- the mapping commands, which need the tables placed
pub data Maps : Command → Type 0 where
  maps_device : (id itt bits : ℕ) → Maps (MapDevice id itt bits)
  unmaps_device : (id : ℕ) → Maps (UnmapDevice id)
  maps_collection : (icid pe : ℕ) → Maps (MapCollection icid pe)
  unmaps_collection : (icid : ℕ) → Maps (UnmapCollection icid)
  maps_event : (device event lpi icid : ℕ) → Maps (MapEvent device event lpi icid)
  discards : (device event : ℕ) → Maps (Discard device event)
  moves : (device event icid : ℕ) → Maps (Move device event icid)

-- with no device table placed every mapping command, lookup, save and restore is refused with 6
module _ (m : Machine) (k : Mapped) (t : m.tables.devices.set ≡ 0) (i : m.control.itsinit ≡ 1) where
  pub unplaced_maps : (c : Command) → Maps c → command_step c m k ≡ refuse_box m k 6
  unfolding on_mapping
  unplaced_maps c (maps_device id itt bits) = rw (i, t)
  unplaced_maps c (unmaps_device id) = rw (i, t)
  unplaced_maps c (maps_collection icid pe) = rw (i, t)
  unplaced_maps c (unmaps_collection icid) = rw (i, t)
  unplaced_maps c (maps_event device event lpi icid) = rw (i, t)
  unplaced_maps c (discards device event) = rw (i, t)
  unplaced_maps c (moves device event icid) = rw (i, t)

  pub unplaced_lookup : (device event : ℕ) → (lookup_step device event m k).errno ≡ 6
  unfolding lookup_step
  unplaced_lookup device event = rw (i, t)

  pub unplaced_memory : memory_fault m.memory.length m ≡ 6
  unfolding memory_fault
  unplaced_memory = rw (eq-eqb m.memory.length m.memory.length refl, i, t)

-- so they are after a RESET
pub record Refusing (r : BoxResult) : Type 0 where
  pub maps : (c : Command) → Maps c → command_step c r.next.machine r.next.mapped ≡ refuse_box r.next.machine r.next.mapped 6
  pub lookups : (device event : ℕ) → (lookup_step device event r.next.machine r.next.mapped).errno ≡ 6
  pub memories : memory_fault r.next.machine.memory.length r.next.machine ≡ 6

pub after_reset : (m : Machine) (k : Mapped) → m.control.itsinit ≡ 1 → (m.control.running ≡ 1 → ⊥) → Refusing (command_step (Reset 0) m k)
after_reset m k i n =
    let e = reset_empties m k i n in
    let r = command_step (Reset 0) m k in
    let j : r.next.machine.control.itsinit ≡ 1 = rw e.control i in
    record {
      maps = unplaced_maps r.next.machine r.next.mapped e.device_table j;
      lookups = unplaced_lookup r.next.machine r.next.mapped e.device_table j;
      memories = unplaced_memory r.next.machine r.next.mapped e.device_table j;
    }
