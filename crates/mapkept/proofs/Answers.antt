-- What the mapping commands answer: 0 or an errno of §2.2.
use Prim.Native.Nat.{ℕ, ◌%◌, ◌^◌}
use mathlib.Core.Path.{◌≡◌, refl}
use mathlib.Core.Bool.{true, ◌&&◌}
use lib.ListN.{length}
use lib.Dec.{ltb, leb, eqb}
use Rattle.areas.specs.Area.{inside, strikes, overlaps}
use Rattle.guest.specs.Machine.{Reading}
use Rattle.guest.specs.declared.Table.{Table}
use Rattle.guest.specs.Machine.{Machine}
use Rattle.rules.specs.Rules.{table_area, memory_area}
use Rattle.kept.specs.Good.{listed}
use Rattle.kept.proofs.Choice.{chosen}
use Rattle.mapping.specs.declared.Device.{Device}
use Rattle.mapping.specs.Mapped.{Mapped, MapResult, itt_area}
use Rattle.mapping.specs.Commands.{
  device_entries,
  table_areas,
  has_device,
  device_of,
  has_collection,
  has_event,
  device_fault,
  map_device,
  unmap_device,
  map_collection,
  is_named,
  unmap_collection,
  event_fault,
  map_event,
  discard,
  move,
  lookup,
  is_empty,
  well_formed,
  place_fault,
}

abbrev Listed : ℕ → Type 0
Listed e = listed e ≡ true

-- an errno of §2.2
abbrev Fair : MapResult → Type 0
Fair r = Listed r.errno

device_listed : (d : Device) (m : Machine) (k : Mapped) → Listed (device_fault d m k)
unfolding device_fault listed
device_listed d m k =
    chosen Listed (ltb d.id (device_entries m))
    (chosen Listed (leb 1 d.bits && leb d.bits 16)
    (chosen Listed (eqb (d.itt % 256) 0)
    (chosen Listed (has_device d.id k) refl
    (chosen Listed (leb 32 (length k.devices)) refl
    (chosen Listed (inside (memory_area m.memory) (itt_area d))
    (chosen Listed (strikes (table_areas m k.devices) (itt_area d)) refl refl)
    refl)))
    refl)
    refl)
    refl

event_listed : (device event lpi icid : ℕ) (k : Mapped) → Listed (event_fault device event lpi icid k)
unfolding event_fault listed
event_listed device event lpi icid k =
    chosen Listed (has_device device k)
    (chosen Listed (ltb event (2 ^ (device_of device k).bits))
    (chosen Listed (leb 8192 lpi && leb lpi 65535)
    (chosen Listed (has_collection icid k)
    (chosen Listed (has_event device event k) refl
    (chosen Listed (leb 1024 (length k.events)) refl refl))
    refl)
    refl)
    refl)
    refl

pub place_fault-listed : (d c : Table) (m : Machine) (k : Mapped) → listed (place_fault d c m k) ≡ true
unfolding place_fault listed
place_fault-listed d c m k =
    chosen Listed (is_empty k)
    (chosen Listed (well_formed d && well_formed c)
    (chosen Listed (inside (memory_area m.memory) (table_area d) && inside (memory_area m.memory) (table_area c))
    (chosen Listed (overlaps (table_area d) (table_area c)) refl refl)
    refl)
    refl)
    refl

pub lookup_listed : (device event : ℕ) (k : Mapped) → listed (lookup device event k).errno ≡ true
unfolding lookup listed
lookup_listed device event k = chosen (λ (r : Reading). Listed r.errno) (has_event device event k) refl refl

module _ (k : Mapped) where
  map_device-fair : (id itt bits : ℕ) (m : Machine) → Fair (map_device id itt bits m k)
  unfolding map_device listed
  map_device-fair id itt bits m =
      let d : Device = record { id = id; itt = itt; bits = bits } in
      chosen Fair (eqb (device_fault d m k) 0) refl (device_listed d m k)

  unmap_device-fair : (id : ℕ) → Fair (unmap_device id k)
  unfolding unmap_device listed
  unmap_device-fair id = chosen Fair (has_device id k) refl refl

  map_collection-fair : (icid pe : ℕ) (m : Machine) → Fair (map_collection icid pe m k)
  unfolding map_collection listed
  map_collection-fair icid pe m =
      chosen Fair (ltb icid 65536 && ltb pe (length m.vcpus))
      (chosen Fair (has_collection icid k) refl (chosen Fair (leb 16 (length k.collections)) refl refl))
      refl

  unmap_collection-fair : (icid : ℕ) → Fair (unmap_collection icid k)
  unfolding unmap_collection listed
  unmap_collection-fair icid =
      chosen Fair (has_collection icid k) (chosen Fair (is_named icid k) refl refl) refl

  map_event-fair : (device event lpi icid : ℕ) → Fair (map_event device event lpi icid k)
  unfolding map_event listed
  map_event-fair device event lpi icid =
      chosen Fair (eqb (event_fault device event lpi icid k) 0) refl (event_listed device event lpi icid k)

  discard_fair : (device event : ℕ) → Fair (discard device event k)
  unfolding discard listed
  discard_fair device event = chosen Fair (has_event device event k) refl refl

  move_fair : (device event icid : ℕ) → Fair (move device event icid k)
  unfolding move listed
  move_fair device event icid = chosen Fair (has_event device event k && has_collection icid k) refl refl

pub map_device-listed : (id itt bits : ℕ) (m : Machine) (k : Mapped) → listed (map_device id itt bits m k).errno ≡ true
map_device-listed id itt bits m k = map_device-fair k id itt bits m

pub unmap_device-listed : (id : ℕ) (k : Mapped) → listed (unmap_device id k).errno ≡ true
unmap_device-listed id k = unmap_device-fair k id

pub map_collection-listed : (icid pe : ℕ) (m : Machine) (k : Mapped) → listed (map_collection icid pe m k).errno ≡ true
map_collection-listed icid pe m k = map_collection-fair k icid pe m

pub unmap_collection-listed : (icid : ℕ) (k : Mapped) → listed (unmap_collection icid k).errno ≡ true
unmap_collection-listed icid k = unmap_collection-fair k icid

pub map_event-listed : (device event lpi icid : ℕ) (k : Mapped) → listed (map_event device event lpi icid k).errno ≡ true
map_event-listed device event lpi icid k = map_event-fair k device event lpi icid

pub discard_listed : (device event : ℕ) (k : Mapped) → listed (discard device event k).errno ≡ true
discard_listed device event k = discard_fair k device event

pub move_listed : (device event icid : ℕ) (k : Mapped) → listed (move device event icid k).errno ≡ true
move_listed device event icid k = move_fair k device event icid
