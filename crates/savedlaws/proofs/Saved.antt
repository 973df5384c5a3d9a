-- The memory that a save leaves: its length, its bytes, what each table holds, and that no other byte changes.
use Prim.Native.Nat.{ℕ, ◌+◌, ◌*◌, ◌^◌, ◌<◌}
use native.Mathlib.Omega.{arith}
use mathlib.Core.Path.{◌≡◌, refl, sym, ap, ◌∙◌}
use mathlib.Core.Bool.{true}
use mathlib.Core.List.{List, [], ◌∷◌, map}
use lib.ListN.{length, get_or}
use Rattle.lists.proofs.All.{All, more}
use Rattle.areas.specs.declared.Area.{Area}
use Rattle.areas.specs.Area.{inside}
use Rattle.guest.specs.Machine.{Machine}
use Rattle.rules.specs.Rules.{table_area, memory_area, rules}
use Rattle.mapping.specs.declared.Device.{Device}
use Rattle.mapping.specs.declared.Event.{Event}
use Rattle.mapping.specs.Mapped.{Mapped, itt_area}
use Rattle.mapping.specs.Commands.{device_entries, table_areas}
use Rattle.mapping.specs.MapRules.{is_placed, map_rules}
use Rattle.tables.specs.Bytes.{area_bytes, device_table, collection_table, itt_table}
use Rattle.tables.specs.Saved.{events_of, saved_device, saved_event, saved_collection, table_of, saved_itts, saved_memory}
use Rattle.lists.proofs.Member.{all_weaker, all_map, map_all}
use Rattle.savedlaws.proofs.Member.{all_first, all_rest}
use Rattle.savedlaws.proofs.Parts.{Ok, ok, placed_ok}
use Rattle.savedlaws.proofs.Places.{devices_inside, collections_inside, within}
use Rattle.savedlaws.proofs.Writes.{Holds, Write, Fits, written, written_length, written_other, written_holds}
use Rattle.savedlaws.proofs.Entries.{length-table_of}

-- a save as writes
abbrev itt_write : List Event → Device → Write
itt_write es d = record { area = itt_area d; bytes = table_of (saved_event (events_of d.id es)) (2 ^ d.bits) }

abbrev table_writes : Machine → Mapped → List Write
table_writes m k =
    record { area = table_area m.tables.devices; bytes = table_of (saved_device k.devices) (device_entries m) }
    ∷ record {
      area = table_area m.tables.collections;
      bytes = table_of (saved_collection k.collections) (512 * m.tables.collections.pages);
    }
    ∷ map (itt_write k.events) k.devices

itts_written : (start : ℕ) (ds : List Device) (es : List Event) (mem : List ℕ) → saved_itts start ds es mem ≡ written start (map (itt_write es) ds) mem
unfolding saved_itts written
itts_written start [] es mem = refl
itts_written start (d ∷ ds) es mem = itts_written start ds es _

saved_written : (m : Machine) (k : Mapped) (mem : List ℕ) → saved_memory m k mem ≡ written m.memory.start (table_writes m k) mem
unfolding saved_memory written
saved_written m k mem = itts_written m.memory.start k.devices k.events _

itt_areas : (es : List Event) (ds : List Device) → map (λ w. w.area) (map (itt_write es) ds) ≡ map itt_area ds
itt_areas es [] = refl
itt_areas es (d ∷ ds) = ap (λ (l : List Area). itt_area d ∷ l) (itt_areas es ds)

table_areas_lem : (m : Machine) (k : Mapped) → map (λ w. w.area) (table_writes m k) ≡ table_areas m k.devices
unfolding table_areas
table_areas_lem m k = rw (itt_areas k.events k.devices)

module _ (m : Machine) (k : Mapped) (mem : List ℕ) (sound : rules m ≡ true) (placed : is_placed m ≡ true) (mapped : map_rules m k ≡ true) (size : length mem ≡ m.memory.length) where
  -- each write fits memory and fills its area
  fits : (a : Area) (w : ℕ → ℕ) (n : ℕ) → inside (memory_area m.memory) a ≡ true → a.size ≡ n * 8
      → Fits m.memory.start m.memory.length (record { area = a; bytes = table_of w n })
  fits a w n e s = let i = within m a e in record { low = i.low; high = i.high; whole = length-table_of w n ∙ sym s }

  parts : Ok m k
  parts = ok m k (placed_ok m k placed mapped)

  all_fit : All (Fits m.memory.start m.memory.length) (table_writes m k)
  all_fit =
      more (fits (table_area m.tables.devices) _ (device_entries m) (devices_inside m sound placed) (omega arith))
      (more (fits (table_area m.tables.collections) _ (512 * m.tables.collections.pages) (collections_inside m sound placed) (omega arith))
      (all_map (itt_write k.events) k.devices
      (all_weaker (λ d p. fits (itt_area d) _ (2 ^ d.bits) p.within (omega arith)) k.devices parts.devices)))

  -- the length stays
  pub saved_length : length (saved_memory m k mem) ≡ length mem
  saved_length =
      ap length (saved_written m k mem)
      ∙ written_length m.memory.start m.memory.length (table_writes m k) mem size all_fit
      ∙ sym size

  -- a byte in none of the tables stays
  pub saved_outside : (i : ℕ) → i < length mem → All (λ a. Holds a (m.memory.start + i) → ⊥) (table_areas m k.devices)
      → get_or (saved_memory m k mem) i 0 ≡ get_or mem i 0
  saved_outside i h n =
      let n' : All (λ a. Holds a (m.memory.start + i) → ⊥) (map (λ w. w.area) (table_writes m k)) = rw (table_areas_lem m k) n in
      ap (λ (s : List ℕ). get_or s i 0) (saved_written m k mem)
      ∙ written_other m.memory.start m.memory.length (table_writes m k) mem i size all_fit (omega arith)
      (map_all (λ w. w.area) (table_writes m k) n')

  -- each table holds what was written there
  holds : All (λ w. area_bytes m (saved_memory m k mem) w.area ≡ w.bytes) (table_writes m k)
  unfolding area_bytes
  holds =
      rw (saved_written m k mem)
      (written_holds m.memory.start m.memory.length (table_writes m k) mem size all_fit (rw (table_areas_lem m k) parts.apart))

  pub saved_devices : device_table m (saved_memory m k mem) ≡ table_of (saved_device k.devices) (device_entries m)
  saved_devices = all_first holds

  pub saved_collections : collection_table m (saved_memory m k mem) ≡ table_of (saved_collection k.collections) (512 * m.tables.collections.pages)
  saved_collections = all_first (all_rest holds)

  pub saved_itts_lem : All (λ d. itt_table m (saved_memory m k mem) d ≡ table_of (saved_event (events_of d.id k.events)) (2 ^ d.bits)) k.devices
  saved_itts_lem = map_all (itt_write k.events) k.devices (all_rest (all_rest holds))
