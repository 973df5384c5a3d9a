-- What a save leaves describes the mapping.
use Prim.Native.Nat.{ℕ, ◌*◌, ◌^◌, ◌≤◌, ◌<◌}
use native.Mathlib.Omega.{arith}
use mathlib.Core.Path.{◌≡◌}
use mathlib.Core.Bool.{true}
use mathlib.Core.List.{List, map}
use lib.ListN.{length}
use lib.Pow.{pow_mono}
use Rattle.lists.proofs.All.{All}
use Rattle.entries.specs.Device.{is_device}
use Rattle.entries.specs.Event.{is_event}
use Rattle.entries.proofs.Laws.{device_zero_blank, event_zero_blank}
use Rattle.guest.specs.Machine.{Machine}
use Rattle.rules.specs.Rules.{rules}
use Rattle.rules.proofs.Facts.{sound_collections}
use Rattle.mapping.specs.declared.Device.{Device}
use Rattle.mapping.specs.declared.Event.{Event}
use Rattle.mapping.specs.Mapped.{Mapped, device_key}
use Rattle.mapping.specs.Commands.{device_entries}
use Rattle.mapping.specs.MapRules.{is_placed, map_rules}
use Rattle.chains.specs.Slots.{uncapped}
use Rattle.tables.specs.Bytes.{device_cap, device_slots, event_slots}
use Rattle.tables.specs.Saved.{device_entry, event_entry, event_id, events_of, saved_device, saved_event, table_of, saved_memory}
use Rattle.described.specs.Described.{Chain, DeviceFields, Itt, Described}
use Rattle.lists.proofs.Member.{In, all_in, all_of, all_weaker}
use Rattle.savedlaws.proofs.Member.{all_both}
use Rattle.savedlaws.proofs.Parts.{Ok, ok, placed_ok}
use Rattle.savedlaws.proofs.Places.{collections_set}
use Rattle.savedlaws.proofs.Saved.{saved_devices, saved_collections, saved_itts_lem}
use Rattle.savedlaws.proofs.Chains.{Good, table_rows, table_chain}
use Rattle.savedlaws.proofs.Rows.{next_device, next_event, device_room, event_room, device_good, device_fields, collection_fits, event_good, event_fields, events_fit, events_inside, events_rise}
use Rattle.savedlaws.proofs.Collected.{table_collections}

-- the device table, and the ITT of a device, of a sound mapping
module _ (m : Machine) (k : Mapped) (sound : rules m ≡ true) (o : Ok m k) where
  devices_good : All (Good device_key device_entry device_cap device_room is_device next_device) k.devices
  devices_good = all_weaker (device_good m sound) k.devices o.devices

  ids_inside : All (λ d. d.id < device_entries m) k.devices
  ids_inside = all_weaker (λ d p. p.id) k.devices o.devices

  device_table_lem : Chain (device_slots (table_of (saved_device k.devices) (device_entries m))) (map device_key k.devices)
  unfolding device_slots
  device_table_lem =
      table_chain device_key device_entry device_cap device_room is_device next_device k.devices (device_entries m) (λ x h. omega arith) o.devices_rise devices_good ids_inside
      device_zero_blank (omega arith)

  device_rows : All (DeviceFields (table_of (saved_device k.devices) (device_entries m))) k.devices
  device_rows =
      all_both (λ d p w. device_fields m sound d p _ w) k.devices o.devices
      (table_rows device_key device_entry device_cap device_room is_device next_device k.devices (device_entries m) (λ x h. omega arith) o.devices_rise devices_good ids_inside)

  module _ (d : Device) (i : In d k.devices) where
    abbrev events : List Event
    events = events_of d.id k.events

    events_good : All (Good event_id event_entry uncapped event_room is_event next_event) events
    events_good = all_weaker (event_good m k.collections o.collections) events (events_fit m k o d i)

    itt_table_lem : Itt (table_of (saved_event events) (2 ^ d.bits)) events
    unfolding event_slots
    itt_table_lem =
        let rise = events_rise m k o d i in
        let inside = events_inside m k o d i in
        let small : 2 ^ d.bits ≤ 2 ^ 16 = pow_mono (all_in k.devices o.devices i).most in
        record {
          chain =
              table_chain event_id event_entry uncapped event_room is_event next_event events (2 ^ d.bits) (λ x h. omega arith) rise events_good inside event_zero_blank (omega arith);
          fields =
              all_both (λ e p w. event_fields m k.collections o.collections e p _ w) events (events_fit m k o d i)
              (table_rows event_id event_entry uncapped event_room is_event next_event events (2 ^ d.bits) (λ x h. omega arith) rise events_good inside);
        }

module _ (m : Machine) (k : Mapped) (mem : List ℕ) (sound : rules m ≡ true) (placed : is_placed m ≡ true) (mapped : map_rules m k ≡ true) (size : length mem ≡ m.memory.length) where
  pub saved_described : Described m (saved_memory m k mem) k
  saved_described =
      let allowed = placed_ok m k placed mapped in
      let o = ok m k allowed in
      let some = (sound_collections m sound).some (collections_set m sound placed) in
      record {
        collections =
            rw (saved_collections m k mem sound placed mapped size)
            (table_collections k.collections (512 * m.tables.collections.pages) (omega (arith, o.few_collections_lem)) o.collections_rise
            (all_weaker (collection_fits m sound) k.collections o.collections));
        devices = rw (saved_devices m k mem sound placed mapped size) (device_table_lem m k sound o);
        fields = rw (saved_devices m k mem sound placed mapped size) (device_rows m k sound o);
        itts = all_of k.devices (λ d i. rw (all_in k.devices (saved_itts_lem m k mem sound placed mapped size) i) (itt_table_lem m k sound o d i));
        allowed = allowed;
      }
