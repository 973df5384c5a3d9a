-- What the rules of a guest and its mapping say of the rows that are written and of the places that they go to. Assumes nothing.
use Prim.Native.Nat.{ℕ, ◌-◌, ◌*◌, ◌^◌, ◌≤◌, ◌<◌}
use native.Mathlib.Omega.{arith}
use mathlib.Core.Path.{◌≡◌, sym, ap, ◌∙◌, subst}
use mathlib.Core.Bool.{true}
use mathlib.Core.List.{List}
use lib.Pow.{pow_pos}
use borrow.Author.Tests.{eqb-true}
use Rattle.lists.proofs.Member.{In, all_in, all_of, all_weaker}
use Rattle.areas.proofs.Laws.{Inside, inside_says}
use Rattle.guest.specs.declared.Memory.{Memory}
use Rattle.guest.specs.declared.Table.{Table}
use Rattle.guest.specs.declared.Tables.{Tables}
use Rattle.guest.specs.Machine.{Machine}
use Rattle.layout.specs.Layout.{memory_of, tables_of, decode}
use Rattle.rules.specs.Rules.{memory_area, table_area, rules}
use Rattle.rules.proofs.Parts.{TableParts}
use Rattle.rules.proofs.Facts.{sound_memory, sound_limit, sound_vcpus, sound_tables, sound_devices, sound_collections}
use Rattle.mapping.specs.declared.Device.{Device}
use Rattle.mapping.specs.declared.Collection.{Collection}
use Rattle.mapping.specs.declared.Event.{Event}
use Rattle.mapping.specs.Mapped.{Mapped, device_key}
use Rattle.mapping.specs.MapRules.{is_placed, map_rules}
use Rattle.mapping.specs.Meaning.{CollectionRules, DeviceRules, Owned, MappingRules}
use Rattle.mapping.proofs.Rise.{one_of_key}
use Rattle.mapping.proofs.Meaning.{rules_say, event_small}
use Rattle.maplayout.specs.MapLayout.{decode_map}
use Rattle.save.specs.Saving.{DeviceGood, CollectionGood, DevicesReady, CollectionsReady, IttReady, IttsReady, Saveable}
use Rattle.save.proofs.Rising.{rises_ready, rises_sorted, rises_events}

module _ (m : Machine) (sound : rules m ≡ true) where
  -- a table that is placed
  table_placed : (t : Table) → TableParts m.memory t → t.set ≡ 1 → Inside (memory_area m.memory) (table_area t)
  table_placed t p e = inside_says (memory_area m.memory) (table_area t) (p.within e)

  device_good : (d : Device) → DeviceRules m d → DeviceGood d
  device_good d p = record {
    itt = omega (arith, p.within.upto, (sound_memory m sound).end, sound_limit m sound, pow_pos d.bits);
    page = p.page;
    low = p.some;
    high = p.most;
  }

  collection_good : (c : Collection) → CollectionRules m c → CollectionGood c
  collection_good c p = record { icid = p.icid; pe = omega (arith, p.pe, (sound_vcpus m sound).few) }

module _ (m : Machine) (k : Mapped) (sound : rules m ≡ true) (kept : map_rules m k ≡ true) (both : is_placed m ≡ true) where
  set_devices : m.tables.devices.set ≡ 1
  set_devices = eqb-true m.tables.devices.set 1 both

  set_collections : m.tables.collections.set ≡ 1
  set_collections = sym (sound_tables m sound).together ∙ set_devices

  devices_placed : Inside (memory_area m.memory) (table_area m.tables.devices)
  devices_placed = table_placed m sound m.tables.devices (sound_devices m sound) set_devices

  collections_placed : Inside (memory_area m.memory) (table_area m.tables.collections)
  collections_placed = table_placed m sound m.tables.collections (sound_collections m sound) set_collections

  given : MappingRules m k
  given = (rules_say m k kept).placed both

  module _ (len : ℕ) (long : len ≡ m.memory.length) where
    devices_ready : DevicesReady len (m.tables.devices.start - m.memory.start) (512 * m.tables.devices.pages) k.devices
    devices_ready = record {
      room = omega (arith, devices_placed.from, devices_placed.upto);
      ready =
          rises_ready device_key (512 * m.tables.devices.pages) 0 k.devices given.devices_rise
          (all_weaker (λ d p. (omega arith, p.id)) k.devices given.devices);
      good = all_weaker (device_good m sound) k.devices given.devices;
    }

    collections_ready : CollectionsReady len (m.tables.collections.start - m.memory.start) (512 * m.tables.collections.pages) k.collections
    collections_ready = record {
      room = omega (arith, collections_placed.from, collections_placed.upto);
      few = omega (arith, given.few_collections_lem, (sound_collections m sound).some set_collections);
      good = all_weaker (collection_good m sound) k.collections given.collections;
    }

    itt_ready : (d : Device) → In d k.devices → DeviceRules m d → IttReady m.memory.start len k.events d
    itt_ready d i p = record {
      id = omega (arith, p.id, (sound_devices m sound).most);
      bits = p.most;
      place = p.within.from;
      room = omega (arith, p.within.from, p.within.upto);
      ready = rises_events d.id (2 ^ d.bits) 0 k.events given.events_rise (all_weaker below k.events given.owned);
    }
      where
        below : (e : Event) → Owned k.devices e → e.device ≡ d.id → (0 ≤ e.event) × (e.event < 2 ^ d.bits)
        below e w f =
            let q : w.device ≡ d = one_of_key device_key k.devices given.devices_rise w.listed i (w.id ∙ f) in
            (omega arith, subst (λ (x : Device). e.event < 2 ^ x.bits) q w.small)

    itts_ready : IttsReady m.memory.start len k
    itts_ready = record {
      devices =
          rises_ready device_key 65536 0 k.devices given.devices_rise
          (all_weaker (λ d p. (omega arith, omega (arith, p.id, (sound_devices m sound).most))) k.devices given.devices);
      events = rises_sorted k.events given.events_rise (all_weaker (event_small m k given) k.events given.owned);
      each = all_of k.devices (λ d i. itt_ready d i (all_in k.devices given.devices i));
    }

-- the same of bytes, with the memory and the tables as they are read from them
module _ (s : List ℕ) (len : ℕ) (v : Saveable s len) (memory : Memory) (tables : Tables) (e : memory ≡ memory_of s) (f : tables ≡ tables_of s) where
  pub start_read : memory.start ≡ (decode s).memory.start
  unfolding decode
  start_read = ap (λ (r : Memory). r.start) e

  pub tables_read : tables ≡ (decode s).tables
  unfolding decode
  tables_read = f

  pub devices_low : memory.start ≤ tables.devices.start
  devices_low = rw (start_read, tables_read) (devices_placed (decode s) (decode_map s) v.guest v.mapping v.placed).from

  pub devices_few : tables.devices.pages ≤ 128
  devices_few = rw tables_read (sound_devices (decode s) v.guest).most

  pub collections_low : memory.start ≤ tables.collections.start
  collections_low = rw (start_read, tables_read) (collections_placed (decode s) (decode_map s) v.guest v.mapping v.placed).from

  pub collections_few : tables.collections.pages ≤ 128
  collections_few = rw tables_read (sound_collections (decode s) v.guest).most

  -- memory keeps its length while it is written
  module _ (now : ℕ) (l : now ≡ len) where
    pub devices_given : DevicesReady now (tables.devices.start - memory.start) (512 * tables.devices.pages) (decode_map s).devices
    devices_given = rw (start_read, tables_read) (devices_ready (decode s) (decode_map s) v.guest v.mapping v.placed now (l ∙ v.long))

    pub collections_given : CollectionsReady now (tables.collections.start - memory.start) (512 * tables.collections.pages) (decode_map s).collections
    collections_given = rw (start_read, tables_read) (collections_ready (decode s) (decode_map s) v.guest v.mapping v.placed now (l ∙ v.long))

    pub itts_given : IttsReady memory.start now (decode_map s)
    itts_given = rw start_read (itts_ready (decode s) (decode_map s) v.guest v.mapping v.placed now (l ∙ v.long))
