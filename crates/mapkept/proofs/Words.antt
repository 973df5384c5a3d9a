-- The numbers of a sound mapping fit their places. A lookup reads rows that stand, and so its answer is small.
use Prim.Native.Nat.{ℕ, ◌^◌, ◌≤◌, ◌<◌}
use native.Mathlib.Omega.{arith}
use mathlib.Core.Path.{◌≡◌}
use mathlib.Core.Bool.{true}
use lib.ListN.{length, get_or}
use lib.Dec.{leb, eqb, lit<}
use borrow.Author.Tests.{ltb-true, leb-true, eqb-true}
use Rattle.lists.proofs.All.{all_at}
use Rattle.areas.specs.Area.{inside, end_of}
use Rattle.areas.proofs.Tests.{and_left, and_right}
use Rattle.guest.specs.Machine.{Reading}
use Rattle.guest.specs.Machine.{Machine}
use Rattle.rules.specs.Rules.{memory_area, rules}
use Rattle.rules.proofs.Facts.{sound_memory, sound_limit, sound_vcpus, sound_devices}
use Rattle.kept.proofs.Choice.{choose_by}
use Rattle.mapping.specs.declared.Device.{Device}
use Rattle.mapping.specs.declared.Collection.{Collection}
use Rattle.mapping.specs.declared.Event.{Event}
use Rattle.mapping.specs.Mapped.{Mapped, device_key, collection_key, is_event, itt_area, no_device, no_collection, no_event}
use Rattle.mapping.specs.Commands.{device_entries, index_of_device, has_device, index_of_collection, has_collection, index_of_event, has_event, lookup}
use Rattle.mapping.specs.MapRules.{map_rules}
use Rattle.mapping.specs.MapWords.{DeviceWords, CollectionWords, EventWords, MapWords}
use Rattle.mapkept.proofs.Edits.{all_weaker, has_first}
use Rattle.mapkept.proofs.Rising.{found_key}
use Rattle.mapkept.proofs.Sound.{DeviceParts, CollectionParts, EventParts, Sound}
use Rattle.mapkept.proofs.Placing.{sound}
use Rattle.mapkept.proofs.Events.{small_event}

module _ (m : Machine) (r : rules m ≡ true) where
  few_entries : device_entries m ≤ 65536
  few_entries = omega (arith, (sound_devices m r).most)

  device_words_lem : (d : Device) → DeviceParts m d → DeviceWords d
  unfolding inside
  device_words_lem d p =
      let e = few_entries in
      let q = (sound_memory m r).end in
      let l = sound_limit m r in
      let a = memory_area m.memory in
      let b = itt_area d in
      let w = leb-true (end_of b) (end_of a) (and_right (leb a.start b.start) (leb (end_of b) (end_of a)) p.within) in
      record { id = omega (arith, p.id); itt = omega arith; bits = omega (arith, p.most) }

  collection_words_lem : (c : Collection) → CollectionParts m c → CollectionWords c
  collection_words_lem c p = record { icid = p.icid; pe = omega (arith, p.pe, (sound_vcpus m r).few) }

  module _ (k : Mapped) (s : Sound m k) where
    device_id : (id : ℕ) → has_device id k ≡ true → id < 65536
    device_id id h =
        let i = index_of_device id k in
        let p = all_at k.devices i no_device s.devices (ltb-true i (length k.devices) h) in
        omega (arith, few_entries, p.id, found_key device_key id k.devices no_device h)

    collection_row : (icid : ℕ) → has_collection icid k ≡ true → CollectionParts m (get_or k.collections (index_of_collection icid k) no_collection)
    collection_row icid h =
        let i = index_of_collection icid k in
        all_at k.collections i no_collection s.collections (ltb-true i (length k.collections) h)

    event_words_lem : (e : Event) → EventParts k e → EventWords e
    event_words_lem e p = record {
      device = device_id e.device p.device;
      event = small_event m k s e p;
      lpi = omega (arith, p.high);
      icid = omega (arith, (collection_row e.icid p.collection).icid, found_key collection_key e.icid k.collections no_collection p.collection);
    }

pub mapping_words : (m : Machine) (k : Mapped) → rules m ≡ true → map_rules m k ≡ true → MapWords k
mapping_words m k r e =
    let s = sound m k r e in
    record {
      collections = all_weaker (collection_words_lem m r) k.collections s.collections;
      devices = all_weaker (device_words_lem m r) k.devices s.devices;
      events = all_weaker (event_words_lem m r k s) k.events s.events;
    }

-- the row of an event, and that of its collection
abbrev pub event_of : ℕ → ℕ → Mapped → Event
event_of device event k = get_or k.events (index_of_event device event k) no_event

abbrev pub collection_of : ℕ → Mapped → Collection
collection_of icid k = get_or k.collections (index_of_collection icid k) no_collection

-- what a lookup reads
pub record Looked (device event : ℕ) (m : Machine) (k : Mapped) : Type 0 where
  pub same_device : (event_of device event k).device ≡ device
  pub same_event : (event_of device event k).event ≡ event
  pub row : EventParts k (event_of device event k)
  pub same_icid : (collection_of (event_of device event k).icid k).icid ≡ (event_of device event k).icid
  pub collection : CollectionParts m (collection_of (event_of device event k).icid k)

module _ (device event : ℕ) (m : Machine) (k : Mapped) (r : rules m ≡ true) (e : map_rules m k ≡ true) where
  pub lookup_rows : has_event device event k ≡ true → Looked device event m k
  lookup_rows h =
      let s = sound m k r e in
      let i = index_of_event device event k in
      let x = event_of device event k in
      let p = all_at k.events i no_event s.events (ltb-true i (length k.events) h) in
      let f = has_first (is_event device event) k.events no_event h in
      record {
        same_device = eqb-true x.device device (and_left (eqb x.device device) (eqb x.event event) f);
        same_event = eqb-true x.event event (and_right (eqb x.device device) (eqb x.event event) f);
        row = p;
        same_icid = found_key collection_key x.icid k.collections no_collection p.collection;
        collection = collection_row m r k s x.icid p.collection;
      }

  pub lookup_small : (lookup device event k).number < 2 ^ 63
  unfolding lookup
  lookup_small =
      choose_by (λ (x : Reading). x.number < 2 ^ 63) (has_event device event k)
      (λ h. let q = lookup_rows h in omega (arith, q.row.high, q.collection.pe, (sound_vcpus m r).few))
      (λ _. lit< tt)
