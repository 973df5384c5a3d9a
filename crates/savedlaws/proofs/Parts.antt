-- The mapping's rules, part by part.
use Prim.Native.Nat.{◌%◌, ◌^◌, ◌≤◌, ◌<◌}
use mathlib.Core.Path.{◌≡◌}
use mathlib.Core.Bool.{Bool, true}
use mathlib.Core.List.{List, [], ◌∷◌}
use lib.ListN.{length}
use lib.Dec.{ltb, leb, eqb}
use borrow.Author.Tests.{ltb-true, leb-true, eqb-true}
use Rattle.lists.specs.Rows.{all}
use Rattle.lists.proofs.All.{All, from_all}
use Rattle.areas.specs.Area.{inside, apart}
use Rattle.areas.proofs.Tests.{split}
use Rattle.areas.proofs.Has.{has}
use Rattle.guest.specs.Machine.{Machine}
use Rattle.rules.specs.Rules.{memory_area}
use Rattle.mapping.specs.declared.Device.{Device}
use Rattle.mapping.specs.declared.Collection.{Collection}
use Rattle.mapping.specs.declared.Event.{Event}
use Rattle.mapping.specs.Mapped.{Mapped, device_key, collection_key, event_key, rising, itt_area, no_device}
use Rattle.mapping.specs.Commands.{device_entries, table_areas, has_device, device_of, has_collection}
use Rattle.mapping.specs.MapRules.{is_placed, device_ok, collection_ok, event_ok, mapping_ok, map_rules}
use Rattle.lists.proofs.Member.{In, all_weaker}
use Rattle.mapping.proofs.Rise.{is_key, found_key}

-- a collection
pub record CollectionParts (m : Machine) (c : Collection) : Type 0 where
  pub icid : c.icid < 65536
  pub pe : c.pe < length m.vcpus

pub collection_parts : (m : Machine) (c : Collection) → collection_ok m c ≡ true → CollectionParts m c
unfolding collection_ok
collection_parts m c e =
    let p = split (ltb c.icid 65536) (ltb c.pe (length m.vcpus) ∷ []) e in
    record { icid = ltb-true c.icid 65536 p.0; pe = ltb-true c.pe (length m.vcpus) p.1 }

-- a device
pub record DeviceParts (m : Machine) (d : Device) : Type 0 where
  pub id : d.id < device_entries m
  pub some : 1 ≤ d.bits
  pub most : d.bits ≤ 16
  pub page : d.itt % 256 ≡ 0
  pub within : inside (memory_area m.memory) (itt_area d) ≡ true

module _ (m : Machine) (d : Device) where
  abbrev device_tests : List Bool
  device_tests = leb 1 d.bits ∷ leb d.bits 16 ∷ eqb (d.itt % 256) 0 ∷ inside (memory_area m.memory) (itt_area d) ∷ []

  pub device_parts : device_ok m d ≡ true → DeviceParts m d
  unfolding device_ok
  device_parts e =
      let p = split (ltb d.id (device_entries m)) device_tests e in
      record {
        id = ltb-true d.id (device_entries m) p.0;
        some = leb-true 1 d.bits p.1.0;
        most = leb-true d.bits 16 p.1.1.0;
        page = eqb-true (d.itt % 256) 0 p.1.1.1.0;
        within = p.1.1.1.1;
      }

-- what an event has for itself: its LPI, and its collection
pub record Fit (cs : List Collection) (e : Event) : Type 0 where
  pub low : 8192 ≤ e.lpi
  pub high : e.lpi ≤ 65535
  pub icid : has (is_key collection_key e.icid) cs ≡ true

-- an event and the device that it is of
pub record Owned (ds : List Device) (e : Event) : Type 0 where
  pub device : Device
  pub listed : In device ds
  pub id : device.id ≡ e.device
  pub small : e.event < 2 ^ device.bits

module _ (k : Mapped) (e : Event) where
  abbrev event_tests : List Bool
  event_tests =
      ltb e.event (2 ^ (device_of e.device k).bits) ∷ leb 8192 e.lpi ∷ leb e.lpi 65535 ∷ has_collection e.icid k ∷ []

  pub event_parts : event_ok k e ≡ true → Owned k.devices e × Fit k.collections e
  unfolding event_ok
  event_parts q =
      let p = split (has_device e.device k) event_tests q in
      let d = device_of e.device k in
      let f = found_key device_key e.device k.devices no_device p.0 in (
        record { device = d; listed = f.0; id = f.1; small = ltb-true e.event (2 ^ d.bits) p.1.0 },
        record { low = leb-true 8192 e.lpi p.1.1.0; high = leb-true e.lpi 65535 p.1.1.1.0; icid = p.1.1.1.1 },
      )

-- the mapping
pub record Ok (m : Machine) (k : Mapped) : Type 0 where
  pub few_collections_lem : length k.collections ≤ 16
  pub few_devices_lem : length k.devices ≤ 32
  pub few_events_lem : length k.events ≤ 1024
  pub collections_rise : rising collection_key k.collections ≡ true
  pub devices_rise : rising device_key k.devices ≡ true
  pub events_rise : rising event_key k.events ≡ true
  pub collections : All (CollectionParts m) k.collections
  pub devices : All (DeviceParts m) k.devices
  pub apart : apart (table_areas m k.devices) ≡ true
  pub owned : All (Owned k.devices) k.events
  pub fit : All (Fit k.collections) k.events

module _ (m : Machine) (k : Mapped) where
  abbrev mapping_tests : List Bool
  mapping_tests =
      leb (length k.devices) 32 ∷ leb (length k.events) 1024
      ∷ rising collection_key k.collections ∷ rising device_key k.devices ∷ rising event_key k.events
      ∷ all (collection_ok m) k.collections ∷ all (device_ok m) k.devices ∷ apart (table_areas m k.devices)
      ∷ all (event_ok k) k.events ∷ []

  pub ok : mapping_ok m k ≡ true → Ok m k
  unfolding mapping_ok
  ok e =
      let p = split (leb (length k.collections) 16) mapping_tests e in
      let t = p.1.1.1.1.1 in
      let s = from_all (event_ok k) k.events t.1.1.1.1 in
      record {
        few_collections_lem = leb-true (length k.collections) 16 p.0;
        few_devices_lem = leb-true (length k.devices) 32 p.1.0;
        few_events_lem = leb-true (length k.events) 1024 p.1.1.0;
        collections_rise = p.1.1.1.0;
        devices_rise = p.1.1.1.1.0;
        events_rise = t.0;
        collections = all_weaker (collection_parts m) k.collections (from_all (collection_ok m) k.collections t.1.0);
        devices = all_weaker (device_parts m) k.devices (from_all (device_ok m) k.devices t.1.1.0);
        apart = t.1.1.1.0;
        owned = all_weaker (λ x q. (event_parts k x q).0) k.events s;
        fit = all_weaker (λ x q. (event_parts k x q).1) k.events s;
      }

  -- with the tables placed
  pub placed_ok : is_placed m ≡ true → map_rules m k ≡ true → mapping_ok m k ≡ true
  unfolding map_rules
  placed_ok p e = rw p at e
