-- §1.14 once more, rule by rule, as relations between the rows and the guest's numbers. That the test of MapRules says the same is proved
-- both ways in proofs/Meaning.
use Rattle.std.specs.Prelude.{◌*◌, ◌%◌, ◌^◌, ◌≤◌, ◌<◌, ◌≡◌, true, false, List, length}
use Rattle.lists.proofs.All.{All}
use Rattle.lists.proofs.Member.{In}
use Rattle.lists.proofs.Pairs.{Pairs}
use Rattle.areas.proofs.Laws.{Inside, Clear}
use Rattle.guest.specs.Machine.{Machine}
use Rattle.rules.specs.Rules.{memory_area}
use Rattle.mapping.specs.declared.Device.{Device}
use Rattle.mapping.specs.declared.Collection.{Collection}
use Rattle.mapping.specs.declared.Event.{Event}
use Rattle.mapping.specs.Mapped.{Mapped, empty, event_key, itt_area}
use Rattle.mapping.specs.Commands.{table_areas}
use Rattle.mapping.specs.MapRules.{is_placed}

-- §1.14: numbers that §5.8 and §5.6 take
pub record CollectionRules (m : Machine) (c : Collection) : Type 0 where
  pub icid : c.icid < 65536
  pub pe : c.pe < length m.vcpus

pub record DeviceRules (m : Machine) (d : Device) : Type 0 where
  pub id : d.id < 512 * m.tables.devices.pages
  pub some : 1 ≤ d.bits
  pub most : d.bits ≤ 16
  pub page : d.itt % 256 ≡ 0
  pub within : Inside (memory_area m.memory) (itt_area d)

-- §1.14, §5.10: an event's device is mapped, and has room for it
pub record Owned (ds : List Device) (e : Event) : Type 0 where
  pub device : Device
  pub listed : In device ds
  pub id : device.id ≡ e.device
  pub small : e.event < 2 ^ device.bits

-- §1.14, §5.10: an event's LPI, and its collection, which is mapped
pub record Fit (cs : List Collection) (e : Event) : Type 0 where
  pub low : 8192 ≤ e.lpi
  pub high : e.lpi ≤ 65535
  pub collection : Collection
  pub listed : In collection cs
  pub icid : collection.icid ≡ e.icid

-- §1.14: limits; each ID once; each row by itself; no two tables share a byte; each event with its device and its collection
pub record MappingRules (m : Machine) (k : Mapped) : Type 0 where
  pub few_collections_lem : length k.collections ≤ 16
  pub few_devices_lem : length k.devices ≤ 32
  pub few_events_lem : length k.events ≤ 1024
  pub collections_rise : Pairs (λ c d. c.icid < d.icid) k.collections
  pub devices_rise : Pairs (λ d e. d.id < e.id) k.devices
  pub events_rise : Pairs (λ e f. event_key e < event_key f) k.events
  pub collections : All (CollectionRules m) k.collections
  pub devices : All (DeviceRules m) k.devices
  pub apart : Pairs Clear (table_areas m k.devices)
  pub owned : All (Owned k.devices) k.events
  pub fit : All (Fit k.collections) k.events

-- §1.14: where no tables are placed, nothing is mapped
pub record MapMeaning (m : Machine) (k : Mapped) : Type 0 where
  pub placed : is_placed m ≡ true → MappingRules m k
  pub unplaced : is_placed m ≡ false → k ≡ empty
