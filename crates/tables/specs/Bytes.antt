-- Tables in guest memory (§6.1), read from the lent bytes.
use Rattle.std.specs.Prelude.{ℕ, ◌-◌, ◌*◌, ◌/◌, List, length, take, drop}
use Rattle.words.specs.Words.{le_at}
use Rattle.areas.specs.declared.Area.{Area}
use Rattle.entries.specs.Device.{is_device, device_of}
use Rattle.entries.specs.Collection.{collection_of}
use Rattle.entries.specs.Event.{is_event, event_of}
use Rattle.guest.specs.Machine.{Machine}
use Rattle.rules.specs.Rules.{table_area}
use Rattle.mapping.specs.declared.Device.{Device}
use Rattle.mapping.specs.declared.Collection.{Collection}
use Rattle.mapping.specs.declared.Event.{Event}
use Rattle.mapping.specs.Mapped.{itt_area}
use Rattle.chains.specs.Slots.{Cap, at_most, uncapped, Slots}

-- §6.1: the word of entry i of a table: 8 bytes from 8 × i on, little endian
unfoldable pub entry_at : List ℕ → ℕ → ℕ
entry_at t i = le_at t (i * 8) 8

-- §6.1: the bytes of an area: byte i of lent memory is address start + i, with the start of set-up
unfoldable pub area_bytes : Machine → List ℕ → Area → List ℕ
area_bytes m mem a = take a.size (drop (a.start - m.memory.start) mem)

-- §5.5: the bytes of each table
abbrev pub device_table : Machine → List ℕ → List ℕ
device_table m mem = area_bytes m mem (table_area m.tables.devices)

abbrev pub collection_table : Machine → List ℕ → List ℕ
collection_table m mem = area_bytes m mem (table_area m.tables.collections)

abbrev pub itt_table : Machine → List ℕ → Device → List ℕ
itt_table m mem d = area_bytes m mem (itt_area d)

-- §6.3: the collection that entry i of a collection table holds
abbrev pub collection_at : List ℕ → ℕ → Collection
collection_at t i = record { icid = (collection_of (entry_at t i)).icid; pe = (collection_of (entry_at t i)).pe }

-- §6.2: the device that entry i of a device table holds
abbrev pub device_at : List ℕ → ℕ → Device
device_at t i = record { id = i; itt = (device_of (entry_at t i)).itt; bits = (device_of (entry_at t i)).bits }

-- §6.4: the event that entry i of the ITT of device `id` holds
abbrev pub event_at : List ℕ → ℕ → ℕ → Event
event_at t id i = record { device = id; event = i; lpi = (event_of (entry_at t i)).lpi; icid = (event_of (entry_at t i)).icid }

-- §7.2: the cap of device tables; an ITT has none
abbrev pub device_cap : Cap
device_cap = at_most 16383

-- §6.2, §6.4: a device table and an ITT as chained entries, each with as many entries as its bytes make
unfoldable pub device_slots : List ℕ → Slots
device_slots t = record {
  size = length t / 8;
  cap = device_cap;
  valid = λ i. is_device (entry_at t i);
  next = λ i. (device_of (entry_at t i)).next;
}

unfoldable pub event_slots : List ℕ → Slots
event_slots t = record {
  size = length t / 8;
  cap = uncapped;
  valid = λ i. is_event (entry_at t i);
  next = λ i. (event_of (entry_at t i)).next;
}
