-- The mapping commands, §5.4 to §5.13, on the rows. That the guest is ready for them (§5.3) was tested before.
use Rattle.std.specs.Prelude.{ℕ, ◌+◌, ◌*◌, ◌%◌, ◌^◌, Bool, ◌&&◌, not, List, ◌∷◌, map, length, get_or, set, ltb, leb, eqb}
use Rattle.lists.specs.Rows.{choose, find_ix}
use Rattle.areas.specs.declared.Area.{Area}
use Rattle.areas.specs.Area.{inside, strikes, overlaps}
use Rattle.guest.specs.Machine.{Reading}
use Rattle.guest.specs.declared.Table.{Table}
use Rattle.guest.specs.Machine.{Machine}
use Rattle.rules.specs.Rules.{table_area, memory_area}
use Rattle.mapping.specs.declared.Device.{Device}
use Rattle.mapping.specs.declared.Collection.{Collection}
use Rattle.mapping.specs.declared.Event.{Event}
use Rattle.mapping.specs.Mapped.{Mapped, MapResult, refuse, accept, device_key, collection_key, event_key, find_key, place_of, inserted_at, removed_at, kept, find_event, itt_area, no_device, no_collection, no_event}

-- §5.4, §5.6: the device table's number of entries, 512 in a page
abbrev pub device_entries : Machine → ℕ
device_entries m = 512 * m.tables.devices.pages

-- §5.5: the device table, the collection table, the ITTs by device ID. Tables are compared with these alone (§3.4)
unfoldable pub table_areas : Machine → List Device → List Area
table_areas m ds = table_area m.tables.devices ∷ table_area m.tables.collections ∷ map itt_area ds

-- Notation: the index of a row by its ID, whether a row with this ID stands (is mapped), and that row
abbrev pub index_of_device : ℕ → Mapped → ℕ
index_of_device id k = find_key device_key id k.devices

abbrev pub has_device : ℕ → Mapped → Bool
has_device id k = ltb (index_of_device id k) (length k.devices)

abbrev pub device_of : ℕ → Mapped → Device
device_of id k = get_or k.devices (index_of_device id k) no_device

abbrev pub index_of_collection : ℕ → Mapped → ℕ
index_of_collection icid k = find_key collection_key icid k.collections

abbrev pub has_collection : ℕ → Mapped → Bool
has_collection icid k = ltb (index_of_collection icid k) (length k.collections)

abbrev pub index_of_event : ℕ → ℕ → Mapped → ℕ
index_of_event device event k = find_event device event k.events

abbrev pub has_event : ℕ → ℕ → Mapped → Bool
has_event device event k = ltb (index_of_event device event k) (length k.events)

-- Notation: a mapping with one of its lists replaced
abbrev pub with_devices : List Device → Mapped → Mapped
with_devices ds k = record { collections = k.collections; devices = ds; events = k.events }

abbrev pub with_collections : List Collection → Mapped → Mapped
with_collections cs k = record { collections = cs; devices = k.devices; events = k.events }

abbrev pub with_events : List Event → Mapped → Mapped
with_events es k = record { collections = k.collections; devices = k.devices; events = es }

-- §5.6: what stops a device from being mapped, in order; 0 for nothing. A refusal for a test that must not hold stands beside the test.
-- Those for tests that must hold stand below, the first test's last
unfoldable pub device_fault : Device → Machine → Mapped → ℕ
device_fault d m k =
    choose (ltb d.id (device_entries m))
    (choose (leb 1 d.bits && leb d.bits 16)
    (choose (eqb (d.itt % 256) 0)
    (choose (has_device d.id k) 17
    (choose (leb 32 (length k.devices)) 12
    (choose (inside (memory_area m.memory) (itt_area d))
    (choose (strikes (table_areas m k.devices) (itt_area d)) 22 0)
    14)))
    22)
    22)
    22

-- §5.6: else it is one row more, at its place among the rising IDs
unfoldable pub map_device : ℕ → ℕ → ℕ → Machine → Mapped → MapResult
map_device id itt bits m k =
    let d : Device = record { id = id; itt = itt; bits = bits } in
    let e = device_fault d m k in
    choose (eqb e 0)
    (accept (with_devices (inserted_at (place_of device_key id k.devices) d k.devices) k))
    (refuse k e)

-- §5.7: the events that stay are those of other devices. A number that no device can have is refused as not mapped: no row has it (§1.14)
abbrev pub of_other : ℕ → Event → Bool
of_other id e = not (eqb e.device id)

unfoldable pub unmap_device : ℕ → Mapped → MapResult
unmap_device id k =
    choose (has_device id k)
    (accept (record {
      collections = k.collections;
      devices = removed_at (index_of_device id k) k.devices;
      events = kept (of_other id) k.events;
    }))
    (refuse k 2)

-- §5.8: both numbers are tested before all else. A collection that is mapped takes the new pe, also where there are 16; the others are
-- counted
unfoldable pub map_collection : ℕ → ℕ → Machine → Mapped → MapResult
map_collection icid pe m k =
    let c : Collection = record { icid = icid; pe = pe } in
    choose (ltb icid 65536 && ltb pe (length m.vcpus))
    (choose (has_collection icid k)
    (accept (with_collections (set k.collections (index_of_collection icid k) c) k))
    (choose (leb 16 (length k.collections)) (refuse k 12)
    (accept (with_collections (inserted_at (place_of collection_key icid k.collections) c k.collections) k))))
    (refuse k 22)

-- §5.9: whether an event names the collection is asked only of one that is mapped
abbrev pub names : ℕ → Event → Bool
names icid e = eqb e.icid icid

abbrev pub is_named : ℕ → Mapped → Bool
is_named icid k = ltb (find_ix (names icid) k.events) (length k.events)

unfoldable pub unmap_collection : ℕ → Mapped → MapResult
unmap_collection icid k =
    choose (has_collection icid k)
    (choose (is_named icid k) (refuse k 22)
    (accept (with_collections (removed_at (index_of_collection icid k) k.collections) k)))
    (refuse k 2)

-- §5.10: what stops an event from being mapped, in order; 0 for nothing. No collection has an ICID above 65,535 (§1.14), so that such
-- an ICID is refused as not mapped
unfoldable pub event_fault : ℕ → ℕ → ℕ → ℕ → Mapped → ℕ
event_fault device event lpi icid k =
    choose (has_device device k)
    (choose (ltb event (2 ^ (device_of device k).bits))
    (choose (leb 8192 lpi && leb lpi 65535)
    (choose (has_collection icid k)
    (choose (has_event device event k) 17
    (choose (leb 1024 (length k.events)) 12 0))
    2)
    22)
    22)
    2

-- §5.10: else it is one row more, at its place; LPIs are not compared with those of other events
unfoldable pub map_event : ℕ → ℕ → ℕ → ℕ → Mapped → MapResult
map_event device event lpi icid k =
    let x : Event = record { device = device; event = event; lpi = lpi; icid = icid } in
    let e = event_fault device event lpi icid k in
    choose (eqb e 0)
    (accept (with_events (inserted_at (place_of event_key (event_key x) k.events) x k.events) k))
    (refuse k e)

-- §5.11: the event is taken out. Here and in the next two the device is not asked for: an event that is mapped has one (§1.14)
unfoldable pub discard : ℕ → ℕ → Mapped → MapResult
discard device event k =
    choose (has_event device event k)
    (accept (with_events (removed_at (index_of_event device event k) k.events) k))
    (refuse k 2)

-- §5.12: the event gets the collection and keeps its LPI; the collection that it has is taken too
abbrev pub moved_to : ℕ → Event → Event
moved_to icid e = record { device = e.device; event = e.event; lpi = e.lpi; icid = icid }

unfoldable pub move : ℕ → ℕ → ℕ → Mapped → MapResult
move device event icid k =
    choose (has_event device event k && has_collection icid k)
    (accept (with_events (set k.events (index_of_event device event k) (moved_to icid (get_or k.events (index_of_event device event k) no_event))) k))
    (refuse k 2)

-- §5.13: LPI + 65,536 × pe. The event's collection is mapped (§1.14)
unfoldable pub lookup : ℕ → ℕ → Mapped → Reading
lookup device event k =
    let e = get_or k.events (index_of_event device event k) no_event in
    choose (has_event device event k)
    (record { errno = 0; number = e.lpi + 65536 * (get_or k.collections (index_of_collection e.icid k) no_collection).pe })
    (record { errno = 2; number = 0 })

-- §5.4: what stops the two tables from being placed, in order; 0 for nothing. Each test is made of both tables before the next test is
-- made of either
abbrev pub is_empty : Mapped → Bool
is_empty k = eqb (length k.collections) 0 && (eqb (length k.devices) 0 && eqb (length k.events) 0)

unfoldable pub well_formed : Table → Bool
well_formed t = eqb (t.start % 4096) 0 && (leb 1 t.pages && leb t.pages 128)

unfoldable pub place_fault : Table → Table → Machine → Mapped → ℕ
place_fault d c m k =
    choose (is_empty k)
    (choose (well_formed d && well_formed c)
    (choose (inside (memory_area m.memory) (table_area d) && inside (memory_area m.memory) (table_area c))
    (choose (overlaps (table_area d) (table_area c)) 22 0)
    14)
    22)
    16
