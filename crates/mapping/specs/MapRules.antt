-- The mapping's part of soundness (§1.14).
use Rattle.std.specs.Prelude.{◌%◌, ◌^◌, ◌≡◌, Bool, true, ◌&&◌, length, ltb, leb, eqb}
use Rattle.lists.specs.Rows.{choose, all}
use Rattle.areas.specs.Area.{inside, apart}
use Rattle.guest.specs.declared.Guest.{Guest}
use Rattle.guest.specs.Machine.{Machine, view}
use Rattle.rules.specs.Rules.{memory_area, Kept}
use Rattle.mapping.specs.declared.Device.{Device}
use Rattle.mapping.specs.declared.Collection.{Collection}
use Rattle.mapping.specs.declared.Event.{Event}
use Rattle.mapping.specs.declared.Mapping.{Mapping}
use Rattle.mapping.specs.Mapped.{Mapped, Within, rows, device_key, collection_key, event_key, rising, itt_area}
use Rattle.mapping.specs.Commands.{device_entries, table_areas, has_device, device_of, has_collection, is_empty}

-- §1.13: the tables are placed both or neither, so that one mark tells it
abbrev pub is_placed : Machine → Bool
is_placed m = eqb m.tables.devices.set 1

-- §1.14: a device that §5.6 takes: its ID, its bits, its ITT's address, and an ITT inside memory
unfoldable pub device_ok : Machine → Device → Bool
device_ok m d =
    ltb d.id (device_entries m) && (leb 1 d.bits && (leb d.bits 16
    && (eqb (d.itt % 256) 0 && inside (memory_area m.memory) (itt_area d))))

-- §1.14: a collection that §5.8 takes
unfoldable pub collection_ok : Machine → Collection → Bool
collection_ok m c = ltb c.icid 65536 && ltb c.pe (length m.vcpus)

-- §1.14: an event that §5.10 takes, with its device and its collection among those that are mapped
unfoldable pub event_ok : Mapped → Event → Bool
event_ok k e =
    has_device e.device k && (ltb e.event (2 ^ (device_of e.device k).bits)
    && (leb 8192 e.lpi && (leb e.lpi 65535 && has_collection e.icid k)))

-- §1.14: the limits of §1.6; rows that rise, so that no ID occurs twice; each row as above; no two tables of §5.5 overlap
unfoldable pub mapping_ok : Machine → Mapped → Bool
mapping_ok m k =
    leb (length k.collections) 16 && (leb (length k.devices) 32 && (leb (length k.events) 1024
    && (rising collection_key k.collections && (rising device_key k.devices && (rising event_key k.events
    && (all (collection_ok m) k.collections && (all (device_ok m) k.devices && (apart (table_areas m k.devices)
    && all (event_ok k) k.events))))))))

-- §1.14: the rules where the tables are placed; nothing mapped where they are not
unfoldable pub map_rules : Machine → Mapped → Bool
map_rules m k = choose (is_placed m) (mapping_ok m k) (is_empty k)

-- Inner: what the code knows of a guest and a mapping that passed the test
pub record MapKept (g : Guest) (k : Mapping) : Type 0 where
  pub guest : Kept g
  pub within : Within k
  pub rules : map_rules (view g) (rows k) ≡ true

-- Inner: what the commands that read no guest ask of a mapping; each follows from its rules
abbrev pub small_device : Device → Bool
small_device d = ltb d.id 65536 && leb d.bits 16

abbrev pub small_collection : Collection → Bool
small_collection c = ltb c.icid 65536 && ltb c.pe 65536

abbrev pub is_collected : Mapped → Event → Bool
is_collected k e = has_collection e.icid k

pub record Sized (k : Mapping) : Type 0 where
  pub within : Within k
  pub devices : all small_device (rows k).devices ≡ true
  pub collections : all small_collection (rows k).collections ≡ true
  pub events : all (is_collected (rows k)) (rows k).events ≡ true
