-- A mapping as text.
use Rattle.std.specs.Prelude.{ℕ, List, ◌++◌, length}
use Prim.Native.String.{String}
use Rattle.mapping.specs.declared.Device.{Device}
use Rattle.mapping.specs.declared.Collection.{Collection}
use Rattle.mapping.specs.declared.Event.{Event}
use Rattle.mapping.specs.Mapped.{Mapped}
use Rattle.lines.specs.Text.{ascii, decimal, hexadecimal, lines}

-- §11.2: the line of a collection: ICID and pe
unfoldable pub collection_line : Collection → List ℕ
collection_line c = decimal c.icid ++ ascii " " ++ decimal c.pe ++ ascii "\n"

-- §11.2: the line of a device: ID, ITT in hexadecimal, bits
unfoldable pub device_line : Device → List ℕ
device_line d = decimal d.id ++ ascii " " ++ hexadecimal d.itt ++ ascii " " ++ decimal d.bits ++ ascii "\n"

-- §11.2: the line of an event: device, event, LPI, ICID
unfoldable pub event_line : Event → List ℕ
event_line e =
    decimal e.device ++ ascii " " ++ decimal e.event ++ ascii " " ++ decimal e.lpi ++ ascii " " ++ decimal e.icid
    ++ ascii "\n"

-- §11.2: a line with the number of rows, then a line for each
module _ {A : Type 0} where
  unfoldable pub table : String → (A → List ℕ) → List A → List ℕ
  table name line rows = ascii name ++ decimal (length rows) ++ ascii "\n" ++ lines line rows

-- §11.2: collections, devices, events. Rows rise, since they do in every mapping that a restore reads (`rows_rise` of show/proofs/Claims)
unfoldable pub listing : Mapped → List ℕ
listing k =
    table "collections " collection_line k.collections ++ table "devices " device_line k.devices
    ++ table "events " event_line k.events

-- Inner: no listing is longer: a number takes at most 20 digits, an ITT 16, a byte ends each. 33 + 16 × 42 bytes of collections, 29 + 32
-- × 59 of devices, 28 + 1,024 × 84 of events.
abbrev pub listing_room : ℕ
listing_room = 88666
