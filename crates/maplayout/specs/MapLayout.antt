-- The mapping's part of the state as bytes, little endian. From 2,352: its three counts of 8 bytes, of devices, collections and events;
-- from 2,376: devices, three words of 8 bytes each, room for 32; from 3,144: collections, two words of 2 bytes each, room for 16; from
-- 3,208: events, four words of 2 bytes each, room for 1,024. What lies past a table's last row is never read, and stays as it is.
use Rattle.std.specs.Prelude.{ℕ, ◌≡◌, Bool, true, ◌&&◌, List, [], ◌∷◌, length, drop, leb}
use Rattle.words.specs.Words.{le_at, bytes_of, rows_of, bytes_all, put_at}
use Rattle.layout.specs.Layout.{size}
use Rattle.mapping.specs.declared.Device.{Device}
use Rattle.mapping.specs.declared.Collection.{Collection}
use Rattle.mapping.specs.declared.Event.{Event}
use Rattle.mapping.specs.Mapped.{Mapped}

-- §1.7, §5.1: the words of each row, the row that its bytes stand for, and its bytes. Words have 8 bytes in a device, 2 in the others
abbrev pub device_words : Device → List ℕ
device_words d = d.id ∷ d.itt ∷ d.bits ∷ []

unfoldable pub device_of : List ℕ → Device
device_of s = record { id = le_at s 0 8; itt = le_at s 8 8; bits = le_at s 16 8 }

unfoldable pub device_bytes : Device → List ℕ
device_bytes d = bytes_all (bytes_of 8) (device_words d)

abbrev pub collection_words : Collection → List ℕ
collection_words c = c.icid ∷ c.pe ∷ []

unfoldable pub collection_of : List ℕ → Collection
collection_of s = record { icid = le_at s 0 2; pe = le_at s 2 2 }

unfoldable pub collection_bytes : Collection → List ℕ
collection_bytes c = bytes_all (bytes_of 2) (collection_words c)

abbrev pub event_words : Event → List ℕ
event_words e = e.device ∷ e.event ∷ e.lpi ∷ e.icid ∷ []

unfoldable pub event_of : List ℕ → Event
event_of s = record { device = le_at s 0 2; event = le_at s 2 2; lpi = le_at s 4 2; icid = le_at s 6 2 }

unfoldable pub event_bytes : Event → List ℕ
event_bytes e = bytes_all (bytes_of 2) (event_words e)

-- §1.7, §5.1: the mapping that bytes stand for, with as many rows as the counts say
unfoldable pub decode_map : List ℕ → Mapped
decode_map s = record {
  collections = rows_of collection_of 4 (le_at s 2360 8) (drop 3144 s);
  devices = rows_of device_of 24 (le_at s 2352 8) (drop 2376 s);
  events = rows_of event_of 8 (le_at s 2368 8) (drop 3208 s);
}

-- §1.7: the three counts
abbrev pub count_words : Mapped → List ℕ
count_words k = length k.devices ∷ length k.collections ∷ length k.events ∷ []

unfoldable pub count_bytes : Mapped → List ℕ
count_bytes k = bytes_all (bytes_of 8) (count_words k)

-- §1.7: the bytes with a mapping stored in them: its counts and its rows, and no byte behind the last row of a table
unfoldable pub stored_map : Mapped → List ℕ → List ℕ
stored_map k s =
    put_at (put_at (put_at (put_at s 3208 (bytes_all event_bytes k.events)) 3144 (bytes_all collection_bytes k.collections))
    2376 (bytes_all device_bytes k.devices)) 2352 (count_bytes k)

-- §1.9, §1.14: the numbers of rows are within §1.6
unfoldable pub map_counts_ok : List ℕ → Bool
map_counts_ok s = leb (le_at s 2352 8) 32 && (leb (le_at s 2360 8) 16 && leb (le_at s 2368 8) 1024)

-- Inner: bytes of a state's length whose numbers of rows fit: what reading a row asks
pub record Counted (s : List ℕ) : Type 0 where
  pub long : length s ≡ size
  pub counts : map_counts_ok s ≡ true
