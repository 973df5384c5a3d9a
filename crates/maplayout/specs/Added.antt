-- The mapping's bytes with one row more: the row in its table, and the table's count one more. No other byte changes.
use Rattle.std.specs.Prelude.{ℕ, ◌+◌, ◌*◌, List, ◌∷◌, length, drop}
use Rattle.words.specs.Words.{bytes_of, bytes_all, put_at}
use Rattle.mapping.specs.declared.Device.{Device}
use Rattle.mapping.specs.declared.Collection.{Collection}
use Rattle.mapping.specs.declared.Event.{Event}
use Rattle.maplayout.specs.MapLayout.{device_bytes, collection_bytes, event_bytes, decode_map}

-- Inner: behind the devices
unfoldable pub device_added : Device → List ℕ → List ℕ
device_added d s =
    let n = length (decode_map s).devices in
    put_at (put_at s (2376 + n * 24) (device_bytes d)) 2352 (bytes_of 8 (n + 1))

-- Inner: at index i; the collections from there on move up by one
unfoldable pub collection_added : ℕ → Collection → List ℕ → List ℕ
collection_added i c s =
    let l = (decode_map s).collections in
    put_at (put_at s (3144 + i * 4) (bytes_all collection_bytes (c ∷ drop i l))) 2360 (bytes_of 8 (length l + 1))

-- Inner: behind the events
unfoldable pub event_added : Event → List ℕ → List ℕ
event_added e s =
    let n = length (decode_map s).events in
    put_at (put_at s (3208 + n * 8) (event_bytes e)) 2368 (bytes_of 8 (n + 1))
