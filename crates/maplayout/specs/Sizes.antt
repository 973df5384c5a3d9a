-- How many bytes each row takes: the law of the rows in src/lib.rt.
use Rattle.std.specs.Prelude.{◌≡◌, length}
use Rattle.words.specs.Words.{bytes_of}
use Rattle.words.proofs.Laws.{length-bytes_of}
use Rattle.words.proofs.Rows.{length-bytes_all}
use Rattle.mapping.specs.declared.Device.{Device}
use Rattle.mapping.specs.declared.Collection.{Collection}
use Rattle.mapping.specs.declared.Event.{Event}
use Rattle.maplayout.specs.MapLayout.{device_bytes, device_words, collection_bytes, collection_words, event_bytes, event_words}

-- Inner: the bytes of a device's row
pub device_sized : (d : Device) → length (device_bytes d) ≡ 24
unfolding device_bytes
device_sized d = length-bytes_all (bytes_of 8) 8 (length-bytes_of 8) (device_words d)

-- Inner: the bytes of a collection's row
pub collection_sized : (c : Collection) → length (collection_bytes c) ≡ 4
unfolding collection_bytes
collection_sized c = length-bytes_all (bytes_of 2) 2 (length-bytes_of 2) (collection_words c)

-- Inner: the bytes of an event's row
pub event_sized : (e : Event) → length (event_bytes e) ≡ 8
unfolding event_bytes
event_sized e = length-bytes_all (bytes_of 2) 2 (length-bytes_of 2) (event_words e)
