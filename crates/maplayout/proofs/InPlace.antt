-- Rows of the mapping read where they lie in the bytes are the rows that the bytes stand for. Assumes nothing.
use Prim.Native.Nat.{ℕ, ◌+◌, ◌*◌, ◌<◌, ◌≤◌}
use mathlib.Core.Path.{◌≡◌, sym, subst}
use mathlib.Core.List.{List}
use lib.ListN.{length, get_or, take, drop}
use Rattle.words.specs.Words.{le_at}
use Rattle.words.proofs.Rows.{length-rows_of}
use Rattle.layout.proofs.InPlace.{row_read, row_below}
use Rattle.mapping.specs.declared.Device.{Device}
use Rattle.mapping.specs.declared.Collection.{Collection}
use Rattle.mapping.specs.declared.Event.{Event}
use Rattle.mapping.specs.Mapped.{no_device, no_collection, no_event}
use Rattle.maplayout.specs.MapLayout.{device_of, collection_of, event_of, decode_map, Counted}
use Rattle.maplayout.proofs.Counts.{counts}

module _ (s : List ℕ) where
  pub device_count : le_at s 2352 8 ≡ length (decode_map s).devices
  unfolding decode_map
  device_count = sym (length-rows_of device_of 24 (le_at s 2352 8) (drop 2376 s))

  pub devices_few : Counted s → length (decode_map s).devices ≤ 32
  devices_few c = subst (λ (k : ℕ). k ≤ 32) device_count (counts s c.counts).devices

  pub device_read : (i : ℕ) (r : Device) → i < length (decode_map s).devices → r ≡ device_of (take 24 (drop (2376 + i * 24) s)) → r ≡ get_or (decode_map s).devices i no_device
  unfolding decode_map
  device_read i r h e = row_read device_of 24 (le_at s 2352 8) 2376 s i no_device r (row_below device_of 24 (le_at s 2352 8) (drop 2376 s) i h) e

  pub collection_count : le_at s 2360 8 ≡ length (decode_map s).collections
  unfolding decode_map
  collection_count = sym (length-rows_of collection_of 4 (le_at s 2360 8) (drop 3144 s))

  pub collections_few : Counted s → length (decode_map s).collections ≤ 16
  collections_few c = subst (λ (k : ℕ). k ≤ 16) collection_count (counts s c.counts).collections

  pub collection_read : (i : ℕ) (r : Collection) → i < length (decode_map s).collections → r ≡ collection_of (take 4 (drop (3144 + i * 4) s)) → r ≡ get_or (decode_map s).collections i no_collection
  unfolding decode_map
  collection_read i r h e = row_read collection_of 4 (le_at s 2360 8) 3144 s i no_collection r (row_below collection_of 4 (le_at s 2360 8) (drop 3144 s) i h) e

  pub event_count : le_at s 2368 8 ≡ length (decode_map s).events
  unfolding decode_map
  event_count = sym (length-rows_of event_of 8 (le_at s 2368 8) (drop 3208 s))

  pub events_few : Counted s → length (decode_map s).events ≤ 1024
  events_few c = subst (λ (k : ℕ). k ≤ 1024) event_count (counts s c.counts).events

  pub event_read : (i : ℕ) (r : Event) → i < length (decode_map s).events → r ≡ event_of (take 8 (drop (3208 + i * 8) s)) → r ≡ get_or (decode_map s).events i no_event
  unfolding decode_map
  event_read i r h e = row_read event_of 8 (le_at s 2368 8) 3208 s i no_event r (row_below event_of 8 (le_at s 2368 8) (drop 3208 s) i h) e
