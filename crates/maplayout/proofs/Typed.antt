-- The numbers of a mapping that bytes stand for fit their places.
use Prim.Native.Nat.{ℕ}
use mathlib.Core.List.{List}
use lib.ListN.{drop}
use Rattle.lists.proofs.All.{all_drop}
use Rattle.words.proofs.Bytes.{Bytes, le_at-bound, rows_of-all}
use Rattle.mapping.specs.MapWords.{MapWords, DeviceWords, CollectionWords, EventWords}
use Rattle.maplayout.specs.MapLayout.{device_of, collection_of, event_of, decode_map}

device_words_lem : (s : List ℕ) → Bytes s → DeviceWords (device_of s)
unfolding device_of
device_words_lem s b = record { id = le_at-bound s 0 8 b; itt = le_at-bound s 8 8 b; bits = le_at-bound s 16 8 b }

collection_words_lem : (s : List ℕ) → Bytes s → CollectionWords (collection_of s)
unfolding collection_of
collection_words_lem s b = record { icid = le_at-bound s 0 2 b; pe = le_at-bound s 2 2 b }

event_words_lem : (s : List ℕ) → Bytes s → EventWords (event_of s)
unfolding event_of
event_words_lem s b = record {
  device = le_at-bound s 0 2 b;
  event = le_at-bound s 2 2 b;
  lpi = le_at-bound s 4 2 b;
  icid = le_at-bound s 6 2 b;
}

pub decode_words : (s : List ℕ) → Bytes s → MapWords (decode_map s)
unfolding decode_map
decode_words s b = record {
  collections = rows_of-all CollectionWords collection_of collection_words_lem 4 _ (drop 3144 s) (all_drop 3144 s b);
  devices = rows_of-all DeviceWords device_of device_words_lem 24 _ (drop 2376 s) (all_drop 2376 s b);
  events = rows_of-all EventWords event_of event_words_lem 8 _ (drop 3208 s) (all_drop 3208 s b);
}
