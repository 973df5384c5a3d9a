-- The rows of a mapping are as many as its counts say, and a search of them tells whether a row stands. Assumes nothing.
use Prim.Native.Nat.{ℕ, ◌≤◌, ◌<◌}
use mathlib.Core.Path.{◌≡◌}
use mathlib.Core.Bool.{Bool, true, false}
use mathlib.Core.List.{List}
use lib.ListN.{length, get_or, take}
use lib.Seq.{get_or-take, length-take-le}
use lib.Dec.{ltb}
use borrow.Author.Tests.{lt-ltb, le-ltb, ltb-true}
use Rattle.lists.specs.Rows.{find_ix}
use Rattle.mapping.specs.declared.Mapping.{Mapping}
use Rattle.mapping.specs.Mapped.{Within, rows}

-- the arrays are whole, which is a fact of their types
pub record Full (k : Mapping) : Type 0 where
  pub devices : length k.devices ≡ 32
  pub collections : length k.collections ≡ 16
  pub events : length k.events ≡ 1024

-- a search among the first n of an array: it ended before n, at a row, or at n
module _ {A : Type 0} (p : A → Bool) (n : ℕ) (l : List A) (r : n ≤ length l) (at : ℕ) (e : at ≡ find_ix p (take n l)) where
  pub has_row : at < n → ltb (find_ix p (take n l)) (length (take n l)) ≡ true
  has_row h = rw (← e, length-take-le n l r) (lt-ltb at n h)

  pub no_row : n ≤ at → ltb (find_ix p (take n l)) (length (take n l)) ≡ false
  no_row h = rw (← e, length-take-le n l r) (le-ltb at n h)

  pub has_below : ltb (find_ix p (take n l)) (length (take n l)) ≡ true → at < n
  has_below h = ltb-true at n (rw (← e, length-take-le n l r) at h)

  pub row_read : (d : A) → at < n → get_or (take n l) (find_ix p (take n l)) d ≡ get_or l at d
  row_read d h = rw (← e) (get_or-take n l at d h)

-- the lengths of its arrays, which each function that has a mapping knows
pub full_of : (k : Mapping) → length k.devices ≡ 32 → length k.collections ≡ 16 → length k.events ≡ 1024 → Full k
full_of k d c e = record { devices = d; collections = c; events = e }

module _ (k : Mapping) (f : Full k) (w : Within k) where
  pub devices_room : k.ndevices ≤ length k.devices
  devices_room = rw f.devices w.devices

  pub collections_room : k.ncollections ≤ length k.collections
  collections_room = rw f.collections w.collections

  pub events_room : k.nevents ≤ length k.events
  events_room = rw f.events w.events

  pub devices_count : length (rows k).devices ≡ k.ndevices
  devices_count = length-take-le k.ndevices k.devices devices_room

  pub collections_count : length (rows k).collections ≡ k.ncollections
  collections_count = length-take-le k.ncollections k.collections collections_room

  pub events_count : length (rows k).events ≡ k.nevents
  events_count = length-take-le k.nevents k.events events_room
