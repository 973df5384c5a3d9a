-- The mapping as a reader has it (§5.1). Each of its three sets is the list of its rows in rising order without repeats, so that two
-- mappings are equal as sets if and only if they are equal as lists.
use Rattle.std.specs.Prelude.{Result, Ok, Err, IfOk, ℕ, suc, ◌+◌, ◌*◌, ◌^◌, ◌≤◌, ◌≡◌, Bool, true, ◌&&◌, List, [], ◌∷◌, ◌++◌, take, drop, eqb, leb, ltb}
use Rattle.lists.specs.Rows.{find_ix}
use Rattle.areas.specs.declared.Area.{Area}
use Rattle.mapping.specs.declared.Device.{Device}
use Rattle.mapping.specs.declared.Collection.{Collection}
use Rattle.mapping.specs.declared.Event.{Event}
use Rattle.mapping.specs.declared.Mapping.{Mapping}
use Rattle.answers.specs.declared.Errno.{Errno}
use Rattle.answers.specs.Number.{number}

-- §5.1: collections (ICID, pe), devices (ID, ITT, bits), events (device, event, LPI, ICID)
pub record Mapped : Type 0 where
  pub collections : List Collection
  pub devices : List Device
  pub events : List Event

-- Inner: what a struct of the code stands for
abbrev pub rows : Mapping → Mapped
rows k = record {
  collections = take k.ncollections k.collections;
  devices = take k.ndevices k.devices;
  events = take k.nevents k.events;
}

-- Inner: the counts of a struct are within its arrays
pub record Within (k : Mapping) : Type 0 where
  pub collections : k.ncollections ≤ 16
  pub devices : k.ndevices ≤ 32
  pub events : k.nevents ≤ 1024

-- Inner: a struct is within its arrays and stands for these rows
pub record Holds (k : Mapping) (m : Mapped) : Type 0 where
  pub is : rows k ≡ m
  pub within : Within k

-- §1.5, §5.14: nothing is mapped, as in a fresh guest and after RESET
abbrev pub empty : Mapped
empty = record { collections = []; devices = []; events = [] }

-- §2.1, §2.4: what a mapping command comes to: an errno (the answer is its negative), 0 for none, and the mapping afterwards. A refused
-- command leaves the mapping that it met
pub record MapResult : Type 0 where
  pub errno : ℕ
  pub next : Mapped

abbrev pub refuse : Mapped → ℕ → MapResult
refuse k e = record { errno = e; next = k }

abbrev pub accept : Mapped → MapResult
accept k = record { errno = 0; next = k }

-- Inner: what the code hands back for a command on a mapping: the next mapping, or an errno and the mapping as it was
abbrev pub remapped : Mapped → Result Mapping Errno → MapResult
remapped k (Ok m) = accept (rows m)
remapped k (Err e) = refuse k (number e)

-- Inner: the promise of the code of a mapping command
pub record Maps (k : Mapped) (o : Result Mapping Errno) (r : MapResult) : Type 0 where
  pub is : remapped k o ≡ r
  pub within : IfOk o Within

-- §5.1: keys, what a row is named by and rises with. Events rise by device, and those of one device by event ID: both are below 65,536
abbrev pub device_key : Device → ℕ
device_key d = d.id

abbrev pub collection_key : Collection → ℕ
collection_key c = c.icid

abbrev pub event_key : Event → ℕ
event_key e = e.device * 65536 + e.event

module _ {A : Type 0} where
  -- Notation: the index of the row of a key, or the number of rows
  abbrev pub find_key : (A → ℕ) → ℕ → List A → ℕ
  find_key key k l = find_ix (λ x. eqb (key x) k) l

  -- Notation: the index of the first row whose key is not below k, or the number of rows; a list with a row put in or taken out
  abbrev pub place_of : (A → ℕ) → ℕ → List A → ℕ
  place_of key k l = find_ix (λ x. leb k (key x)) l

  unfoldable pub inserted_at : ℕ → A → List A → List A
  inserted_at i x l = take i l ++ (x ∷ drop i l)

  unfoldable pub removed_at : ℕ → List A → List A
  removed_at i l = take i l ++ drop (suc i) l

  -- Notation: the rows that pass a test
  unfoldable pub kept : (A → Bool) → List A → List A
  kept p [] = []
  kept p (x ∷ xs) = Rattle.lists.specs.Rows.choose (p x) (x ∷ kept p xs) (kept p xs)

  -- §1.14, §5.1: keys rise strictly, so that none occurs twice
  unfoldable pub rising : (A → ℕ) → List A → Bool
  rising key [] = true
  rising key (x ∷ []) = true
  rising key (x ∷ y ∷ l) = ltb (key x) (key y) && rising key (y ∷ l)

-- Notation: an event's row and its index, by device and event ID
abbrev pub is_event : ℕ → ℕ → Event → Bool
is_event device event e = eqb e.device device && eqb e.event event

abbrev pub find_event : ℕ → ℕ → List Event → ℕ
find_event device event l = find_ix (is_event device event) l

-- §5.5: a device's ITT, 8 bytes for each of its 2^bits event IDs
abbrev pub itt_area : Device → Area
itt_area d = record { start = d.itt; size = 8 * 2 ^ d.bits }

-- Notation: what stands for a row that is not there. No rule reads its numbers: whether the row is there is tested first, or §1.14 says so
abbrev pub no_device : Device
no_device = record { id = 0; itt = 0; bits = 0 }

abbrev pub no_collection : Collection
no_collection = record { icid = 0; pe = 0 }

abbrev pub no_event : Event
no_event = record { device = 0; event = 0; lpi = 0; icid = 0 }
