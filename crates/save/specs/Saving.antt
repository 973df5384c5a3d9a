-- What the code of a save asks of the rows and of where they go.
use Rattle.std.specs.Prelude.{ℕ, suc, ◌+◌, ◌-◌, ◌*◌, ◌%◌, ◌^◌, ◌≤◌, ◌<◌, ◌≡◌, true, List, [], ◌∷◌, length, take, drop, ltb}
use Rattle.lists.specs.Rows.{choose}
use Rattle.lists.proofs.All.{All}
use Rattle.words.specs.Words.{put_at}
use Rattle.entries.specs.Collection.{collection_word}
use Rattle.layout.specs.Layout.{decode, Counted}
use Rattle.rules.specs.Rules.{rules}
use Rattle.mapping.specs.declared.Device.{Device}
use Rattle.mapping.specs.declared.Collection.{Collection}
use Rattle.mapping.specs.declared.Event.{Event}
use Rattle.mapping.specs.Mapped.{Mapped, place_of, device_key}
use Rattle.mapping.specs.MapRules.{map_rules, is_placed}
use Rattle.maplayout.specs.MapLayout.{decode_map, Counted as MapCounted}
use Rattle.tables.specs.Saved.{event_id, events_of, saved_event, table_of}

-- Inner: the word of a blank entry
abbrev pub blank : ℕ → ℕ
blank i = 0

-- Inner: the index of the row after j, or j itself at the last row before to
abbrev pub row_after : ℕ → ℕ → ℕ
row_after j to = choose (ltb (j + 1) to) (j + 1) j

-- Inner: the word of a collection's entry
abbrev pub collection_entry : Collection → ℕ
collection_entry c = collection_word (record { pe = c.pe; icid = c.icid })

module _ {A : Type 0} where
  -- Inner: IDs rise from i on, and are below n
  abbrev pub Ready : (A → ℕ) → ℕ → ℕ → List A → Type 0
  Ready key n i [] = Unit {0}
  Ready key n i (x ∷ l) = (i ≤ key x) × (key x < n) × Ready key n (suc (key x)) l

  -- Inner: no key is below an earlier one
  abbrev pub Sorted : (A → ℕ) → List A → Type 0
  Sorted key [] = Unit {0}
  Sorted key (x ∷ l) = All (λ y. key x ≤ key y) l × Sorted key l

-- Inner: the fields of a row fit its entry
pub record DeviceGood (d : Device) : Type 0 where
  pub itt : d.itt < 2 ^ 52
  pub page : d.itt % 256 ≡ 0
  pub low : 1 ≤ d.bits
  pub high : d.bits ≤ 16

pub record CollectionGood (c : Collection) : Type 0 where
  pub icid : c.icid < 2 ^ 16
  pub pe : c.pe < 2 ^ 36

-- Inner: a table of n entries from index at is inside a memory of len bytes
abbrev pub Room : ℕ → ℕ → ℕ → Type 0
Room len at n = at + n * 8 ≤ len

pub record DevicesReady (len at n : ℕ) (ds : List Device) : Type 0 where
  pub room : Room len at n
  pub ready : Ready device_key n 0 ds
  pub good : All DeviceGood ds

pub record CollectionsReady (len at n : ℕ) (cs : List Collection) : Type 0 where
  pub room : Room len at n
  pub few : length cs ≤ n
  pub good : All CollectionGood cs

-- Inner: every event fits its entry
abbrev pub AnyEvent : Event → Type 0
AnyEvent e = Unit {0}

-- Inner: the rows from index from up to index to
abbrev pub run_of : {A : Type 0} → List A → ℕ → ℕ → List A
run_of l from to = drop from (take to l)

-- Inner: a chained table of n entries from index at has room for those of the rows from index from up to index to
pub record ChainReady {A : Type 0} (key : A → ℕ) (Good : A → Type 0) (len at n : ℕ) (l : List A) (from to : ℕ) : Type 0 where
  pub room : Room len at n
  pub most : to ≤ length l
  pub ready : Ready key n 0 (run_of l from to)
  pub good : All Good l

-- Inner: what events are sorted by
abbrev pub event_device : Event → ℕ
event_device e = e.device

-- Inner: the index of the first event whose device is not below an ID, or the number of events
abbrev pub first_event : ℕ → List Event → ℕ
first_event id es = place_of event_device id es

-- Inner: a device's ITT is inside a memory of len bytes that starts at start, and has an entry for each of its events
pub record IttReady (start len : ℕ) (es : List Event) (d : Device) : Type 0 where
  pub id : d.id < 65536
  pub bits : d.bits ≤ 16
  pub place : start ≤ d.itt
  pub room : Room len (d.itt - start) (2 ^ d.bits)
  pub ready : Ready event_id (2 ^ d.bits) 0 (events_of d.id es)

-- Inner: the bytes of a device's ITT in memory
abbrev pub saved_itt : ℕ → List Event → Device → List ℕ → List ℕ
saved_itt start es d mem = put_at mem (d.itt - start) (table_of (saved_event (events_of d.id es)) (2 ^ d.bits))

-- Inner: the events of the devices before d are passed at index j
pub record IttCursor (start len : ℕ) (es : List Event) (d : Device) (j : ℕ) : Type 0 where
  pub events : Sorted event_device es
  pub itt : IttReady start len es d
  pub passed : j ≤ first_event d.id es

pub record IttsReady (start len : ℕ) (k : Mapped) : Type 0 where
  pub devices : Ready device_key 65536 0 k.devices
  pub events : Sorted event_device k.events
  pub each : All (IttReady start len k.events) k.devices

-- Inner: what holds once the tests of §1.3 and §7.1 are passed: the rules, the tables placed, lent memory of the right length
pub record Saveable (s : List ℕ) (len : ℕ) : Type 0 where
  pub counted : Counted s
  pub mapped : MapCounted s
  pub guest : rules (decode s) ≡ true
  pub mapping : map_rules (decode s) (decode_map s) ≡ true
  pub placed : is_placed (decode s) ≡ true
  pub long : len ≡ (decode s).memory.length
