-- The definitions as they were with a cap on every distance, 16,383 in device tables and 65,535 in ITTs. No definition, promise or proof
-- rests on them: the theorems of this crate hold them against those of chains, tables and described.
use Prim.Native.Nat.{ℕ, zero, suc, ◌+◌, ◌-◌, ◌*◌, ◌/◌, ◌^◌, ◌<◌, min}
use mathlib.Core.Path.{◌≡◌}
use mathlib.Core.Bool.{Bool, true}
use mathlib.Core.List.{List, [], ◌∷◌, map}
use lib.ListN.{length}
use lib.Dec.{ltb, leb, eqb}
use Rattle.lists.specs.Rows.{choose}
use Rattle.lists.proofs.All.{All}
use Rattle.words.specs.Words.{put_at}
use Rattle.guest.specs.Machine.{Machine}
use Rattle.mapping.specs.declared.Device.{Device}
use Rattle.mapping.specs.declared.Event.{Event}
use Rattle.mapping.specs.Mapped.{Mapped, empty, device_key}
use Rattle.mapping.specs.Commands.{device_entries}
use Rattle.mapping.specs.MapRules.{mapping_ok}
use Rattle.chains.specs.declared.Next.{Next}
use Rattle.chains.specs.declared.Next.TheVariants.{Last, At, Bad}
use Rattle.chains.specs.Slots.{Slots, first_from, Path, broken, onward, Blank}
use Rattle.tables.specs.Bytes.{device_at, device_table, collection_table, itt_table, device_slots, event_slots}
use Rattle.tables.specs.Fault.{at_device}
use Rattle.tables.specs.Saved.{device_entry, event_entry, event_id, events_of, saved_collection, table_of}
use Rattle.tables.specs.Restored.{Out, found, and_then, tried, run, read_collections, visit_event, device_tests, put_device}
use Rattle.described.specs.Described.{Collections, first_id, DeviceFields, EventFields}

abbrev pub device_limit : ℕ
device_limit = 16383

abbrev pub event_limit : ℕ
event_limit = 65535

-- ---- save

module _ {A : Type 0} where
  unfoldable pub capped_next : (A → ℕ) → ℕ → A → List A → ℕ
  capped_next key cap x [] = 0
  capped_next key cap x (y ∷ l) = min (key y - key x) cap

  unfoldable pub capped_word : (A → ℕ) → (A → ℕ → ℕ) → ℕ → List A → ℕ → ℕ
  capped_word key word cap [] i = 0
  capped_word key word cap (x ∷ l) i = choose (eqb (key x) i) (word x (capped_next key cap x l)) (capped_word key word cap l i)

abbrev pub capped_device : List Device → ℕ → ℕ
capped_device ds i = capped_word device_key device_entry device_limit ds i

abbrev pub capped_event : List Event → ℕ → ℕ
capped_event es i = capped_word event_id event_entry event_limit es i

unfoldable pub capped_itts : ℕ → List Device → List Event → List ℕ → List ℕ
capped_itts start [] es mem = mem
capped_itts start (d ∷ ds) es mem =
    capped_itts start ds es (put_at mem (d.itt - start) (table_of (capped_event (events_of d.id es)) (2 ^ d.bits)))

unfoldable pub capped_memory : Machine → Mapped → List ℕ → List ℕ
capped_memory m k mem =
    capped_itts m.memory.start k.devices k.events
    (put_at
    (put_at mem (m.tables.devices.start - m.memory.start) (table_of (capped_device k.devices) (device_entries m)))
    (m.tables.collections.start - m.memory.start) (table_of (saved_collection k.collections) (512 * m.tables.collections.pages)))

-- ---- where an entry leads

unfoldable pub capped_following : ℕ → Slots → ℕ → Next
capped_following cap T i =
    let d = T.next i in
    let k = first_from T (i + d) in
    choose (eqb d 0) Last
    (choose (leb T.size (i + d)) Bad
    (choose (ltb d cap)
    (choose (T.valid (i + d)) (At (i + d)) Bad)
    (choose (ltb k T.size) (At k) Bad)))

unfoldable pub capped_path : ℕ → Slots → ℕ → ℕ → Path
capped_path cap T zero i = broken i
capped_path cap T (suc fuel) i = onward i (capped_path cap T fuel) (capped_following cap T i)

-- ---- restore

unfoldable pub capped_walk : ℕ → Slots → (Bool → ℕ → Mapped → Out) → Mapped → Out
capped_walk cap T visit k =
    let p = capped_path cap T T.size (first_from T 0) in
    choose (ltb (first_from T 0) T.size) (run visit p k) (found k)

unfoldable pub capped_events : List ℕ → ℕ → Mapped → Out
capped_events t id k = capped_walk event_limit (event_slots t) (visit_event t id) k

unfoldable pub capped_visit : Machine → List ℕ → List ℕ → Bool → ℕ → Mapped → Out
capped_visit m mem t good i k =
    let d = device_at t i in
    tried (at_device i) (device_tests good m d k) (capped_events (itt_table m mem d) i (put_device d k))

unfoldable pub capped_devices : Machine → List ℕ → Mapped → Out
capped_devices m mem k = capped_walk device_limit (device_slots (device_table m mem)) (capped_visit m mem (device_table m mem)) k

unfoldable pub capped_restored : Machine → List ℕ → Out
capped_restored m mem =
    and_then (read_collections m (collection_table m mem) (length (collection_table m mem) / 8) 0 empty) (capped_devices m mem)

-- ---- what bytes describe

pub record CappedLink (cap : ℕ) (T : Slots) (i j : ℕ) : Type 0 where
  pub rises : i < j
  pub inside : j < T.size
  pub valid : T.valid j ≡ true
  pub next : T.next i ≡ min (j - i) cap
  pub gap : cap < j - i → Blank T (i + cap) j

abbrev pub CappedLinks : ℕ → Slots → ℕ → List ℕ → Type 0
CappedLinks cap T i [] = T.next i ≡ 0
CappedLinks cap T i (j ∷ js) = CappedLink cap T i j × CappedLinks cap T j js

abbrev pub CappedLinked : ℕ → Slots → List ℕ → Type 0
CappedLinked cap T [] = Unit {0}
CappedLinked cap T (i ∷ is) = (i < T.size) × (T.valid i ≡ true) × CappedLinks cap T i is

pub record CappedChain (cap : ℕ) (T : Slots) (ids : List ℕ) : Type 0 where
  pub below : Blank T 0 (first_id T.size ids)
  pub links : CappedLinked cap T ids

pub record CappedItt (t : List ℕ) (es : List Event) : Type 0 where
  pub chain : CappedChain event_limit (event_slots t) (map event_id es)
  pub fields : All (EventFields t) es

pub record CappedDescribed (m : Machine) (mem : List ℕ) (k : Mapped) : Type 0 where
  pub collections : Collections (collection_table m mem) k.collections
  pub devices : CappedChain device_limit (device_slots (device_table m mem)) (map device_key k.devices)
  pub fields : All (DeviceFields (device_table m mem)) k.devices
  pub itts : All (λ d. CappedItt (itt_table m mem d) (events_of d.id k.events)) k.devices
  pub allowed : mapping_ok m k ≡ true
