-- When the bytes of memory describe a mapping (part 8); no word of how a restore goes about it.
use Rattle.std.specs.Prelude.{ℕ, ◌/◌, ◌≤◌, ◌<◌, ◌≡◌, true, false, List, [], ◌∷◌, map, length, get_or}
use Rattle.lists.proofs.All.{All}
use Rattle.entries.specs.Device.{device_of}
use Rattle.entries.specs.Collection.{is_collection}
use Rattle.entries.specs.Event.{event_of}
use Rattle.guest.specs.Machine.{Machine}
use Rattle.mapping.specs.declared.Device.{Device}
use Rattle.mapping.specs.declared.Collection.{Collection}
use Rattle.mapping.specs.declared.Event.{Event}
use Rattle.mapping.specs.Mapped.{Mapped, device_key}
use Rattle.mapping.specs.MapRules.{mapping_ok}
use Rattle.chains.specs.Slots.{Slots, Blank, Links}
use Rattle.tables.specs.Bytes.{entry_at, collection_at, device_table, collection_table, itt_table, device_slots, event_slots}
use Rattle.tables.specs.Saved.{event_id, events_of}

-- §8.2: there are as many collections as entries in front of the first blank one; each such entry is a collection and each collection
-- such an entry, in whatever order (listed, named); no two entries have one ICID
pub record Collections (t : List ℕ) (cs : List Collection) : Type 0 where
  pub inside : length cs ≤ length t / 8
  pub valid : (i : ℕ) → i < length cs → is_collection (entry_at t i) ≡ true
  pub stop : length cs < length t / 8 → is_collection (entry_at t (length cs)) ≡ false
  pub distinct : (i j : ℕ) → i < length cs → j < length cs → (collection_at t i).icid ≡ (collection_at t j).icid → i ≡ j
  pub listed : (i : ℕ) → i < length cs → (j : ℕ) × (j < length cs) × (get_or cs j (record { icid = 0; pe = 0 }) ≡ collection_at t i)
  pub named : All (λ c. (i : ℕ) × (i < length cs) × (collection_at t i ≡ c)) cs

-- §8.3: the lowest ID, or the number of entries where there is none
abbrev pub first_id : ℕ → List ℕ → ℕ
first_id n [] = n
first_id n (i ∷ is) = i

-- §8.3, §8.4: the IDs' entries are valid and each leads to the following one
abbrev pub Linked : Slots → List ℕ → Type 0
Linked T [] = Unit {0}
Linked T (i ∷ is) = (i < T.size) × (T.valid i ≡ true) × Links T i is

-- §8.3 to §8.5: blank below the lowest ID (everywhere, if there is no ID), and linked from there. Nothing is asked of the other entries
-- (§8.8)
pub record Chain (T : Slots) (ids : List ℕ) : Type 0 where
  pub below : Blank T 0 (first_id T.size ids)
  pub links : Linked T ids

-- §8.3: the entry at the device's ID has its ITT and bits; §8.6: that at the event's has its LPI and ICID
pub record DeviceFields (t : List ℕ) (d : Device) : Type 0 where
  pub itt : (device_of (entry_at t d.id)).itt ≡ d.itt
  pub bits : (device_of (entry_at t d.id)).bits ≡ d.bits

pub record EventFields (t : List ℕ) (e : Event) : Type 0 where
  pub lpi : (event_of (entry_at t e.event)).lpi ≡ e.lpi
  pub icid : (event_of (entry_at t e.event)).icid ≡ e.icid

-- §8.6: an ITT with the events of its device; none of its distances is capped
pub record Itt (t : List ℕ) (es : List Event) : Type 0 where
  pub chain : Chain (event_slots t) (map event_id es)
  pub fields : All (EventFields t) es

-- §8.1: all of §8.2 to §8.7; the last is `allowed`. Of m it reads the start and length of memory, the tables' places and the number of
-- VCPUs (proved in savedlaws, proofs/Local)
pub record Described (m : Machine) (mem : List ℕ) (k : Mapped) : Type 0 where
  pub collections : Collections (collection_table m mem) k.collections
  pub devices : Chain (device_slots (device_table m mem)) (map device_key k.devices)
  pub fields : All (DeviceFields (device_table m mem)) k.devices
  pub itts : All (λ d. Itt (itt_table m mem d) (events_of d.id k.events)) k.devices
  pub allowed : mapping_ok m k ≡ true
