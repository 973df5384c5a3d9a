-- Which faults are there in the bytes of memory, and which of two is the earlier (part 13); no word of how a restore goes about it.
use Rattle.std.specs.Prelude.{ℕ, ◌+◌, ◌/◌, ◌≤◌, ◌<◌, ◌≡◌, true, false, ◌⊎◌, List, [], ◌∷◌, ◌++◌, length}
use Rattle.lists.proofs.Member.{In}
use Rattle.areas.specs.declared.Area.{Area}
use Rattle.areas.proofs.Laws.{Inside, Shares}
use Rattle.entries.specs.Collection.{is_collection}
use Rattle.guest.specs.Machine.{Machine}
use Rattle.rules.specs.Rules.{memory_area, table_area}
use Rattle.mapping.specs.declared.Device.{Device}
use Rattle.mapping.specs.declared.Collection.{Collection}
use Rattle.mapping.specs.declared.Event.{Event}
use Rattle.mapping.specs.Mapped.{itt_area}
use Rattle.chains.specs.Slots.{exact, Slots, Blank, Link}
use Rattle.tables.specs.Bytes.{entry_at, collection_at, device_at, event_at, device_table, collection_table, itt_table, device_slots, event_slots}
use Rattle.tables.specs.Fault.{
  Place,
  at_collection,
  at_device,
  at_event,
  Kind,
  fault_pe,
  fault_repeat,
  fault17th,
  fault_next,
  fault_size,
  fault33rd,
  fault_outside,
  fault_overlap,
  fault_lpi,
  fault_icid,
  fault1025th,
  Fault,
  at,
}
use Rattle.described.specs.Described.{Chain}

-- ---- which entries are read

-- §13.7: an entry of the collection table: it and all before it are valid
pub record ReadCollection (t : List ℕ) (i : ℕ) : Type 0 where
  pub inside : i < length t / 8
  pub valid : (j : ℕ) → j ≤ i → is_collection (entry_at t j) ≡ true

-- §13.7: the first valid entry of a device table or an ITT
pub record First (T : Slots) (i : ℕ) : Type 0 where
  pub below : Blank T 0 i
  pub inside : i < T.size
  pub valid : T.valid i ≡ true

-- §13.7: the entry at i is read, and these are the IDs along which it is reached, the latest first
abbrev pub Ahead : Slots → List ℕ → ℕ → Type 0
Ahead T [] i = First T i
Ahead T (x ∷ xs) i = Ahead T xs x × Link T x i

-- §13.8: a next that is not 0 and leads nowhere: past the last entry; onto a blank one, where next is the distance itself; or, at the cap,
-- all from the landing on is blank. An ITT has no cap
pub data BadNext (T : Slots) (i : ℕ) : Type 0 where
  leaves : 0 < T.next i → T.size ≤ i + T.next i → BadNext T i
  blank : 0 < T.next i → exact T.cap (T.next i) ≡ true → T.valid (i + T.next i) ≡ false → BadNext T i
  lost : 0 < T.next i → exact T.cap (T.next i) ≡ false → Blank T (i + T.next i) T.size → BadNext T i

-- ---- which faults are there

module _ (m : Machine) (mem : List ℕ) where
  -- Notation: what the entries hold: the collection at i, the device at d, the ITT of that device as an area and as bytes, its event at e
  abbrev pub collection_in : ℕ → Collection
  collection_in i = collection_at (collection_table m mem) i

  abbrev pub device_in : ℕ → Device
  device_in d = device_at (device_table m mem) d

  abbrev pub itt_in : ℕ → Area
  itt_in d = itt_area (device_in d)

  abbrev pub itt_bytes : ℕ → List ℕ
  itt_bytes d = itt_table m mem (device_in d)

  abbrev pub event_in : ℕ → ℕ → Event
  event_in d e = event_at (itt_bytes d) d e

  -- Notation: the device table and the ITT of the device at d, as chained entries
  abbrev pub device_links : Slots
  device_links = device_slots (device_table m mem)

  abbrev pub event_links : ℕ → Slots
  event_links d = event_slots (itt_bytes d)

  -- §13.7: what the ITT of the device at d needs besides for it to be read, where the entry at d is: 16 bits at most, and inside memory
  pub record ReadItt (d : ℕ) : Type 0 where
    pub bits : (device_in d).bits ≤ 16
    pub within : Inside (memory_area m.memory) (itt_in d)

  -- §13.8: the events of these devices are n in number, by the IDs that their ITTs chain
  abbrev pub Count : List ℕ → ℕ → Type 0
  Count [] n = n ≡ 0
  Count (x ∷ xs) n = (r : ℕ) × Count xs r × ReadItt x × (es : List ℕ) × Chain (event_links x) es × (n ≡ r + length es)

  -- §13.8: in the collection table
  pub data CollectionFault (i : ℕ) : Kind → Type 0 where
    no_vcpu_lem : length m.vcpus ≤ (collection_in i).pe → CollectionFault i fault_pe
    repeated : (j : ℕ) → j < i → (collection_in j).icid ≡ (collection_in i).icid → CollectionFault i fault_repeat
    collection_17th : 16 ≤ i → CollectionFault i fault17th

  -- §13.8: in the device table; ids are the devices before
  pub data DeviceFault (ids : List ℕ) (d : ℕ) : Kind → Type 0 where
    device_next : BadNext device_links d → DeviceFault ids d fault_next
    too_large : 16 < (device_in d).bits → DeviceFault ids d fault_size
    device_33rd : 32 ≤ length ids → DeviceFault ids d fault33rd
    itt_outside : (Inside (memory_area m.memory) (itt_in d) → ⊥) → DeviceFault ids d fault_outside
    on_device_table : Shares (itt_in d) (table_area m.tables.devices) → DeviceFault ids d fault_overlap
    on_collection_table : Shares (itt_in d) (table_area m.tables.collections) → DeviceFault ids d fault_overlap
    on_itt : (x : ℕ) → In x ids → Shares (itt_in d) (itt_in x) → DeviceFault ids d fault_overlap

  -- §13.8: in the ITT of the device at d; ids are the devices before it, es the events before
  pub data EventFault (ids : List ℕ) (d : ℕ) (es : List ℕ) (e : ℕ) : Kind → Type 0 where
    lpi_below : (event_in d e).lpi < 8192 → EventFault ids d es e fault_lpi
    lpi_above : 65535 < (event_in d e).lpi → EventFault ids d es e fault_lpi
    event_next : BadNext (event_links d) e → EventFault ids d es e fault_next
    no_collection_lem : ((i : ℕ) → ReadCollection (collection_table m mem) i → (collection_in i).icid ≡ (event_in d e).icid → ⊥) → EventFault ids d es e fault_icid
    event_1025th : (n : ℕ) → Count ids n → 1024 ≤ n + length es → EventFault ids d es e fault1025th

  -- §13.8: a fault is there, in an entry that is read
  pub data FaultAt : Fault → Type 0 where
    in_collections : (i : ℕ) (c : Kind) → ReadCollection (collection_table m mem) i → CollectionFault i c → FaultAt (at (at_collection i) c)
    in_devices : (ids : List ℕ) (d : ℕ) (c : Kind) → Ahead device_links ids d → DeviceFault ids d c → FaultAt (at (at_device d) c)
    in_itt : (ids : List ℕ) (d : ℕ) (es : List ℕ) (e : ℕ) (c : Kind) → Ahead device_links ids d → ReadItt d → Ahead (event_links d) es e
        → EventFault ids d es e c → FaultAt (at (at_event d e) c)

-- ---- which is the earlier

-- §13.9: at one entry, as its faults are listed there; the next of an event stands behind its LPI
abbrev pub rank : Kind → ℕ
rank fault_pe = 0
rank fault_repeat = 1
rank fault17th = 2
rank fault_lpi = 3
rank fault_next = 4
rank fault_size = 5
rank fault33rd = 6
rank fault_outside = 7
rank fault_overlap = 8
rank fault_icid = 9
rank fault1025th = 10

-- §13.9: the collection table before all others; a device before its ITT, and that before the following device
abbrev pub turn : Place → List ℕ
turn (at_collection i) = 0 ∷ i ∷ 0 ∷ 0 ∷ []
turn (at_device d) = 1 ∷ d ∷ 0 ∷ 0 ∷ []
turn (at_event d e) = 1 ∷ d ∷ 1 ∷ e ∷ []

-- Notation: the first number in which two rows of them differ is the lower one
abbrev pub Lower : List ℕ → List ℕ → Type 0
Lower [] ys = ⊥
Lower (x ∷ xs) [] = ⊥
Lower (x ∷ xs) (y ∷ ys) = (x < y) ⊎ ((x ≡ y) × Lower xs ys)

-- §13.9: by place, and at one place by rank
abbrev pub Earlier : Fault → Fault → Type 0
Earlier f g = Lower (turn f.place ++ (rank f.kind ∷ [])) (turn g.place ++ (rank g.kind ∷ []))

-- §13.10: a fault that is there, and none that is there is earlier
pub record Least (There : Fault → Type 0) (f : Fault) : Type 0 where
  pub there : There f
  pub none : (g : Fault) → Earlier g f → There g → ⊥
