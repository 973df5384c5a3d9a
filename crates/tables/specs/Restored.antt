-- Restore (part 9): what it reads, and the faults in the order in which they are met, each with its name and place (part 13).
use Rattle.std.specs.Prelude.{ℕ, zero, suc, ◌/◌, Bool, true, false, not, ◌||◌, List, [], ◌∷◌, ◌++◌, length, ltb, leb}
use Rattle.lists.specs.Rows.{choose}
use Rattle.areas.specs.Area.{inside, strikes}
use Rattle.entries.specs.Collection.{is_collection}
use Rattle.guest.specs.Machine.{Machine}
use Rattle.rules.specs.Rules.{memory_area}
use Rattle.mapping.specs.declared.Device.{Device}
use Rattle.mapping.specs.declared.Collection.{Collection}
use Rattle.mapping.specs.declared.Event.{Event}
use Rattle.mapping.specs.Mapped.{Mapped, empty, collection_key, place_of, inserted_at, itt_area}
use Rattle.mapping.specs.Commands.{table_areas, has_collection, with_collections, with_devices, with_events}
use Rattle.chains.specs.Slots.{Slots, Path, final, broken, onto, path, first_from}
use Rattle.tables.specs.Bytes.{entry_at, collection_at, device_at, event_at, device_table, collection_table, itt_table, device_slots, event_slots}
use Rattle.tables.specs.Fault.{
  Place,
  at_collection,
  at_device,
  at_event,
  Kind,
  fault_pe,
  fault_repeat,
  fault17th,
  fault_next,
  fault_size,
  fault33rd,
  fault_outside,
  fault_overlap,
  fault_lpi,
  fault_icid,
  fault1025th,
  Fault,
  at,
  code,
}

-- Notation: the fault that is met, or the mapping that was read so far
pub data Out : Type 0 where
  fault : Fault → Out
  found : Mapped → Out

-- §9.2: the first fault ends a restore
abbrev pub and_then : Out → (Mapped → Out) → Out
and_then (fault f) g = fault f
and_then (found k) g = g k

-- Notation: a fault and whether an entry has it
pub record Test : Type 0 where
  pub kind : Kind
  pub fails : Bool

abbrev pub test : Kind → Bool → Test
test c b = record { kind = c; fails = b }

-- §9.2: the tests of one entry in their order: the first that fails names the fault; where none does, what comes behind them
abbrev pub tried : Place → List Test → Out → Out
tried p [] o = o
tried p (t ∷ ts) o = choose t.fails (fault (at p t.kind)) (tried p ts o)

-- §9.3, §9.6: the entries of a path are visited in order. A visit takes whether the entry's next is good, and has that fault at its place
-- among the others (§9.5, §9.7)
unfoldable pub run : (Bool → ℕ → Mapped → Out) → Path → Mapped → Out
run visit (broken i) k = visit false i k
run visit (final i) k = visit true i k
run visit (onto i p) k = and_then (visit true i k) (run visit p)

-- §9.6: a whole table, from its first valid entry; one without a valid entry has no rows
unfoldable pub walk : Slots → (Bool → ℕ → Mapped → Out) → Mapped → Out
walk T visit k =
    let p = path T T.size (first_from T 0) in
    choose (ltb (first_from T 0) T.size) (run visit p k) (found k)

-- §9.4: the faults of a collection, in order; k has those of the entries before it
abbrev pub collection_tests : Machine → Collection → Mapped → List Test
collection_tests m c k =
    test fault_pe (leb (length m.vcpus) c.pe)
    ∷ test fault_repeat (has_collection c.icid k)
    ∷ test fault17th (leb 16 (length k.collections))
    ∷ []

-- §5.1: its row goes to its place by ICID
abbrev pub put_collection : Collection → Mapped → Mapped
put_collection c k = with_collections (inserted_at (place_of collection_key c.icid k.collections) c k.collections) k

unfoldable pub visit_collection : Machine → List ℕ → ℕ → Mapped → Out
visit_collection m t i k = let c = collection_at t i in tried (at_collection i) (collection_tests m c k) (found (put_collection c k))

-- §9.3, §8.2: `left` entries from i on, up to the first blank one; what stands behind it is not read
unfoldable pub read_collections : Machine → List ℕ → ℕ → ℕ → Mapped → Out
read_collections m t zero i k = found k
read_collections m t (suc left) i k =
    let rest = read_collections m t left (suc i) in
    choose (is_collection (entry_at t i)) (and_then (visit_collection m t i k) rest) (found k)

-- §9.7: the faults of an event, in order; the collections are all read by then
abbrev pub event_tests : Bool → Event → Mapped → List Test
event_tests good e k =
    test fault_lpi (ltb e.lpi 8192 || ltb 65535 e.lpi)
    ∷ test fault_next (not good)
    ∷ test fault_icid (not (has_collection e.icid k))
    ∷ test fault1025th (leb 1024 (length k.events))
    ∷ []

-- §5.1: its row goes behind those before it
abbrev pub put_event : Event → Mapped → Mapped
put_event e k = with_events (k.events ++ (e ∷ [])) k

unfoldable pub visit_event : List ℕ → ℕ → Bool → ℕ → Mapped → Out
visit_event t id good i k = let e = event_at t id i in tried (at_event id i) (event_tests good e k) (found (put_event e k))

-- §9.3: all events of an ITT, rising
unfoldable pub read_events : List ℕ → ℕ → Mapped → Out
read_events t id k = walk (event_slots t) (visit_event t id) k

-- §9.5: the faults of a device, in order; k has only the devices met before. The entry leaves no fewer bits than 1 and no address that 256
-- does not divide, so that these need no test
abbrev pub device_tests : Bool → Machine → Device → Mapped → List Test
device_tests good m d k =
    test fault_next (not good)
    ∷ test fault_size (ltb 16 d.bits)
    ∷ test fault33rd (leb 32 (length k.devices))
    ∷ test fault_outside (not (inside (memory_area m.memory) (itt_area d)))
    ∷ test fault_overlap (strikes (table_areas m k.devices) (itt_area d))
    ∷ []

-- §5.1: its row goes behind those before it
abbrev pub put_device : Device → Mapped → Mapped
put_device d k = with_devices (k.devices ++ (d ∷ [])) k

-- §9.3: behind the device its events
unfoldable pub visit_device : Machine → List ℕ → List ℕ → Bool → ℕ → Mapped → Out
visit_device m mem t good i k =
    let d = device_at t i in
    tried (at_device i) (device_tests good m d k) (read_events (itt_table m mem d) i (put_device d k))

-- §9.3: all devices of the device table, rising, each with its events
unfoldable pub read_devices : Machine → List ℕ → Mapped → Out
read_devices m mem k = walk (device_slots (device_table m mem)) (visit_device m mem (device_table m mem)) k

-- §9.2, §9.3: the mapping that a restore reads, or its first fault; collections before devices, and nothing of the mapping before
unfoldable pub restored : Machine → List ℕ → Out
restored m mem =
    and_then (read_collections m (collection_table m mem) (length (collection_table m mem) / 8) 0 empty) (read_devices m mem)

-- §13.3: 0 where a mapping is described, else the code of the first fault
abbrev pub verdict : Out → ℕ
verdict (fault f) = code f
verdict (found k) = 0
