-- Save (part 7): the memory that it leaves.
use Rattle.std.specs.Prelude.{ℕ, zero, suc, ◌-◌, ◌*◌, ◌^◌, Bool, List, [], ◌∷◌, ◌++◌, length, get_or, ltb, eqb}
use Rattle.lists.specs.Rows.{choose}
use Rattle.words.specs.Words.{bytes_of, put_at}
use Rattle.entries.specs.Device.{device_word}
use Rattle.entries.specs.Collection.{collection_word}
use Rattle.entries.specs.Event.{event_word}
use Rattle.guest.specs.Machine.{Machine}
use Rattle.mapping.specs.declared.Device.{Device}
use Rattle.mapping.specs.declared.Collection.{Collection}
use Rattle.mapping.specs.declared.Event.{Event}
use Rattle.mapping.specs.Mapped.{Mapped, device_key, kept, no_collection}
use Rattle.mapping.specs.Commands.{device_entries}
use Rattle.chains.specs.Slots.{Cap, uncapped, capped}
use Rattle.tables.specs.Bytes.{device_cap}

module _ {A : Type 0} where
  -- §7.2: the next of row x, behind which the rows l stand
  unfoldable pub next_of : (A → ℕ) → Cap → A → List A → ℕ
  next_of key cap x [] = 0
  next_of key cap x (y ∷ l) = capped cap (key y - key x)

  -- §7.3, §7.5: the word of entry i: that of the row with ID i, with its next; else 0, 8 zero bytes. Rows rise.
  unfoldable pub chain_word : (A → ℕ) → (A → ℕ → ℕ) → Cap → List A → ℕ → ℕ
  chain_word key word cap [] i = 0
  chain_word key word cap (x ∷ l) i = choose (eqb (key x) i) (word x (next_of key cap x l)) (chain_word key word cap l i)

-- §6.2, §6.4: a row's entry with a next
abbrev pub device_entry : Device → ℕ → ℕ
device_entry d next = device_word (record { next = next; itt = d.itt; bits = d.bits })

abbrev pub event_entry : Event → ℕ → ℕ
event_entry e next = event_word (record { next = next; lpi = e.lpi; icid = e.icid })

-- Notation: what the entries of an ITT are numbered by
abbrev pub event_id : Event → ℕ
event_id e = e.event

-- Notation: the events of a device
abbrev pub is_of : ℕ → Event → Bool
is_of id e = eqb e.device id

abbrev pub events_of : ℕ → List Event → List Event
events_of id es = kept (is_of id) es

-- §7.3, §7.5: entry i of the device table, and of the ITT of the device that has these events
abbrev pub saved_device : List Device → ℕ → ℕ
saved_device ds i = chain_word device_key device_entry device_cap ds i

abbrev pub saved_event : List Event → ℕ → ℕ
saved_event es i = chain_word event_id event_entry uncapped es i

-- §7.4: entry i of the collection table: the collection of row i, and 8 zero bytes behind the last. Rows rise by ICID
unfoldable pub saved_collection : List Collection → ℕ → ℕ
saved_collection cs i =
    choose (ltb i (length cs))
    (collection_word (record { pe = (get_or cs i no_collection).pe; icid = (get_or cs i no_collection).icid }))
    0

-- §6.1: the bytes of n entries
unfoldable pub table_of : (ℕ → ℕ) → ℕ → List ℕ
table_of w zero = []
table_of w (suc n) = table_of w n ++ bytes_of 8 (w n)

-- §7.5: the ITT of each mapped device written, in memory that starts at start
unfoldable pub saved_itts : ℕ → List Device → List Event → List ℕ → List ℕ
saved_itts start [] es mem = mem
saved_itts start (d ∷ ds) es mem =
    saved_itts start ds es (put_at mem (d.itt - start) (table_of (saved_event (events_of d.id es)) (2 ^ d.bits)))

-- §7.3 to §7.6: all saved bytes written, every other byte as before. The tables do not overlap (§1.14), so that the order of the writes
-- makes no difference
unfoldable pub saved_memory : Machine → Mapped → List ℕ → List ℕ
saved_memory m k mem =
    saved_itts m.memory.start k.devices k.events
    (put_at
    (put_at mem (m.tables.devices.start - m.memory.start) (table_of (saved_device k.devices) (device_entries m)))
    (m.tables.collections.start - m.memory.start) (table_of (saved_collection k.collections) (512 * m.tables.collections.pages)))
