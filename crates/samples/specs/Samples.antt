-- The samples of part 12 as equations of the definitions. Errno 22 stands for -22.
use Rattle.std.specs.Prelude.{ℕ, ◌+◌, ◌*◌, ◌/◌, ◌^◌, ◌<◌, ◌≡◌, true, false, ◌⊎◌, List, [], ◌∷◌, ◌++◌, length, replicate}
use Rattle.lists.proofs.All.{All}
use Rattle.words.specs.Words.{bytes_of}
use Rattle.areas.specs.Area.{end_of}
use Rattle.entries.specs.Device.{is_device, device_of, device_word}
use Rattle.entries.specs.Collection.{is_collection, collection_of, collection_word}
use Rattle.entries.specs.Event.{is_event, event_of, event_word}
use Rattle.guest.specs.declared.Region.{Region}
use Rattle.guest.specs.Machine.{Machine, refuse, initialised, is_set}
use Rattle.rules.specs.Standing.{region_area}
use Rattle.frames.specs.Bases.{word_region, word_index, region_fault, add_region}
use Rattle.frames.specs.Init.{locate, redist_base}
use Rattle.irqs.specs.Registers.{vintid_of, group7_fault, set_group7}
use Rattle.mapping.specs.declared.Device.{Device}
use Rattle.mapping.specs.Mapped.{Mapped, empty, device_key}
use Rattle.chains.specs.declared.Next.TheVariants.{At, Bad}
use Rattle.chains.specs.Slots.{Slots, Blank, following}
use Rattle.tables.specs.Bytes.{entry_at, device_table, collection_table, device_cap, device_slots, event_slots}
use Rattle.tables.specs.Saved.{next_of, saved_device}
use Rattle.tables.specs.Fault.{at_device, at_event, fault_next, fault_lpi, at, kind_errno}
use Rattle.tables.specs.Restored.{fault, found, walk, visit_device, read_events, read_devices, restored}

-- §12.1: the region word
abbrev pub word : ℕ
word = 0x00400000080A0001

-- §12.5: the regions
abbrev pub regions : List Region
regions = record { base = 0x08080000; count = 1 } ∷ word_region word ∷ []

-- §12.2: a device of a given ID, with these fields
abbrev pub device : ℕ → Device
device id = record { id = id; itt = 0x40002000; bits = 5 }

-- §12.6, §12.7: the devices
abbrev pub pair : ℕ → List Device
pair id = device 0 ∷ device id ∷ []

-- §12.6, §12.7: a device table of 65,536 entries as saved (§7.3)
abbrev pub saved : List Device → Slots
saved ds = record {
  size = 65536;
  cap = device_cap;
  valid = λ i. is_device (saved_device ds i);
  next = λ i. (device_of (saved_device ds i)).next;
}

-- §12.8: the device of §12.2 with next 16,382, then blanks: 16,384 entries
unfoldable pub landing : List ℕ
landing = bytes_of 8 (device_word (record { next = 16382; itt = 0x40002000; bits = 5 })) ++ replicate 131064 0

-- §12.9: the event of §12.4 with next 3 as event 5 of 8, the others blank
unfoldable pub leaving : List ℕ
leaving = replicate 40 0 ++ bytes_of 8 (event_word (record { next = 3; lpi = 8192; icid = 7 })) ++ replicate 16 0

-- §12.10: zeros alone
abbrev pub Zeros : List ℕ → Type 0
Zeros t = All (λ b. b ≡ 0) t

-- §10.9: all twelve as one statement, §12.1 to §12.12; some are said of every guest or table that the sample is one of
pub record Samples : Type 0 where
  -- §12.1: base and count, index, and where the region ends
  pub p1 :
      (word_region word ≡ record { base = 0x080A0000; count = 4 }) × (word_index word ≡ 1)
      × (end_of (region_area (word_region word)) ≡ 0x08120000)
  -- §12.2: the word, its bytes in memory, and the word read back
  pub p2 :
      (device_word (record { next = 3; itt = 0x40002000; bits = 5 }) ≡ 0x8006000008000404)
      × (bytes_of 8 0x8006000008000404 ≡ 0x04 ∷ 0x04 ∷ 0x00 ∷ 0x08 ∷ 0x00 ∷ 0x00 ∷ 0x06 ∷ 0x80 ∷ [])
      × (is_device 0x8006000008000404 ≡ true) × (device_of 0x8006000008000404 ≡ record { next = 3; itt = 0x40002000; bits = 5 })
  -- §12.3: the word, and the word read back
  pub p3 :
      (collection_word (record { pe = 1; icid = 7 }) ≡ 0x8000000000010007)
      × (is_collection 0x8000000000010007 ≡ true) × (collection_of 0x8000000000010007 ≡ record { pe = 1; icid = 7 })
  -- §12.4: the word, and the word read back
  pub p4 :
      (event_word (record { next = 2; lpi = 8192; icid = 7 }) ≡ 0x0002000020000007)
      × (is_event 0x0002000020000007 ≡ true) × (event_of 0x0002000020000007 ≡ record { next = 2; lpi = 8192; icid = 7 })
  -- §12.5: where the frame lies (§3.12), and the answer of any initialised guest with these regions (§3.13)
  pub p5 :
      (locate regions 2 ≡ 0x080C0000)
      × ((m : Machine) → m.regions ≡ regions → is_set m.frames.single ≡ false → initialised m ≡ true → 2 < length m.vcpus
      → redist_base 2 m ≡ record { errno = 0; number = 0x080C0000 })
  -- §12.6: the next, and that the saved table leads from 0 to the other
  pub p6 : (next_of device_key device_cap (device 0) (device 16383 ∷ []) ≡ 16383) × (following (saved (pair 16383)) 0 ≡ At 16383)
  -- §12.7: the same, past a landing at the cap
  pub p7 : (next_of device_key device_cap (device 0) (device 20000 ∷ []) ≡ 16383) × (following (saved (pair 20000)) 0 ≡ At 20000)
  -- §12.8: computed for one table, and said of the first device d of any device table: the fault is next, for which a restore answers -22
  -- (§13.4)
  pub p8 :
      (kind_errno fault_next ≡ 22)
      × ((m : Machine) (mem : List ℕ) (k : Mapped) → walk (device_slots landing) (visit_device m mem landing) k ≡ fault (at (at_device 0) fault_next))
      × ((m : Machine) (mem : List ℕ) (k : Mapped) (d : ℕ) → let t = device_table m mem in
      Blank (device_slots t) 0 d → d + 16382 < length t / 8
      → is_device (entry_at t d) ≡ true → (device_of (entry_at t d)).next ≡ 16382 → is_device (entry_at t (d + 16382)) ≡ false
      → (following (device_slots t) d ≡ Bad) × (read_devices m mem k ≡ fault (at (at_device d) fault_next)))
  -- §12.9: computed for one ITT, and said of any ITT of 8 entries whose first event is 5: the fault is next or, before it, the LPI (§9.7),
  -- and for both a restore answers -22
  pub p9 :
      (kind_errno fault_lpi ≡ 22) × (kind_errno fault_next ≡ 22)
      × ((id : ℕ) (k : Mapped) → read_events leaving id k ≡ fault (at (at_event id 5) fault_next))
      × ((t : List ℕ) (id : ℕ) (k : Mapped) → length t ≡ 8 * 2 ^ 3 → Blank (event_slots t) 0 5
      → is_event (entry_at t 5) ≡ true → (event_of (entry_at t 5)).next ≡ 3
      → (following (event_slots t) 5 ≡ Bad) ×
      ((read_events t id k ≡ fault (at (at_event id 5) fault_lpi)) ⊎ (read_events t id k ≡ fault (at (at_event id 5) fault_next))))
  -- §12.10: what a restore reads of them, for any guest and memory (§10.6: that is what is described); so too of a memory of zeros, which
  -- is no fault (§9.8)
  pub p10 :
      ((m : Machine) (mem : List ℕ) → Zeros (device_table m mem) → Zeros (collection_table m mem) → restored m mem ≡ found empty)
      × ((m : Machine) (n : ℕ) → restored m (replicate n 0) ≡ found empty)
  -- §12.11: the fault of get and set, and a set that is refused, for any initialised guest, affinity and info
  pub p11 :
      (vintid_of 16 ≡ 16)
      × ((attribute value : ℕ) (m : Machine) → vintid_of attribute ≡ 16 → initialised m ≡ true
      → (group7_fault attribute 4 m ≡ 22) × (set_group7 attribute 4 value m ≡ refuse m 22))
  -- §12.12: for any guest, base, flags and index
  pub p12 :
      ((word_region 0x00000000080A0000).count ≡ 0)
      × ((w : ℕ) (m : Machine) → (word_region w).count ≡ 0 → (region_fault w m ≡ 22) × (add_region w m ≡ refuse m 22))
