-- The faults that a restore can meet, by name and place, and their numbers (§13.4 to §13.6).
use Rattle.std.specs.Prelude.{ℕ, ◌+◌, ◌*◌, ◌^◌, ◌<◌}

-- §13.5: the entry that is being read: of the collection table, of the device table, or of the ITT of a device, whose ID comes first
pub data Place : Type 0 where
  at_collection at_device : ℕ → Place
  at_event : ℕ → ℕ → Place

-- §13.4: the faults, in the order of their numbers
pub data Kind : Type 0 where
  fault_pe fault_repeat fault17th fault_next fault_size fault33rd fault_outside fault_overlap fault_lpi fault_icid fault1025th : Kind

-- Notation: a fault at its place
pub record Fault : Type 0 where
  pub place : Place
  pub kind : Kind

abbrev pub at : Place → Kind → Fault
at p c = record { place = p; kind = c }

-- §13.4: the errno of a restore that meets it first
abbrev pub kind_errno : Kind → ℕ
kind_errno fault_pe = 22
kind_errno fault_repeat = 22
kind_errno fault17th = 12
kind_errno fault_next = 22
kind_errno fault_size = 22
kind_errno fault33rd = 12
kind_errno fault_outside = 14
kind_errno fault_overlap = 22
kind_errno fault_lpi = 22
kind_errno fault_icid = 22
kind_errno fault1025th = 12

-- §13.4: its own number
abbrev pub kind_number : Kind → ℕ
kind_number fault_pe = 1
kind_number fault_repeat = 2
kind_number fault17th = 3
kind_number fault_next = 4
kind_number fault_size = 5
kind_number fault33rd = 6
kind_number fault_outside = 7
kind_number fault_overlap = 8
kind_number fault_lpi = 9
kind_number fault_icid = 10
kind_number fault1025th = 11

-- §13.6: table, device and entry in a code
abbrev pub place_number : Place → ℕ
place_number (at_collection i) = 1 * 2 ^ 32 + i
place_number (at_device i) = 2 * 2 ^ 32 + i
place_number (at_event d i) = 3 * 2 ^ 32 + d * 2 ^ 16 + i

-- §13.6: the code of a fault
abbrev pub code : Fault → ℕ
code f = kind_number f.kind * 2 ^ 40 + place_number f.place

-- §13.6: no table has more than 65,536 entries: with device and entry below that a code stands for one fault
abbrev pub Indexed : Place → Type 0
Indexed (at_collection i) = i < 65536
Indexed (at_device i) = i < 65536
Indexed (at_event d i) = (d < 65536) × (i < 65536)
