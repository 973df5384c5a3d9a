-- A fault as text, and the fault of a code.
use Rattle.std.specs.Prelude.{ℕ, List, ◌++◌, ◌+◌, ◌≡◌, ◌≤◌, eqb, take}
use Rattle.lists.specs.Rows.{choose}
use Rattle.fields.specs.Field.{get_field}
use Rattle.tables.specs.Fault.{
  Place,
  at_collection,
  at_device,
  at_event,
  Kind,
  fault_pe,
  fault_repeat,
  fault17th,
  fault_next,
  fault_size,
  fault33rd,
  fault_outside,
  fault_overlap,
  fault_lpi,
  fault_icid,
  fault1025th,
  Fault,
  at,
}
use Rattle.lines.specs.Text.{ascii, decimal}

-- §13.4: the name of a fault
unfoldable pub kind_text : Kind → List ℕ
kind_text fault_pe = ascii "pe"
kind_text fault_repeat = ascii "repeat"
kind_text fault17th = ascii "17th"
kind_text fault_next = ascii "next"
kind_text fault_size = ascii "size"
kind_text fault33rd = ascii "33rd"
kind_text fault_outside = ascii "ITT outside memory"
kind_text fault_overlap = ascii "overlap"
kind_text fault_lpi = ascii "LPI"
kind_text fault_icid = ascii "ICID not in the collections"
kind_text fault1025th = ascii "1,025th"

-- §13.11: the table and the entry's index
unfoldable pub place_text : Place → List ℕ
place_text (at_collection i) = ascii "collection table, entry " ++ decimal i
place_text (at_device i) = ascii "device table, entry " ++ decimal i
place_text (at_event d i) = ascii "ITT of device " ++ decimal d ++ ascii ", entry " ++ decimal i

-- §13.11: what stands behind the answer of a restore
unfoldable pub fault_text : Fault → List ℕ
fault_text f = place_text f.place ++ ascii ": " ++ kind_text f.kind

-- Inner: the parts of a code as the code takes them; a number that no fault has stands for the last one, and no code has it
unfoldable pub kind_of : ℕ → Kind
kind_of n =
    choose (eqb n 1) fault_pe
    (choose (eqb n 2) fault_repeat
    (choose (eqb n 3) fault17th
    (choose (eqb n 4) fault_next
    (choose (eqb n 5) fault_size
    (choose (eqb n 6) fault33rd
    (choose (eqb n 7) fault_outside
    (choose (eqb n 8) fault_overlap
    (choose (eqb n 9) fault_lpi
    (choose (eqb n 10) fault_icid fault1025th)))))))))

unfoldable pub place_in : ℕ → ℕ → ℕ → Place
place_in table device entry = choose (eqb table 1) (at_collection entry) (choose (eqb table 2) (at_device entry) (at_event device entry))

unfoldable pub fault_of : ℕ → Fault
fault_of c = at (place_in (get_field c 32 8) (get_field c 16 16) (get_field c 0 16)) (kind_of (get_field c 40 8))

-- Inner: no fault's text is longer: 62 bytes of an ITT and its entry, 2 of the colon and the space, 27 of the longest name
abbrev pub fault_room : ℕ
fault_room = 91

-- Inner: text put into a buffer from an index on: what stands before it stays, and the index after it, at most a room further, is handed back
pub record Puts (before : List ℕ) (at : ℕ) (text : List ℕ) (room : ℕ) (after : List ℕ) (r : ℕ) : Type 0 where
  pub is : take r after ≡ take at before ++ text
  pub most : r ≤ at + room
