-- What the parts of a restore ask and say.
use Rattle.std.specs.Prelude.{ℕ, ◌-◌, Bool, List, [], ◌∷◌, take, drop, leb, Result, Ok, Err, ⊤}
use Rattle.lists.specs.Rows.{choose}
use Rattle.areas.specs.declared.Area.{Area}
use Rattle.guest.specs.declared.Memory.{Memory}
use Rattle.guest.specs.Machine.{Machine}
use Rattle.mapping.specs.declared.Device.{Device}
use Rattle.mapping.specs.Mapped.{Mapped}
use Rattle.tables.specs.Fault.{Kind}
use Rattle.tables.specs.Restored.{Test, device_tests}
use Rattle.codes.specs.Codes.{kind_is}
use Rattle.codes.specs.declared.Kind as kinds

-- Inner: the bytes of an area of a run of memory
abbrev pub bytes_in : Memory → List ℕ → Area → List ℕ
bytes_in r mem a = take a.size (drop (a.start - r.start) mem)

-- Inner: at most 16 bits of event ID: the size of the ITT is then a number of the code
abbrev pub few_bits : Device → Bool
few_bits d = leb d.bits 16

-- Inner: the first test that fails, if one does
abbrev pub first_kind : List Test → Result ⊤ Kind
first_kind [] = Ok tt
first_kind (t ∷ ts) = choose t.fails (Err t.kind) (first_kind ts)

-- Inner: a device's own fault
unfoldable pub read_fault : Bool → Machine → Device → Mapped → Result ⊤ Kind
read_fault good m d k = first_kind (device_tests good m d k)

-- Inner: the same as the code has it
abbrev pub kind_met : Result ⊤ kinds.Kind → Result ⊤ Kind
kind_met (Ok u) = Ok tt
kind_met (Err c) = Err (kind_is c)
