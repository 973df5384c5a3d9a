-- The faults of the code as those of the definitions, and what the code that makes and reads codes promises.
use Rattle.std.specs.Prelude.{ℕ, ◌≡◌, Result, Ok, Err, ⊤}
use Rattle.tables.specs.Fault.{
  Place,
  at_collection,
  at_device,
  at_event,
  Kind,
  fault_pe,
  fault_repeat,
  fault17th,
  fault_next,
  fault_size,
  fault33rd,
  fault_outside,
  fault_overlap,
  fault_lpi,
  fault_icid,
  fault1025th,
  Fault,
  at,
  kind_errno,
  kind_number,
  code,
  Indexed,
}
use Rattle.codes.specs.declared.Kind as kinds
use Rattle.codes.specs.declared.Kind.TheVariants.{Pe, Repeat, Collection17th, Next, Size, Device33rd, Outside, Overlap, Lpi, Icid, Event1025th}
use Rattle.codes.specs.declared.NoKind.{NoKind}
use Rattle.codes.specs.declared.Place as places
use Rattle.codes.specs.declared.Place.TheVariants as variants
use Rattle.codes.specs.declared.Fault as faults

-- §13.4: the kind that one of the code stands for
abbrev pub kind_is : kinds.Kind → Kind
kind_is Pe = fault_pe
kind_is Repeat = fault_repeat
kind_is Collection17th = fault17th
kind_is Next = fault_next
kind_is Size = fault_size
kind_is Device33rd = fault33rd
kind_is Outside = fault_outside
kind_is Overlap = fault_overlap
kind_is Lpi = fault_lpi
kind_is Icid = fault_icid
kind_is Event1025th = fault1025th

-- §13.5: the place
abbrev pub place_is : places.Place → Place
place_is (variants.Collection i) = at_collection i
place_is (variants.Device i) = at_device i
place_is (variants.Event d i) = at_event d i

-- Notation: the fault
abbrev pub fault_is : faults.Fault → Fault
fault_is f = at (place_is f.place) (kind_is f.kind)

-- §13.6: the code of the fault that is met, 0 for none
abbrev pub code_met : Result ⊤ faults.Fault → ℕ
code_met (Ok u) = 0
code_met (Err f) = code (fault_is f)

-- Inner: the kind with this number, if one has it
abbrev pub Numbers : ℕ → Result kinds.Kind NoKind → Type 0
Numbers n (Ok c) = n ≡ kind_number (kind_is c)
Numbers n (Err e) = (c : Kind) → n ≡ kind_number c → ⊥

-- Inner: e is the errno of the fault with this code
abbrev pub Answers : ℕ → ℕ → Type 0
Answers n e = (f : Fault) → Indexed f.place → n ≡ code f → e ≡ kind_errno f.kind
