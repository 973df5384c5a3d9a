-- What a restore asks of the bytes and of the lent memory, and what it promises.
use Rattle.std.specs.Prelude.{ℕ, ◌≡◌, true, List, Result, Ok, Err, ⊤}
use Rattle.answers.specs.declared.Errno.{Errno}
use Rattle.guest.specs.Returned as returned
use Rattle.rules.specs.Rules.{rules}
use Rattle.mapping.specs.Mapped.{Mapped}
use Rattle.mapping.specs.MapRules.{is_placed}
use Rattle.layout.specs.Layout.{decode, Counted}
use Rattle.maplayout.specs.MapLayout.{stored_map}
use Rattle.tables.specs.Fault.{Fault, kind_errno, Indexed}
use Rattle.tables.specs.Restored.{Out, fault, found}
use Rattle.codes.specs.Codes.{fault_is}
use Rattle.codes.specs.declared.Fault as faults

-- Inner: a guest that keeps the rules, with its tables placed, and memory of the set length; the mapping in the bytes is not read
pub record Restorable (s : List ℕ) (len : ℕ) : Type 0 where
  pub counted : Counted s
  pub rules : rules (decode s) ≡ true
  pub placed : is_placed (decode s) ≡ true
  pub memory : len ≡ (decode s).memory.length

-- Inner: the errno of a fault, 0 for none
abbrev pub errno_of : Out → ℕ
errno_of (fault f) = kind_errno f.kind
errno_of (found k) = 0

-- Inner: the fault, if one is met; and the same as the code has it
abbrev pub first_of : Out → Result ⊤ Fault
first_of (fault f) = Err f
first_of (found k) = Ok tt

abbrev pub said : Result ⊤ faults.Fault → Result ⊤ Fault
said (Ok u) = Ok tt
said (Err f) = Err (fault_is f)

-- Inner: what is met, and the mapping where there is no fault. Where there is one nothing is said of the bytes left, but their length
pub record Leaves {A : Type 0} (what : Out → A) (s : List ℕ) (out : Out) (r : A) (left : List ℕ) : Type 0 where
  pub is : r ≡ what out
  pub named : (f : Fault) → out ≡ fault f → Indexed f.place
  pub stored : (k : Mapped) → out ≡ found k → left ≡ stored_map k s

-- Inner: the first fault, and a restore's errno
abbrev pub Reads : List ℕ → Out → Result ⊤ faults.Fault → List ℕ → Type 0
Reads s out r left = Leaves first_of s out (said r) left

abbrev pub Restores : List ℕ → Out → Result ⊤ Errno → List ℕ → Type 0
Restores s out r left = Leaves errno_of s out (returned.fault r) left
