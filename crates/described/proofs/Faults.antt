-- The numbers of a restore's faults. Assumes nothing.
use Prim.Native.Nat.{ℕ}
use mathlib.Core.Path.{◌≡◌, refl}
use mathlib.Core.Logic.{◌⊎◌, inl, inr}
use Rattle.tables.specs.Fault.{
  Kind,
  fault_pe,
  fault_repeat,
  fault17th,
  fault_next,
  fault_size,
  fault33rd,
  fault_outside,
  fault_overlap,
  fault_lpi,
  fault_icid,
  fault1025th,
  kind_errno,
}

-- one row too many -12, an ITT that is not inside memory -14, every other fault -22 (§9.4 to §9.7)
abbrev pub Known : ℕ → Type 0
Known e = (e ≡ 12) ⊎ ((e ≡ 14) ⊎ (e ≡ 22))

pub number_known : (c : Kind) → Known (kind_errno c)
number_known fault_pe = inr (inr refl)
number_known fault_repeat = inr (inr refl)
number_known fault17th = inl refl
number_known fault_next = inr (inr refl)
number_known fault_size = inr (inr refl)
number_known fault33rd = inl refl
number_known fault_outside = inr (inl refl)
number_known fault_overlap = inr (inr refl)
number_known fault_lpi = inr (inr refl)
number_known fault_icid = inr (inr refl)
number_known fault1025th = inl refl
