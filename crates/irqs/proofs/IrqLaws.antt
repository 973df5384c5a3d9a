-- What the calls that name a VCPU and an INTID come to, from what the code's parts say.
use Prim.Native.Nat.{ℕ, ◌%◌, ◌≤◌, ◌<◌}
use native.Mathlib.Omega.{arith}
use mathlib.Core.Path.{◌≡◌, refl, sym, ◌∙◌}
use mathlib.Core.Bool.{Bool, true, false}
use lib.ListN.{length}
use lib.Dec.{ltb, eqb}
use borrow.Author.Tests.{lt-ltb, le-ltb, eq-eqb, ne_eqb, ltb-true}
use Rattle.lists.specs.Rows.{choose}
use Rattle.guest.specs.declared.Bank.{Bank}
use Rattle.guest.specs.Machine.{Machine, refuse, accept, initialised}
use Rattle.irqs.specs.declared.Spot.{Spot}
use Rattle.banks.specs.Bank.{pending, lined}
use Rattle.irqs.specs.Spots.{spot_of, bank_of, with_bank}
use Rattle.irqs.specs.Irqs.{irq_fault, irq_pending, change_irq, irq_line}

module _ (k intid : ℕ) (m : Machine) where
  -- the tests of a fault, in their order
  pub not_ready_lem : (m.control.init ≡ 1 → ⊥) → irq_fault k intid m ≡ 6
  unfolding irq_fault
  not_ready_lem h = rw (ne_eqb m.control.init 1 h)

  module _ (i : m.control.init ≡ 1) where
    pub no_vcpu_lem : length m.vcpus ≤ k → irq_fault k intid m ≡ 22
    unfolding irq_fault
    no_vcpu_lem h = rw (eq-eqb m.control.init 1 i, le-ltb k (length m.vcpus) h)

    pub no_intid : k < length m.vcpus → 1023 < intid → irq_fault k intid m ≡ 22
    unfolding irq_fault
    no_intid h n = rw (eq-eqb m.control.init 1 i, lt-ltb k (length m.vcpus) h, lt-ltb 1023 intid n)

    pub no_fault : k < length m.vcpus → intid ≤ 1023 → irq_fault k intid m ≡ 0
    unfolding irq_fault
    no_fault h n = rw (eq-eqb m.control.init 1 i, lt-ltb k (length m.vcpus) h, le-ltb 1023 intid n)

  -- a good call names a VCPU
  pub fault_vcpu : irq_fault k intid m ≡ 0 → k < length m.vcpus
  unfolding irq_fault
  fault_vcpu = by (initialised m) (ltb k (length m.vcpus)) refl
    where
      by : (a b : Bool) → ltb k (length m.vcpus) ≡ b → ◌≡◌ {A = ℕ} (choose a (choose b (choose (ltb 1023 intid) 22 0) 22) 6) 0 → k < length m.vcpus
      by true true e q = ltb-true k (length m.vcpus) e
      by true false e q = absurd (omega arith)
      by false b e q = absurd (omega arith)

  module _ (e : ℕ) (f : e ≡ irq_fault k intid m) where
    faulty : (e ≡ 0 → ⊥) → eqb (irq_fault k intid m) 0 ≡ false
    faulty n = ne_eqb (irq_fault k intid m) 0 (λ z. n (f ∙ z))

    good : e ≡ 0 → eqb (irq_fault k intid m) 0 ≡ true
    good z = eq-eqb (irq_fault k intid m) 0 (sym f ∙ z)

    pub pending_refused : (e ≡ 0 → ⊥) → irq_pending k intid m ≡ record { errno = e; number = 0 }
    unfolding irq_pending
    pending_refused n = rw (faulty n, f)

    pub pending_told : (s : Spot) (b : Bank) (i : ℕ) → e ≡ 0 → s ≡ spot_of k intid m → b ≡ bank_of s m → i ≡ intid % 32 → irq_pending k intid m ≡ record { errno = 0; number = pending b i }
    unfolding irq_pending
    pending_told s b i z p q r = rw (good z, r, q, p)

    pub change_refused : (c : Bank → Bank) → (e ≡ 0 → ⊥) → change_irq k intid c m ≡ refuse m e
    change_refused c n = rw (faulty n, f)

    -- the code's spot, the bank there, and the bank stored
    pub change_done : (c : Bank → Bank) (s : Spot) (b x : Bank) → e ≡ 0 → s ≡ spot_of k intid m → b ≡ bank_of s m → x ≡ c b
        → change_irq k intid c m ≡ accept (with_bank s x m)
    change_done c s b x z p q r = rw (good z, ← p, ← q, ← r)

    module _ (level : ℕ) where
      pub line_refused : (e ≡ 0 → ⊥) → irq_line k intid level m ≡ refuse m e
      unfolding irq_line
      line_refused n = rw (faulty n, f)

      pub line_above : e ≡ 0 → 1 < level → irq_line k intid level m ≡ refuse m 22
      unfolding irq_line
      line_above z h = rw (good z, lt-ltb 1 level h)

      pub line_sgi : e ≡ 0 → level ≤ 1 → intid < 16 → irq_line k intid level m ≡ accept m
      unfolding irq_line
      line_sgi z h n = rw (good z, le-ltb 1 level h, lt-ltb intid 16 n)

      pub line_done : (s : Spot) (b x : Bank) → e ≡ 0 → level ≤ 1 → 16 ≤ intid → s ≡ spot_of k intid m → b ≡ bank_of s m → x ≡ lined (intid % 32) level b
          → irq_line k intid level m ≡ accept (with_bank s x m)
      unfolding irq_line
      line_done s b x z h n p q r = rw (good z, le-ltb 1 level h, le-ltb intid 16 n, ← p, ← q, ← r)
