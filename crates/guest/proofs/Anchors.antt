-- The fresh guest (§1.5) and the new VCPU (§3.1), number by number; which INTIDs are no interrupts (§4.17). Assumes nothing.
use Prim.Native.Nat.{ℕ, zero, suc, ◌+◌, ◌-◌, ◌/◌, ◌%◌, ◌^◌, ◌≤◌, ◌<◌}
use native.Mathlib.Nat.{div-eq_of_lt, lt_of_lt_of_le}
use native.Mathlib.Omega.{arith}
use mathlib.Core.Path.{◌≡◌, refl, sym, ap, ◌∙◌}
use mathlib.Core.Bool.{Bool, true, false}
use lib.ListN.{length, replicate}
use lib.Pow.{ones_split, ones_lt, high, low, pow_mono}
use lib.Dec.{eqb, lit<}
use borrow.Author.Tests.{eqb-true}
use Rattle.lists.specs.Rows.{choose}
use Rattle.lists.proofs.All.{All, none, more}
use Rattle.guest.specs.declared.Bank.{Bank}
use Rattle.guest.specs.Machine.{fresh, no_vcpu, bank_bits}

-- bit i of a word
abbrev pub bit_at : ℕ → ℕ → ℕ
bit_at word i = word / 2 ^ i % 2

-- a bank with no latch, no line up and no edge interrupt
abbrev pub Blank : Bank → Type 0
Blank b = (b.latch ≡ 0) × (b.level ≡ 0) × (b.trigger ≡ 0)

-- a fresh guest of an address width, a start and a length
module _ (width start size : ℕ) where
  pub fresh_memory : ((fresh width start size).memory.width ≡ width) × ((fresh width start size).memory.start ≡ start)
      × ((fresh width start size).memory.length ≡ size)
  fresh_memory = (refl, refl, refl)

  -- 64 interrupts, not set by hand: one shared bank, all 0
  pub fresh_count : ((fresh width start size).control.irqs ≡ 64) × ((fresh width start size).control.irqsset ≡ 0)
  fresh_count = (refl, refl)

  pub fresh_shared : (length (fresh width start size).shared ≡ 1) × All Blank (fresh width start size).shared
  fresh_shared = (refl, blanks 1)
    where
      blanks : (n : ℕ) → All Blank (replicate n (record { latch = 0; level = 0; trigger = 0 }))
      blanks zero = none
      blanks (suc n) = more (refl, refl, refl) (blanks n)

  -- no VCPU and no region
  pub fresh_rows : (length (fresh width start size).vcpus ≡ 0) × (length (fresh width start size).regions ≡ 0)
  fresh_rows = (refl, refl)

  -- no INIT, no ITS INIT, not running
  pub fresh_marks : ((fresh width start size).control.init ≡ 0) × ((fresh width start size).control.itsinit ≡ 0)
      × ((fresh width start size).control.running ≡ 0) × ((fresh width start size).control.status ≡ 0)
  fresh_marks = (refl, refl, refl, refl)

  -- no frame's base set, no table placed
  pub fresh_places : ((fresh width start size).frames.distributor.set ≡ 0) × ((fresh width start size).frames.single.set ≡ 0)
      × ((fresh width start size).frames.its.set ≡ 0) × ((fresh width start size).tables.devices.set ≡ 0)
      × ((fresh width start size).tables.collections.set ≡ 0)
  fresh_places = (refl, refl, refl, refl, refl)

-- a VCPU as it is added: its SGIs, INTIDs 0 to 15, are edge, and the rest level
module _ (affinity : ℕ) where
  pub vcpu_words_lem : ((no_vcpu affinity).affinity ≡ affinity) × ((no_vcpu affinity).bank.latch ≡ 0) × ((no_vcpu affinity).bank.level ≡ 0)
      × ((no_vcpu affinity).status ≡ 0)
  vcpu_words_lem = (refl, refl, refl, refl)

  pub vcpu_edge : (i : ℕ) → i < 16 → bit_at (no_vcpu affinity).bank.trigger i ≡ 1
  vcpu_edge i h =
      let j = 15 - i in
      let e : j + 1 + i ≡ 16 = omega arith in
      ap (λ (n : ℕ). (2 ^ n - 1) / 2 ^ i % 2) (sym e)
      ∙ ap (λ (n : ℕ). n / 2 ^ i % 2) (ones_split (j + 1) i)
      ∙ ap (λ (n : ℕ). n % 2) (high (2 ^ (j + 1) - 1) i (ones_lt i))
      ∙ ap (λ (n : ℕ). n % 2) (ones_split j 1)
      ∙ low (2 ^ j - 1) 1 (lit< tt)

  pub vcpu_level : (i : ℕ) → 16 ≤ i → bit_at (no_vcpu affinity).bank.trigger i ≡ 0
  vcpu_level i h =
      let l : 65535 < 2 ^ i = lt_of_lt_of_le (lit< tt) (pow_mono h) in
      ap (λ (n : ℕ). n % 2) (div-eq_of_lt l)

-- of the shared INTIDs, 32 to 1,023, those from 1,020 on are past the interrupts of their bank, and no other is
module _ (intid : ℕ) (h : 32 ≤ intid) where
  pub bits_past : 1020 ≤ intid → intid ≤ 1023 → bank_bits (intid / 32 - 1) ≤ intid % 32
  unfolding bank_bits
  bits_past l u = let e : intid / 32 - 1 ≡ 30 = omega arith in rw e (omega arith)

  pub bits_below : intid < 1020 → intid % 32 < bank_bits (intid / 32 - 1)
  unfolding bank_bits
  bits_below l = by (eqb (intid / 32 - 1) 30) refl
    where
      by : (b : Bool) → eqb (intid / 32 - 1) 30 ≡ b → intid % 32 < choose b 28 32
      by true e = omega (arith, eqb-true (intid / 32 - 1) 30 e)
      by false e = omega arith

pub bits_least : (j : ℕ) → 1 ≤ bank_bits j
unfolding bank_bits
bits_least j = by (eqb j 30)
  where
    by : (b : Bool) → 1 ≤ choose b 28 32
    by true = omega arith
    by false = omega arith

pub bits_most : (j : ℕ) → bank_bits j ≤ 32
unfolding bank_bits
bits_most j = by (eqb j 30)
  where
    by : (b : Bool) → choose b 28 32 ≤ 32
    by true = omega arith
    by false = omega arith
