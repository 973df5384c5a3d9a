-- Which VCPUs, INTIDs and line levels the calls take (§4.8), and whose bit a read of pending gives and a change stores (§4.2, §4.9, §4.17).
-- Assumes nothing.
use Prim.Native.Nat.{ℕ, ◌-◌, ◌/◌, ◌%◌, ◌^◌, ◌≤◌, ◌<◌}
use native.Mathlib.Nat.{mod-eq_of_lt, zero-div}
use native.Mathlib.Omega.{arith}
use mathlib.Core.Path.{◌≡◌, refl, ap, ◌∙◌}
use mathlib.Core.Logic.{◌↔◌, ◌≢◌, ◌⊎◌, inl, inr}
use mathlib.Core.Bool.{Bool, true, false}
use lib.ListN.{length, get_or, length-set}
use lib.Seq.{get_or-set_same}
use lib.Dec.{ltb, eqb}
use borrow.Author.Tests.{lt-ltb, le-ltb, eqb-true, eqb-false, ltb-true, ltb-false}
use Rattle.lists.specs.Rows.{choose}
use Rattle.guest.specs.declared.Bank.{Bank}
use Rattle.guest.specs.declared.Vcpu.{Vcpu}
use Rattle.guest.specs.Machine.{Reading}
use Rattle.guest.specs.Machine.{Machine, accept, initialised, no_bank, no_vcpu, bank_bits}
use Rattle.guest.specs.Words.{BankFits}
use Rattle.guest.proofs.Anchors.{bit_at, bits_below}
use Rattle.banks.specs.Bank.{pending, raised, lowered, lined, with_trigger, trimmed}
use Rattle.banks.proofs.Anchors.{level_quiet}
use Rattle.banks.proofs.Fits.{trimmed_same, trimmed_trigger, raised_fits, lowered_fits, lined_fits}
use Rattle.irqs.specs.declared.Spot.TheVariants.{Own, Shared}
use Rattle.irqs.specs.Spots.{spot_of, shared_spot, bank_of, trigger_word}
use Rattle.irqs.specs.Irqs.{irq_fault, irq_pending, irq_set, irq_clear, irq_line, irq_trigger, changed}
use Rattle.irqs.proofs.IrqLaws.{not_ready_lem, no_vcpu_lem, no_intid, no_fault}

-- INTID 1,023 is the last one
module _ (k : ℕ) (m : Machine) (i : m.control.init ≡ 1) (v : k < length m.vcpus) where
  pub intid_last : irq_fault k 1023 m ≡ 0
  unfolding irq_fault
  intid_last = rw (i, lt-ltb k (length m.vcpus) v)

  pub intid_none : irq_fault k 1024 m ≡ 22
  unfolding irq_fault
  intid_none = rw (i, lt-ltb k (length m.vcpus) v)

module _ (k intid : ℕ) (m : Machine) where
  -- what a call must name: an initialised guest, one of its VCPUs, an INTID up to 1,023
  abbrev pub Named : Type 0
  Named = (m.control.init ≡ 1) × (k < length m.vcpus) × (intid ≤ 1023)

  -- there is no fault exactly then; before INIT it is 6, and after it 22
  pub fault_none : irq_fault k intid m ≡ 0 ↔ Named
  unfolding irq_fault
  fault_none = (to, from)
    where
      to : irq_fault k intid m ≡ 0 → Named
      to h = by (initialised m) refl (ltb k (length m.vcpus)) refl (ltb 1023 intid) refl
        where
          by : (a : Bool) → initialised m ≡ a → (b : Bool) → ltb k (length m.vcpus) ≡ b → (c : Bool) → ltb 1023 intid ≡ c → Named
          by true a true b false c = (eqb-true m.control.init 1 a, ltb-true k (length m.vcpus) b, ltb-false 1023 intid c)
          by true a true b true c = absurd (omega (arith, (rw (a, b, c) at h)))
          by true a false b t c = absurd (omega (arith, (rw (a, b) at h)))
          by false a s b t c = absurd (omega (arith, (rw a at h)))

      from : Named → irq_fault k intid m ≡ 0
      from n = no_fault k intid m n.0 n.1 n.2

  pub fault_early : m.control.init ≢ 1 → irq_fault k intid m ≡ 6
  fault_early n = not_ready_lem k intid m n

  pub fault_no_vcpu : m.control.init ≡ 1 → length m.vcpus ≤ k → irq_fault k intid m ≡ 22
  fault_no_vcpu i h = no_vcpu_lem k intid m i h

  pub fault_no_intid : m.control.init ≡ 1 → k < length m.vcpus → 1023 < intid → irq_fault k intid m ≡ 22
  fault_no_intid i v h = no_intid k intid m i v h

  -- b is the bank of the INTID: the named VCPU's own below 32, a shared one from 32 on
  abbrev pub Holds : Machine → Bank → Type 0
  Holds m' b =
      ((intid < 32) × ((get_or m'.vcpus k (no_vcpu 0)).bank ≡ b))
      ⊎ ((32 ≤ intid) × (intid / 32 - 1 < length m'.shared) × (get_or m'.shared (intid / 32 - 1) no_bank ≡ b))

  own_spot : intid < 32 → spot_of k intid m ≡ Own k
  unfolding spot_of
  own_spot h = rw (lt-ltb intid 32 h)

  shared_spot_lem : 32 ≤ intid → intid / 32 - 1 < length m.shared → spot_of k intid m ≡ Shared (intid / 32 - 1)
  unfolding spot_of shared_spot
  shared_spot_lem h l = rw (le-ltb intid 32 h, lt-ltb (intid / 32 - 1) (length m.shared) l)

  -- how many interrupts the shared bank of the INTID has
  abbrev bits : ℕ
  bits = bank_bits (intid / 32 - 1)

  -- a change leaves x there, if that is what is stored of the changed bank
  changed_holds : (f : Bank → Bank) (b x : Bank) → k < length m.vcpus → (intid < 32 → f b ≡ x) → (32 ≤ intid → trimmed bits (f b) ≡ x)
      → Holds m b → Holds (changed k intid f m) x
  changed_holds f b x v own shared (inl p) =
      inl (p.0, rw (own_spot p.0) (ap (λ (y : Vcpu). y.bank) (get_or-set_same m.vcpus k _ (no_vcpu 0) v) ∙ ap f p.1 ∙ own p.0))
  changed_holds f b x v own shared (inr p) =
      inr (
        p.0,
        rw (shared_spot_lem p.0 p.1, length-set) p.1,
        rw (shared_spot_lem p.0 p.1)
            (get_or-set_same m.shared (intid / 32 - 1) _ no_bank p.1 ∙ ap (λ (y : Bank). trimmed bits (f y)) p.2 ∙ shared p.0),
      )

  -- a changed bank is stored as it is where it fits, as that of an INTID below 1,020 does
  kept_holds : (f : Bank → Bank) (b : Bank) → k < length m.vcpus → (32 ≤ intid → BankFits bits (f b)) → Holds m b → Holds (changed k intid f m) (f b)
  kept_holds f b v g h = changed_holds f b (f b) v (λ l. refl) (λ l. trimmed_same bits (f b) (g l)) h

  module _ (n : Named) where
    -- a call reads or changes that bank, at bit intid mod 32
    module _ (b : Bank) (h : Holds m b) where
      pub pending_read : irq_pending k intid m ≡ record { errno = 0; number = pending b (intid % 32) }
      unfolding irq_pending
      pending_read = rw (fault_none.1 n) (ap told (at h))
        where
          told : Bank → Reading
          told x = record { errno = 0; number = pending x (intid % 32) }

          at : Holds m b → bank_of (spot_of k intid m) m ≡ b
          at (inl p) = rw (own_spot p.0) p.1
          at (inr p) = rw (shared_spot_lem p.0 p.1) p.2

      -- where a shared bank fits its interrupts, as it does in a sound guest
      module _ (f : 32 ≤ intid → BankFits bits b) where
        -- an INTID below 1,020 has its latch set and cleared, and its line stored
        module _ (u : intid < 1020) where
          pub set_holds : ((irq_set k intid m).errno ≡ 0) × Holds (irq_set k intid m).next (raised (intid % 32) b)
          unfolding irq_set
          set_holds =
              rw (fault_none.1 n)
              (refl, kept_holds (raised (intid % 32)) b n.1 (λ l. raised_fits bits b (f l) (intid % 32) (bits_below intid l u)) h)

          pub clear_holds : ((irq_clear k intid m).errno ≡ 0) × Holds (irq_clear k intid m).next (lowered (intid % 32) b)
          unfolding irq_clear
          clear_holds =
              rw (fault_none.1 n)
              (refl, kept_holds (lowered (intid % 32)) b n.1 (λ l. lowered_fits bits b (f l) (intid % 32) (bits_below intid l u)) h)

          pub line_holds : (level : ℕ) → level ≤ 1 → 16 ≤ intid
              → ((irq_line k intid level m).errno ≡ 0) × Holds (irq_line k intid level m).next (lined (intid % 32) level b)
          unfolding irq_line
          line_holds level v g =
              rw (fault_none.1 n, le-ltb 1 level v, le-ltb intid 16 g)
              (refl, kept_holds (lined (intid % 32) level) b n.1 (λ l. lined_fits bits b (f l) (intid % 32) (bits_below intid l u) level v) h)

        -- a trigger word goes into the bank of each shared INTID, of those from 1,020 on too: as many bits of it as the bank has interrupts
        pub trigger_holds : (word : ℕ) → 32 ≤ intid → intid / 32 - 1 < length m.shared
            → ((irq_trigger k intid word m).errno ≡ 0) × Holds (irq_trigger k intid word m).next (with_trigger (word % 2 ^ bits) b)
        unfolding irq_trigger
        trigger_holds word l s =
            rw (fault_none.1 n) (
              refl,
              changed_holds (with_trigger (trigger_word (spot_of k intid m) word)) b (with_trigger (word % 2 ^ bits) b) n.1
                  (λ o. absurd (omega arith)) (λ o. rw (shared_spot_lem l s) (trimmed_trigger bits word b (f l))) h,
            )

    pub pending_own : intid < 32 → irq_pending k intid m ≡ record { errno = 0; number = pending (get_or m.vcpus k (no_vcpu 0)).bank intid }
    pending_own h = rw (mod-eq_of_lt h) at (pending_read (get_or m.vcpus k (no_vcpu 0)).bank (inl (h, refl)))

    -- from 32 on, with a shared bank for each 32 interrupts of the count but the first
    module _ (c : length m.shared ≡ m.control.irqs / 32 - 1) (s : m.control.irqs % 32 ≡ 0) (h : 32 ≤ intid) where
      -- below the count it is a bit of the shared bank, VCPU or not
      pub pending_shared : intid < m.control.irqs
          → irq_pending k intid m ≡ record { errno = 0; number = pending (get_or m.shared (intid / 32 - 1) no_bank) (intid % 32) }
      pending_shared l = pending_read (get_or m.shared (intid / 32 - 1) no_bank) (inr (h, omega arith, refl))

      -- at or above it, 0
      pub pending_absent : m.control.irqs ≤ intid → irq_pending k intid m ≡ record { errno = 0; number = 0 }
      unfolding irq_pending spot_of shared_spot
      pending_absent l =
          let b : length m.shared ≤ intid / 32 - 1 = omega arith in
          let z : bit_at 0 (intid % 32) ≡ 0 = ap (λ (x : ℕ). x % 2) (zero-div (2 ^ (intid % 32))) in
          rw (fault_none.1 n, le-ltb intid 32 h, le-ltb (intid / 32 - 1) (length m.shared) b, level_quiet no_bank (intid % 32) z z z)

  -- a line change takes levels 0 and 1; an SGI ignores it
  module _ (level : ℕ) where
    pub line_bad : Named → 1 < level → irq_line k intid level m ≡ record { errno = 22; next = m }
    unfolding irq_line
    line_bad n h = rw (fault_none.1 n, lt-ltb 1 level h)

    pub line_sgi : Named → level ≤ 1 → intid < 16 → irq_line k intid level m ≡ record { errno = 0; next = m }
    unfolding irq_line
    line_sgi n l h = rw (fault_none.1 n, le-ltb 1 level l, lt-ltb intid 16 h)

    pub line_accepted : (irq_line k intid level m).errno ≡ 0 ↔ Named × (level ≤ 1)
    unfolding irq_line
    line_accepted = (to, from)
      where
        to : (irq_line k intid level m).errno ≡ 0 → Named × (level ≤ 1)
        to e = by (eqb (irq_fault k intid m) 0) refl (ltb 1 level) refl
          where
            by : (a : Bool) → eqb (irq_fault k intid m) 0 ≡ a → (b : Bool) → ltb 1 level ≡ b → Named × (level ≤ 1)
            by true a false b = (fault_none.0 (eqb-true (irq_fault k intid m) 0 a), ltb-false 1 level b)
            by true a true b = absurd (omega (arith, (rw (a, b) at e)))
            by false a t b = absurd (eqb-false (irq_fault k intid m) 0 a (rw a at e))

        from : Named × (level ≤ 1) → (irq_line k intid level m).errno ≡ 0
        from p = rw (fault_none.1 p.0, le-ltb 1 level p.1) (sgi (ltb intid 16))
          where
            sgi : (t : Bool) → (choose t (accept m) (accept (changed k intid (lined (intid % 32) level) m))).errno ≡ 0
            sgi true = refl
            sgi false = refl
