-- The six calls that name a VCPU and an INTID (§4.4 to §4.8).
use Rattle.std.specs.Prelude.{ℕ, ◌%◌, length, ltb, eqb}
use Rattle.lists.specs.Rows.{choose}
use Rattle.guest.specs.declared.Bank.{Bank}
use Rattle.guest.specs.Machine.{Reading}
use Rattle.guest.specs.Machine.{Machine, Result, refuse, accept, initialised}
use Rattle.banks.specs.Bank.{pending, raised, lowered, lined, with_trigger}
use Rattle.irqs.specs.Spots.{spot_of, bank_of, with_bank, trigger_word}

-- §4.8: what stops one of the six calls, in order; 0 for nothing. The VCPU is tested at every INTID.
unfoldable pub irq_fault : ℕ → ℕ → Machine → ℕ
irq_fault k intid m =
    choose (initialised m)
    (choose (ltb k (length m.vcpus)) (choose (ltb 1023 intid) 22 0) 22)
    6

-- §4.4: pending of the INTID, which is bit n mod 32 of its bank (§4.2)
unfoldable pub irq_pending : ℕ → ℕ → Machine → Reading
irq_pending k intid m =
    choose (eqb (irq_fault k intid m) 0)
    (record { errno = 0; number = pending (bank_of (spot_of k intid m) m) (intid % 32) })
    (record { errno = irq_fault k intid m; number = 0 })

-- Notation: a change of the bank that the INTID is in
abbrev pub changed : ℕ → ℕ → (Bank → Bank) → Machine → Machine
changed k intid f m = with_bank (spot_of k intid m) (f (bank_of (spot_of k intid m) m)) m

-- §4.8: such a change where nothing stops the call; the answer is 0 past the count too (§4.9)
abbrev pub change_irq : ℕ → ℕ → (Bank → Bank) → Machine → Result
change_irq k intid f m =
    choose (eqb (irq_fault k intid m) 0)
    (accept (changed k intid f m))
    (refuse m (irq_fault k intid m))

-- §4.5: set makes the latch 1, an SGI's too
unfoldable pub irq_set : ℕ → ℕ → Machine → Result
irq_set k intid m = change_irq k intid (raised (intid % 32)) m

-- §4.5: clear and activate make the latch 0
unfoldable pub irq_clear : ℕ → ℕ → Machine → Result
irq_clear k intid m = change_irq k intid (lowered (intid % 32)) m

-- §4.6: a line. A level above 1 is the last of the faults of §4.8, for SGIs too; with a good level they ignore the call.
unfoldable pub irq_line : ℕ → ℕ → ℕ → Machine → Result
irq_line k intid level m =
    choose (eqb (irq_fault k intid m) 0)
    (choose (ltb 1 level) (refuse m 22)
    (choose (ltb intid 16) (accept m)
    (accept (changed k intid (lined (intid % 32) level) m))))
    (refuse m (irq_fault k intid m))

-- §4.7: the trigger of the INTID's bank, but for the bits of SGIs; `with_bank` cuts those past its interrupts (§4.17). The word has 32 bits by
-- the type of the export.
unfoldable pub irq_trigger : ℕ → ℕ → ℕ → Machine → Result
irq_trigger k intid word m = change_irq k intid (with_trigger (trigger_word (spot_of k intid m) word)) m
