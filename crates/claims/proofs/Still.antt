-- No call of the VGIC changes the memory or the tables' places, takes a VCPU away, or changes the interrupt count without marking it as set.
use Prim.Native.Nat.{ℕ, ◌%◌, ◌≤◌}
use native.Mathlib.Omega.{arith}
use mathlib.Core.Path.{◌≡◌, refl}
use mathlib.Core.Logic.{◌⊎◌, inl, inr}
use mathlib.Core.Bool.{◌||◌, ◌&&◌}
use mathlib.Core.List.{[], ◌∷◌}
use lib.ListN.{length, length-append, length-set}
use lib.Dec.{ltb, leb, eqb}
use Rattle.guest.specs.declared.Control.{Control}
use Rattle.guest.specs.declared.Bank.{Bank}
use Rattle.guest.specs.declared.Vcpu.{Vcpu}
use Rattle.guest.specs.Machine.{Machine, Result, initialised, is_set, no_vcpu}
use Rattle.rules.specs.Rules.{taken, irqs_ok}
use Rattle.frames.specs.Vcpus.{add_vcpu, set_running, set_irqs, its_init}
use Rattle.frames.specs.Bases.{frame_fault, single_fault, region_fault, set_distributor, set_single, set_its_base, add_region, set_group0, set_its_group0}
use Rattle.frames.specs.Init.{has_places, vgic_init}
use Rattle.irqs.specs.declared.Spot.{Spot}
use Rattle.irqs.specs.declared.Spot.TheVariants.{Own, Shared, Absent}
use Rattle.irqs.specs.declared.Register.{Register}
use Rattle.irqs.specs.declared.Register.TheVariants.{Latch, Zero, Status, Unknown}
use Rattle.banks.specs.Bank.{with_level, with_trigger, raised, lowered}
use Rattle.irqs.specs.Spots.{spot_of, shared_spot, bank_of, with_bank, with_vcpu, vcpu_of, trigger_word, level_word}
use Rattle.irqs.specs.Irqs.{irq_fault, change_irq, irq_set, irq_clear, irq_line, irq_trigger}
use Rattle.irqs.specs.Registers.{distributor_register, redistributor_register, register_fault, distributor_write, redistributor_write, offset_of, affinity_of, set_group1, group5_fault, set_group5, group7_fault, level_spot, set_group7}
use Rattle.kept.proofs.Choice.{chosen}
use Rattle.calls.specs.declared.Change.{Change}
use Rattle.calls.specs.declared.Change.TheVariants.{AddVcpu, Start, Stop, VgicSet, ItsSet, SetPending, ClearPending, Activate, Line, Trigger}
use Rattle.calls.specs.Groups.{set_group4, vgic_set, set_its_group4, its_set}
use Rattle.calls.specs.Steps.{change_step}

-- a count that is marked as set, or the count and the mark that stood
abbrev pub Counts : Control → Control → Type 0
Counts c next = (next.irqsset ≡ 1) ⊎ ((next.irqs ≡ c.irqs) × (next.irqsset ≡ c.irqsset))

-- the same memory and tables, no fewer VCPUs, and the count
pub record Still (m next : Machine) : Type 0 where
  pub memory : next.memory ≡ m.memory
  pub tables : next.tables ≡ m.tables
  pub vcpus : length m.vcpus ≤ length next.vcpus
  pub count : Counts m.control next.control

module _ (m : Machine) where
  same : Still m m
  same = record { memory = refl; tables = refl; vcpus = omega arith; count = inr (refl, refl) }

  abbrev Stills : Result → Type 0
  Stills r = Still m r.next

  vcpu_still : (k : ℕ) (v : Vcpu) → Still m (with_vcpu k v m)
  vcpu_still k v = record { memory = refl; tables = refl; vcpus = rw (length-set m.vcpus k v) (omega arith); count = inr (refl, refl) }

  bank_still : (s : Spot) (b : Bank) → Still m (with_bank s b m)
  bank_still (Own k) b = vcpu_still k _
  bank_still (Shared j) b = record { memory = refl; tables = refl; vcpus = omega arith; count = inr (refl, refl) }
  bank_still Absent b = same

  distributor_still : (r : Register) (value : ℕ) → Still m (distributor_write r value m)
  distributor_still (Latch n) value = bank_still (shared_spot n m) _
  distributor_still Zero value = same
  distributor_still Status value = record { memory = refl; tables = refl; vcpus = omega arith; count = inr (refl, refl) }
  distributor_still Unknown value = same

  redistributor_still : (r : Register) (k value : ℕ) → Still m (redistributor_write r k value m)
  redistributor_still (Latch n) k value = bank_still (Own k) _
  redistributor_still Zero k value = same
  redistributor_still Status k value = vcpu_still k _
  redistributor_still Unknown k value = same

  -- the calls that name a VCPU and an INTID
  change_irq_lem : (k i : ℕ) (f : Bank → Bank) → Still m (change_irq k i f m).next
  change_irq_lem k i f = chosen Stills (eqb (irq_fault k i m) 0) (bank_still (spot_of k i m) _) same

  set_still : (k i : ℕ) → Still m (irq_set k i m).next
  unfolding irq_set
  set_still k i = change_irq_lem k i (raised (i % 32))

  clear_still : (k i : ℕ) → Still m (irq_clear k i m).next
  unfolding irq_clear
  clear_still k i = change_irq_lem k i (lowered (i % 32))

  trigger_still : (k i w : ℕ) → Still m (irq_trigger k i w m).next
  unfolding irq_trigger
  trigger_still k i w = change_irq_lem k i (with_trigger (trigger_word (spot_of k i m) w))

  line_still : (k i l : ℕ) → Still m (irq_line k i l m).next
  unfolding irq_line
  line_still k i l =
      chosen Stills (eqb (irq_fault k i m) 0)
      (chosen Stills (ltb 1 l) same (chosen Stills (ltb i 16) same (bank_still (spot_of k i m) _)))
      same

  -- VCPUs and marks
  add_still : (a : ℕ) → Still m (add_vcpu a m).next
  unfolding add_vcpu
  add_still a =
      chosen Stills (initialised m) same
      (chosen Stills (taken m.vcpus a) same
      (chosen Stills (leb 64 (length m.vcpus)) same
      (record { memory = refl; tables = refl; vcpus = rw (length-append m.vcpus (no_vcpu a ∷ [])) (omega arith); count = inr (refl, refl) })))

  running_still : (r : ℕ) → Still m (set_running r m).next
  unfolding set_running
  running_still r = chosen Stills (initialised m) (record { memory = refl; tables = refl; vcpus = omega arith; count = inr (refl, refl) }) same

  irqs_still : (a w v : ℕ) → Still m (set_irqs a w v m).next
  unfolding set_irqs
  irqs_still a w v =
      chosen Stills (eqb a 0)
      (chosen Stills (eqb w 4)
      (chosen Stills (irqs_ok v)
      (chosen Stills (eqb m.control.irqsset 1 || initialised m) same (record { memory = refl; tables = refl; vcpus = omega arith; count = inl refl }))
      same)
      same)
      same

  its_init_still : Still m (its_init m).next
  unfolding its_init
  its_init_still =
      chosen Stills (initialised m && is_set m.frames.its) (record { memory = refl; tables = refl; vcpus = omega arith; count = inr (refl, refl) }) same

  init_still : Still m (vgic_init m).next
  unfolding vgic_init
  init_still =
      chosen Stills (initialised m) same
      (chosen Stills (eqb (length m.vcpus) 0) same
      (chosen Stills (is_set m.frames.distributor)
      (chosen Stills (has_places m) (record { memory = refl; tables = refl; vcpus = omega arith; count = inr (refl, refl) }) same)
      same))

  -- frames and regions
  base_still : (a w v : ℕ) → Still m (set_group0 a w v m).next
  unfolding set_group0 set_distributor set_single add_region
  base_still a w v =
      chosen Stills (eqb a 2)
      (chosen Stills (eqb w 8) (chosen Stills (eqb (frame_fault m.frames.distributor _ v m) 0) (record { memory = refl; tables = refl; vcpus = omega arith; count = inr (refl, refl) }) same) same)
      (chosen Stills (eqb a 3)
      (chosen Stills (eqb w 8) (chosen Stills (eqb (single_fault v m) 0) (record { memory = refl; tables = refl; vcpus = omega arith; count = inr (refl, refl) }) same) same)
      (chosen Stills (eqb a 5)
      (chosen Stills (eqb w 8) (chosen Stills (eqb (region_fault v m) 0) (record { memory = refl; tables = refl; vcpus = omega arith; count = inr (refl, refl) }) same) same)
      same))

  its_base_still : (a w v : ℕ) → Still m (set_its_group0 a w v m).next
  unfolding set_its_group0 set_its_base
  its_base_still a w v =
      chosen Stills (eqb a 4)
      (chosen Stills (eqb w 8) (chosen Stills (eqb (frame_fault m.frames.its _ v m) 0) (record { memory = refl; tables = refl; vcpus = omega arith; count = inr (refl, refl) }) same) same)
      same

  -- registers
  group1_still : (a w v : ℕ) → Still m (set_group1 a w v m).next
  unfolding set_group1
  group1_still a w v =
      let r = distributor_register (offset_of a) in
      chosen Stills (eqb (register_fault r w m) 0) (distributor_still r v) same

  group5_still : (a w v : ℕ) → Still m (set_group5 a w v m).next
  unfolding set_group5
  group5_still a w v =
      chosen Stills (eqb (group5_fault a w m) 0)
      (redistributor_still (redistributor_register (offset_of a)) (vcpu_of (affinity_of a) m) v)
      same

  group7_still : (a w v : ℕ) → Still m (set_group7 a w v m).next
  unfolding set_group7
  group7_still a w v =
      let s = level_spot a m in
      chosen Stills (eqb (group7_fault a w m) 0) (bank_still s (with_level (level_word s v) (bank_of s m))) same

  pub change_still : (c : Change) → Still m (change_step c m).next
  unfolding vgic_set set_group4 its_set set_its_group4
  change_still (AddVcpu a) = add_still a
  change_still Start = running_still 1
  change_still Stop = running_still 0
  change_still (VgicSet g a w v) =
      chosen Stills (eqb g 0) (base_still a w v)
      (chosen Stills (eqb g 1) (group1_still a w v)
      (chosen Stills (eqb g 3) (irqs_still a w v)
      (chosen Stills (eqb g 4) (chosen Stills (eqb a 0) (chosen Stills (eqb w 0) init_still same) same)
      (chosen Stills (eqb g 5) (group5_still a w v)
      (chosen Stills (eqb g 7) (group7_still a w v) same)))))
  change_still (ItsSet g a w v) =
      chosen Stills (eqb g 0) (its_base_still a w v)
      (chosen Stills (eqb g 4)
      (chosen Stills (eqb a 0) (chosen Stills (eqb w 0) its_init_still same)
      (chosen Stills (eqb a 1 || eqb a 2) same same))
      same)
  change_still (SetPending k i) = set_still k i
  change_still (ClearPending k i) = clear_still k i
  change_still (Activate k i) = clear_still k i
  change_still (Line k i l) = line_still k i l
  change_still (Trigger k i w) = trigger_still k i w
