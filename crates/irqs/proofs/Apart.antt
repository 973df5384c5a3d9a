-- Banks stand apart (§4.16): after a call that names VCPU k and an INTID below 32, every question about VCPU j, another one, is answered
-- as before.
use Prim.Native.Nat.{ℕ, ◌-◌, ◌/◌, ◌%◌, ◌<◌}
use mathlib.Core.Path.{◌≡◌, refl, ap, ◌∙◌}
use mathlib.Core.Bool.{Bool, true, false}
use mathlib.Core.List.{List}
use lib.ListN.{length, get_or, length-set}
use lib.Seq.{get_or-set_other}
use lib.Dec.{ltb, eqb}
use borrow.Author.Tests.{lt-ltb, eq-eqb}
use Rattle.lists.specs.Rows.{choose}
use Rattle.guest.specs.declared.Bank.{Bank}
use Rattle.guest.specs.declared.Vcpu.{Vcpu}
use Rattle.guest.specs.Machine.{Machine, Result, no_bank, no_vcpu}
use Rattle.irqs.specs.declared.Spot.{Spot}
use Rattle.irqs.specs.declared.Spot.TheVariants.{Own, Shared, Absent}
use Rattle.irqs.specs.declared.Register.{Register}
use Rattle.irqs.specs.declared.Register.TheVariants.{Latch, Zero, Status, Unknown}
use Rattle.banks.specs.Bank.{raised, lowered, lined, with_trigger, with_latch, with_level}
use Rattle.irqs.specs.Spots.{shared_spot, spot_of, vcpu_at, with_vcpu, own_bank, bank_of, with_bank, trigger_word, level_word, has_affinity, vcpu_of}
use Rattle.irqs.specs.Irqs.{irq_fault, irq_pending, changed, change_irq, irq_set, irq_clear, irq_line, irq_trigger}
use Rattle.irqs.specs.Registers.{redistributor_register, access_fault, redistributor_read, redistributor_write, vcpu_status, offset_of, affinity_of, vintid_of, group5_fault, set_group5, get_group5, group7_fault, level_spot, set_group7, get_group7}
use Rattle.irqs.proofs.Lists.{find_set, choose_by}

-- what the answers about VCPU j are made of
pub record Unmoved (j : ℕ) (m m' : Machine) : Type 0 where
  pub control : m'.control ≡ m.control
  pub shared : m'.shared ≡ m.shared
  pub vcpus : length m'.vcpus ≡ length m.vcpus
  pub here : vcpu_at j m' ≡ vcpu_at j m
  pub found : (a : ℕ) → vcpu_of a m' ≡ vcpu_of a m

-- the answers about VCPU j: pending at every INTID, and what groups 5 and 7 read through an affinity of it
pub record Alike (j : ℕ) (m m' : Machine) : Type 0 where
  pub parts : Unmoved j m m'
  pub pending : (i : ℕ) → irq_pending j i m' ≡ irq_pending j i m
  pub group5 : (attribute width : ℕ) → vcpu_of (affinity_of attribute) m ≡ j → get_group5 attribute width m' ≡ get_group5 attribute width m
  pub group7 : (attribute width : ℕ) → vintid_of attribute ≡ 0 → vcpu_of (affinity_of attribute) m ≡ j
      → get_group7 attribute width m' ≡ get_group7 attribute width m

level_own : (attribute : ℕ) (m : Machine) → vintid_of attribute ≡ 0 → level_spot attribute m ≡ Own (vcpu_of (affinity_of attribute) m)
unfolding level_spot
level_own attribute m z = rw (eq-eqb (vintid_of attribute) 0 z)

module _ (j : ℕ) (m m' : Machine) (u : Unmoved j m m') where
  fault_same : (i : ℕ) → irq_fault j i m' ≡ irq_fault j i m
  unfolding irq_fault
  fault_same i = rw (u.control, u.vcpus)

  spot_same : (i : ℕ) → spot_of j i m' ≡ spot_of j i m
  unfolding spot_of shared_spot
  spot_same i = rw u.shared

  own_same : bank_of (Own j) m' ≡ bank_of (Own j) m
  own_same = ap (λ (v : Vcpu). v.bank) u.here

  bank_same : (i : ℕ) → bank_of (spot_of j i m') m' ≡ bank_of (spot_of j i m) m
  unfolding spot_of shared_spot
  bank_same i = ap (λ (s : Spot). bank_of s m') (spot_same i) ∙ by (ltb i 32) (ltb (i / 32 - 1) (length m.shared))
    where
      by : (a b : Bool) → bank_of (choose a (Own j) (choose b (Shared (i / 32 - 1)) Absent)) m' ≡ bank_of (choose a (Own j) (choose b (Shared (i / 32 - 1)) Absent)) m
      by true b = own_same
      by false true = ap (λ (l : List Bank). get_or l (i / 32 - 1) no_bank) u.shared
      by false false = refl

  pending_same : (i : ℕ) → irq_pending j i m' ≡ irq_pending j i m
  unfolding irq_pending
  pending_same i = rw (fault_same i, bank_same i)

  read_same : (r : Register) → redistributor_read r j m' ≡ redistributor_read r j m
  read_same (Latch n) = ap (λ (v : Vcpu). v.bank.latch) u.here
  read_same Zero = refl
  read_same Status = ap (λ (v : Vcpu). v.status) u.here
  read_same Unknown = refl

  fault5_same : (attribute width : ℕ) → group5_fault attribute width m' ≡ group5_fault attribute width m
  unfolding group5_fault access_fault
  fault5_same attribute width = rw (u.control, u.found (affinity_of attribute), u.vcpus)

  group5_same : (attribute width : ℕ) → vcpu_of (affinity_of attribute) m ≡ j → get_group5 attribute width m' ≡ get_group5 attribute width m
  unfolding get_group5
  group5_same attribute width e = rw (fault5_same attribute width, u.found (affinity_of attribute), e, read_same (redistributor_register (offset_of attribute)))

  fault7_same : (attribute width : ℕ) → group7_fault attribute width m' ≡ group7_fault attribute width m
  unfolding group7_fault
  fault7_same attribute width = rw (u.control, u.found (affinity_of attribute), u.vcpus)

  group7_same : (attribute width : ℕ) → vintid_of attribute ≡ 0 → vcpu_of (affinity_of attribute) m ≡ j → get_group7 attribute width m' ≡ get_group7 attribute width m
  unfolding get_group7
  group7_same attribute width z e =
      rw (fault7_same attribute width, level_own attribute m' z, level_own attribute m z, u.found (affinity_of attribute), e, own_same)

  pub alike : Alike j m m'
  alike = record { parts = u; pending = pending_same; group5 = group5_same; group7 = group7_same }

-- the law: a VCPU replaced by one with its affinity leaves another one
module _ (j k : ℕ) (m : Machine) (n : j ≡ k → ⊥) where
  stay : Unmoved j m m
  stay = record { control = refl; shared = refl; vcpus = refl; here = refl; found = λ a. refl }

  pub vcpu_apart : (v : Vcpu) → v.affinity ≡ (vcpu_at k m).affinity → Unmoved j m (with_vcpu k v m)
  vcpu_apart v e = record {
    control = refl;
    shared = refl;
    vcpus = length-set m.vcpus k v;
    here = get_or-set_other m.vcpus k j v (no_vcpu 0) n;
    found = λ a. find_set (has_affinity a) m.vcpus k v (no_vcpu 0) (ap (λ (x : ℕ). eqb x a) e);
  }

  bank_apart : (b : Bank) → Unmoved j m (with_bank (Own k) b m)
  bank_apart b = vcpu_apart (own_bank (vcpu_at k m) b) refl

  module _ (intid : ℕ) (h : intid < 32) where
    own_spot : spot_of k intid m ≡ Own k
    unfolding spot_of
    own_spot = rw (lt-ltb intid 32 h)

    changed_apart : (f : Bank → Bank) → Unmoved j m (changed k intid f m)
    changed_apart f = rw own_spot (bank_apart (f (vcpu_at k m).bank))

    change_apart : (f : Bank → Bank) → Unmoved j m (change_irq k intid f m).next
    change_apart f = choose_by (λ (r : Result). Unmoved j m r.next) (eqb (irq_fault k intid m) 0) (λ q. changed_apart f) (λ q. stay)

    pub irq_set-apart : Alike j m (irq_set k intid m).next
    unfolding irq_set
    irq_set-apart = alike j m _ (change_apart (raised (intid % 32)))

    pub irq_clear-apart : Alike j m (irq_clear k intid m).next
    unfolding irq_clear
    irq_clear-apart = alike j m _ (change_apart (lowered (intid % 32)))

    pub irq_trigger-apart : (word : ℕ) → Alike j m (irq_trigger k intid word m).next
    unfolding irq_trigger
    irq_trigger-apart word = alike j m _ (change_apart (with_trigger (trigger_word (spot_of k intid m) word)))

    pub irq_line-apart : (level : ℕ) → Alike j m (irq_line k intid level m).next
    unfolding irq_line
    irq_line-apart level =
        alike j m _
        (choose_by (λ (r : Result). Unmoved j m r.next) (eqb (irq_fault k intid m) 0)
        (λ q. choose_by (λ (r : Result). Unmoved j m r.next) (ltb 1 level) (λ a. stay)
        (λ a. choose_by (λ (r : Result). Unmoved j m r.next) (ltb intid 16) (λ b. stay) (λ b. changed_apart (lined (intid % 32) level))))
        (λ q. stay))

  -- the same through an affinity whose VCPU is k
  module _ (attribute width value : ℕ) (e : vcpu_of (affinity_of attribute) m ≡ k) where
    write_apart : (r : Register) → Unmoved j m (redistributor_write r k value m)
    write_apart (Latch i) = bank_apart (with_latch value (bank_of (Own k) m))
    write_apart Zero = stay
    write_apart Status = vcpu_apart (vcpu_status (value % 16) (vcpu_at k m)) refl
    write_apart Unknown = stay

    pub set_group5-apart : Alike j m (set_group5 attribute width value m).next
    unfolding set_group5
    set_group5-apart =
        alike j m _
        (choose_by (λ (r : Result). Unmoved j m r.next) (eqb (group5_fault attribute width m) 0)
        (λ q. rw e (write_apart (redistributor_register (offset_of attribute)))) (λ q. stay))

    pub set_group7-apart : vintid_of attribute ≡ 0 → Alike j m (set_group7 attribute width value m).next
    unfolding set_group7
    set_group7-apart z =
        alike j m _
        (choose_by (λ (r : Result). Unmoved j m r.next) (eqb (group7_fault attribute width m) 0)
        (λ q. rw (level_own attribute m z, e) (bank_apart (with_level (level_word (Own k) value) (bank_of (Own k) m)))) (λ q. stay))
