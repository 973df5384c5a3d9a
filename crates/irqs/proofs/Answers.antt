-- The numbers that the calls hand back: which errno, what a refusal leaves, and how large a number asked for is.
use Prim.Native.Nat.{ℕ, ◌%◌, ◌^◌, ◌≤◌, ◌<◌}
use native.Mathlib.Omega.{arith}
use mathlib.Core.Path.{◌≡◌, refl}
use mathlib.Core.Bool.{Bool, true, false}
use lib.ListN.{length}
use lib.Dec.{ltb, eqb, lit<}
use Rattle.lists.specs.Rows.{choose}
use Rattle.guest.specs.Machine.{Reading}
use Rattle.guest.specs.Machine.{Machine, Result, refuse, accept, initialised, is_running}
use Rattle.irqs.specs.declared.Register.{Register}
use Rattle.irqs.specs.declared.Register.TheVariants.{Latch, Zero, Status, Unknown}
use Rattle.irqs.specs.Spots.{shared_spot, spot_of, bank_of, vcpu_of}
use Rattle.irqs.specs.Irqs.{irq_fault, irq_pending, irq_set, irq_clear, irq_line, irq_trigger}
use Rattle.irqs.specs.Registers.{distributor_register, redistributor_register, access_fault, is_known, register_fault, distributor_read, redistributor_read, offset_of, affinity_of, info_of, vintid_of, set_group1, get_group1, group5_fault, set_group5, get_group5, group7_fault, level_spot, set_group7, get_group7}
use Rattle.irqs.proofs.Lists.{choose_by}
use Rattle.banks.proofs.Words.{pending_bit}
use Rattle.irqs.proofs.Kept.{Tame, bank_fit, vcpu_ok_lem}

pub data Listed : ℕ → Type 0 where
  fine : Listed 0
  enxio : Listed 6
  efault : Listed 14
  ebusy : Listed 16
  einval : Listed 22

pub listed_small : {e : ℕ} → Listed e → e < 4096
listed_small fine = lit< tt
listed_small enxio = lit< tt
listed_small efault = lit< tt
listed_small ebusy = lit< tt
listed_small einval = lit< tt

-- a changing call: a refusal leaves the machine
pub record Answers (m : Machine) (r : Result) : Type 0 where
  pub listed : Listed r.errno
  pub left : (r.errno ≡ 0 → ⊥) → r.next ≡ m

-- a question, whose number keeps P: a refusal's number is 0
pub record Tells (P : ℕ → Type 0) (r : Reading) : Type 0 where
  pub listed : Listed r.errno
  pub none : (r.errno ≡ 0 → ⊥) → r.number ≡ 0
  pub number : P r.number

-- an errno chosen of two
listed_of : (b : Bool) {x y : ℕ} → Listed x → Listed y → Listed (choose b x y)
listed_of true p q = p
listed_of false p q = q

irq_listed : (k intid : ℕ) (m : Machine) → Listed (irq_fault k intid m)
unfolding irq_fault
irq_listed k intid m =
    listed_of (initialised m) (listed_of (ltb k (length m.vcpus)) (listed_of (ltb 1023 intid) einval fine) einval) enxio

register_listed : (r : Register) (width : ℕ) (m : Machine) → Listed (register_fault r width m)
unfolding access_fault
register_listed r width m =
    listed_of (is_known r) (listed_of (eqb width 4) (listed_of (initialised m) (listed_of (is_running m) ebusy fine) enxio) efault) enxio

module _ (attribute width : ℕ) (m : Machine) where
  group5_listed : Listed (group5_fault attribute width m)
  unfolding group5_fault
  group5_listed =
      let e = register_fault (redistributor_register (offset_of attribute)) width m in
      listed_of (eqb e 0) (listed_of (ltb (vcpu_of (affinity_of attribute) m) (length m.vcpus)) fine einval)
      (register_listed (redistributor_register (offset_of attribute)) width m)

  group7_listed : Listed (group7_fault attribute width m)
  unfolding group7_fault
  group7_listed =
      listed_of (eqb width 4) (listed_of (initialised m) (listed_of (eqb (info_of attribute) 0) (listed_of (eqb (vintid_of attribute % 32) 0)
      (listed_of (eqb (vintid_of attribute) 0) (listed_of (ltb (vcpu_of (affinity_of attribute) m) (length m.vcpus)) fine einval) fine)
      einval) einval) enxio) efault

-- a fault is the answer, and where there is none the call is done
accepts : (m next : Machine) → Answers m (accept next)
accepts m next = record { listed = fine; left = λ n. absurd (n refl) }

refuses : (m : Machine) (e : ℕ) → Listed e → Answers m (refuse m e)
refuses m e l = record { listed = l; left = λ n. refl }

answers : (m next : Machine) (e : ℕ) → Listed e → Answers m (choose (eqb e 0) (accept next) (refuse m e))
answers m next e l = choose_by (Answers m) (eqb e 0) (λ q. accepts m next) (λ q. refuses m e l)

tells : (P : ℕ → Type 0) (n e : ℕ) → Listed e → P 0 → P n
    → Tells P (choose {A = Reading} (eqb e 0) (record { errno = 0; number = n }) (record { errno = e; number = 0 }))
tells P n e l z p =
    choose_by (Tells P) (eqb e 0)
    (λ q. record { listed = fine; none = λ r. absurd (r refl); number = p })
    (λ q. record { listed = l; none = λ r. refl; number = z })

module _ (k intid : ℕ) (m : Machine) where
  pub irq_set-answers : Answers m (irq_set k intid m)
  unfolding irq_set
  irq_set-answers = answers m _ (irq_fault k intid m) (irq_listed k intid m)

  pub irq_clear-answers : Answers m (irq_clear k intid m)
  unfolding irq_clear
  irq_clear-answers = answers m _ (irq_fault k intid m) (irq_listed k intid m)

  pub irq_trigger-answers : (word : ℕ) → Answers m (irq_trigger k intid word m)
  unfolding irq_trigger
  irq_trigger-answers word = answers m _ (irq_fault k intid m) (irq_listed k intid m)

  pub irq_line-answers : (level : ℕ) → Answers m (irq_line k intid level m)
  unfolding irq_line
  irq_line-answers level =
      choose_by (Answers m) (eqb (irq_fault k intid m) 0)
      (λ q. choose_by (Answers m) (ltb 1 level) (λ a. refuses m 22 einval)
      (λ a. choose_by (Answers m) (ltb intid 16) (λ b. accepts m m) (λ b. accepts m _)))
      (λ q. refuses m (irq_fault k intid m) (irq_listed k intid m))

  -- pending is 0 or 1
  pub irq_pending-tells : Tells (λ n. n ≤ 1) (irq_pending k intid m)
  unfolding irq_pending
  irq_pending-tells =
      tells (λ n. n ≤ 1) _ (irq_fault k intid m) (irq_listed k intid m) (omega arith) (pending_bit (bank_of (spot_of k intid m) m) (intid % 32))

module _ (attribute width : ℕ) (m : Machine) where
  pub set_group1-answers : (value : ℕ) → Answers m (set_group1 attribute width value m)
  unfolding set_group1
  set_group1-answers value =
      let r = distributor_register (offset_of attribute) in
      answers m _ (register_fault r width m) (register_listed r width m)

  pub set_group5-answers : (value : ℕ) → Answers m (set_group5 attribute width value m)
  unfolding set_group5
  set_group5-answers value = answers m _ (group5_fault attribute width m) (group5_listed attribute width m)

  pub set_group7-answers : (value : ℕ) → Answers m (set_group7 attribute width value m)
  unfolding set_group7
  set_group7-answers value = answers m _ (group7_fault attribute width m) (group7_listed attribute width m)

-- what a register reads is a word
distributor_word : (m : Machine) → Tame m → (r : Register) → distributor_read r m < 2 ^ 32
distributor_word m t (Latch n) = (bank_fit m t (shared_spot n m)).words.latch
distributor_word m t Zero = lit< tt
distributor_word m t Status = omega (arith, t.status)
distributor_word m t Unknown = lit< tt

redistributor_word : (m : Machine) → Tame m → (r : Register) (k : ℕ) → redistributor_read r k m < 2 ^ 32
redistributor_word m t (Latch n) k = (vcpu_ok_lem m t k).bank.latch
redistributor_word m t Zero k = lit< tt
redistributor_word m t Status k = omega (arith, (vcpu_ok_lem m t k).status)
redistributor_word m t Unknown k = lit< tt

module _ (attribute width : ℕ) (m : Machine) (t : Tame m) where
  pub get_group1-tells : Tells (λ n. n < 2 ^ 32) (get_group1 attribute width m)
  unfolding get_group1
  get_group1-tells =
      let r = distributor_register (offset_of attribute) in
      tells (λ n. n < 2 ^ 32) (distributor_read r m) (register_fault r width m) (register_listed r width m) (lit< tt) (distributor_word m t r)

  pub get_group5-tells : Tells (λ n. n < 2 ^ 32) (get_group5 attribute width m)
  unfolding get_group5
  get_group5-tells =
      tells (λ n. n < 2 ^ 32) _ (group5_fault attribute width m) (group5_listed attribute width m) (lit< tt)
      (redistributor_word m t (redistributor_register (offset_of attribute)) (vcpu_of (affinity_of attribute) m))

  pub get_group7-tells : Tells (λ n. n < 2 ^ 32) (get_group7 attribute width m)
  unfolding get_group7
  get_group7-tells =
      tells (λ n. n < 2 ^ 32) _ (group7_fault attribute width m) (group7_listed attribute width m) (lit< tt)
      (bank_fit m t (level_spot attribute m)).words.level
