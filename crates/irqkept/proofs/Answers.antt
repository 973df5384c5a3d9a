-- What the calls on interrupts and registers answer: 0 or an errno of §2.2; a number that is asked for fits.
use Prim.Native.Nat.{ℕ, ◌≤◌, ◌<◌}
use native.Mathlib.Omega.{arith}
use mathlib.Core.Path.{◌≡◌, refl}
use mathlib.Core.Bool.{Bool, true, false, ◌||◌}
use lib.Dec.{eqb, lit<}
use borrow.Author.Tests.{eqb-true}
use Rattle.lists.specs.Rows.{choose}
use Rattle.guest.specs.Machine.{Reading}
use Rattle.guest.specs.Machine.{Machine, Result, refuse, accept}
use Rattle.kept.specs.Good.{listed}
use Rattle.irqs.specs.Irqs.{irq_pending, irq_set, irq_clear, irq_line, irq_trigger}
use Rattle.irqs.specs.Registers.{distributor_register, register_fault, offset_of, set_group1, get_group1, group5_fault, set_group5, get_group5, group7_fault, set_group7, get_group7}
use Rattle.irqs.proofs.Answers.{Listed, fine, enxio, efault, ebusy, einval, irq_pending-tells, irq_set-answers, irq_clear-answers, irq_line-answers, irq_trigger-answers, set_group1-answers, set_group5-answers, set_group7-answers}

-- an errno of a call on interrupts is one of §2.2
pub in_table : {e : ℕ} → Listed e → listed e ≡ true
unfolding listed
in_table fine = refl
in_table enxio = refl
in_table efault = refl
in_table ebusy = refl
in_table einval = refl

-- every errno of §2.2 is below 4,096
module _ (e : ℕ) where
  either : (n : ℕ) {b : Bool} → n < 4096 → (b ≡ true → e < 4096) → (eqb e n || b) ≡ true → e < 4096
  either n {b} l f = by (eqb e n) refl
    where
      by : (a : Bool) → eqb e n ≡ a → (a || b) ≡ true → e < 4096
      by true t q = omega (arith, eqb-true e n t)
      by false t q = f q

  pub listed_small : listed e ≡ true → e < 4096
  unfolding listed
  listed_small =
      either 0 (lit< tt) (either 2 (lit< tt) (either 6 (lit< tt) (either 7 (lit< tt) (either 12 (lit< tt)
      (either 14 (lit< tt) (either 16 (lit< tt) (either 17 (lit< tt) (either 19 (lit< tt) (λ q. omega (arith, eqb-true e 22 q))))))))))

-- the changing calls
pub irq_set-listed : (k intid : ℕ) (m : Machine) → listed (irq_set k intid m).errno ≡ true
irq_set-listed k intid m = in_table (irq_set-answers k intid m).listed

pub irq_clear-listed : (k intid : ℕ) (m : Machine) → listed (irq_clear k intid m).errno ≡ true
irq_clear-listed k intid m = in_table (irq_clear-answers k intid m).listed

pub irq_line-listed : (k intid level : ℕ) (m : Machine) → listed (irq_line k intid level m).errno ≡ true
irq_line-listed k intid level m = in_table (irq_line-answers k intid m level).listed

pub irq_trigger-listed : (k intid word : ℕ) (m : Machine) → listed (irq_trigger k intid word m).errno ≡ true
irq_trigger-listed k intid word m = in_table (irq_trigger-answers k intid m word).listed

pub set_group1-listed : (attribute width value : ℕ) (m : Machine) → listed (set_group1 attribute width value m).errno ≡ true
set_group1-listed attribute width value m = in_table (set_group1-answers attribute width m value).listed

pub set_group5-listed : (attribute width value : ℕ) (m : Machine) → listed (set_group5 attribute width value m).errno ≡ true
set_group5-listed attribute width value m = in_table (set_group5-answers attribute width m value).listed

pub set_group7-listed : (attribute width value : ℕ) (m : Machine) → listed (set_group7 attribute width value m).errno ≡ true
set_group7-listed attribute width value m = in_table (set_group7-answers attribute width m value).listed

-- the questions
pub irq_pending-listed : (k intid : ℕ) (m : Machine) → listed (irq_pending k intid m).errno ≡ true
irq_pending-listed k intid m = in_table (irq_pending-tells k intid m).listed

pub irq_pending-small : (k intid : ℕ) (m : Machine) → (irq_pending k intid m).number ≤ 1
irq_pending-small k intid m = (irq_pending-tells k intid m).number

-- a register's read is refused as a write of it is
read_as : (b : Bool) (e n : ℕ) (m next : Machine)
    → (choose {A = Reading} b (record { errno = 0; number = n }) (record { errno = e; number = 0 })).errno ≡ (choose {A = Result} b (accept next) (refuse m e)).errno
read_as true e n m next = refl
read_as false e n m next = refl

module _ (attribute width : ℕ) (m : Machine) where
  get_group1-as : (get_group1 attribute width m).errno ≡ (set_group1 attribute width 0 m).errno
  unfolding get_group1 set_group1
  get_group1-as = read_as (eqb (register_fault (distributor_register (offset_of attribute)) width m) 0) _ _ m _

  get_group5-as : (get_group5 attribute width m).errno ≡ (set_group5 attribute width 0 m).errno
  unfolding get_group5 set_group5
  get_group5-as = read_as (eqb (group5_fault attribute width m) 0) _ _ m _

  get_group7-as : (get_group7 attribute width m).errno ≡ (set_group7 attribute width 0 m).errno
  unfolding get_group7 set_group7
  get_group7-as = read_as (eqb (group7_fault attribute width m) 0) _ _ m _

  pub get_group1-listed : listed (get_group1 attribute width m).errno ≡ true
  get_group1-listed = rw get_group1-as (set_group1-listed attribute width 0 m)

  pub get_group5-listed : listed (get_group5 attribute width m).errno ≡ true
  get_group5-listed = rw get_group5-as (set_group5-listed attribute width 0 m)

  pub get_group7-listed : listed (get_group7 attribute width m).errno ≡ true
  get_group7-listed = rw get_group7-as (set_group7-listed attribute width 0 m)
