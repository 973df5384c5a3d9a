-- What the groups' calls come to, from what the code's parts say.
use Prim.Native.Nat.{ℕ, ◌/◌, ◌%◌, ◌≤◌, ◌<◌}
use native.Mathlib.Omega.{arith}
use mathlib.Core.Path.{◌≡◌, refl, sym, ◌∙◌}
use mathlib.Core.Bool.{Bool, true, false}
use lib.ListN.{length}
use lib.Dec.{ltb, eqb}
use borrow.Author.Tests.{lt-ltb, le-ltb, eq-eqb, ne_eqb, ltb-true, eqb-true}
use Rattle.std.specs.Prelude.{Option, Some, None, ok_or, position}
use Rattle.answers.specs.declared.Errno.TheVariants.{EINVAL}
use Rattle.lists.specs.Rows.{choose}
use Rattle.lists.proofs.Searches.{found, not_found}
use Rattle.guest.specs.declared.Bank.{Bank}
use Rattle.guest.specs.Machine.{Machine, refuse, accept, initialised}
use Rattle.irqs.specs.declared.Spot.{Spot}
use Rattle.irqs.specs.declared.Spot.TheVariants.{Own}
use Rattle.irqs.specs.declared.Register.{Register}
use Rattle.banks.specs.Bank.{with_level}
use Rattle.irqs.specs.Spots.{has_affinity, Names, shared_spot, bank_of, with_bank, level_word, vcpu_of, Stands}
use Rattle.irqs.specs.Registers.{distributor_register, redistributor_register, register_fault, distributor_read, distributor_write, redistributor_read, redistributor_write, offset_of, affinity_of, info_of, vintid_of, set_group1, get_group1, group5_fault, set_group5, get_group5, group7_fault, level_spot, set_group7, get_group7}
use Rattle.irqs.proofs.SpotLaws.{shared_stands}

pub past : {a b : ℕ} → a ≡ b → b ≤ a
past h = omega (arith, h)

-- the search for an affinity, as the refusals ask
pub names_of : (a : ℕ) (m : Machine) (o : Option ℕ) → o ≡ position (has_affinity a) m.vcpus → Names a m (ok_or o EINVAL)
names_of a m (Some k) h = let f = found (has_affinity a) m.vcpus k (sym h) in (sym f.0, f.1)
names_of a m None h = (refl, not_found (has_affinity a) m.vcpus (sym h))

module _ (attribute width : ℕ) (m : Machine) where
  -- group 1
  module _ (r : Register) (e : ℕ) (p : r ≡ distributor_register (offset_of attribute)) (q : e ≡ register_fault r width m) where
    pub set1_refused : (value : ℕ) → (e ≡ 0 → ⊥) → set_group1 attribute width value m ≡ refuse m e
    unfolding set_group1
    set1_refused value n = rw (← p, ← q, ne_eqb e 0 n)

    pub set1_done : (value : ℕ) → e ≡ 0 → set_group1 attribute width value m ≡ accept (distributor_write r value m)
    unfolding set_group1
    set1_done value z = rw (← p, ← q, eq-eqb e 0 z)

    pub get1_refused : (e ≡ 0 → ⊥) → get_group1 attribute width m ≡ record { errno = e; number = 0 }
    unfolding get_group1
    get1_refused n = rw (← p, ← q, ne_eqb e 0 n)

    pub get1_told : e ≡ 0 → get_group1 attribute width m ≡ record { errno = 0; number = distributor_read r m }
    unfolding get_group1
    get1_told z = rw (← p, ← q, eq-eqb e 0 z)

  -- group 5: the register's fault, then the affinity's
  module _ (r : Register) (e : ℕ) (p : r ≡ redistributor_register (offset_of attribute)) (q : e ≡ register_fault r width m) where
    pub fault5_register : (e ≡ 0 → ⊥) → group5_fault attribute width m ≡ e
    unfolding group5_fault
    fault5_register n = rw (← p, ← q, ne_eqb e 0 n)

    module _ (z : e ≡ 0) (k : ℕ) (w : k ≡ vcpu_of (affinity_of attribute) m) where
      pub fault5_vcpu : length m.vcpus ≤ k → group5_fault attribute width m ≡ 22
      unfolding group5_fault
      fault5_vcpu h = rw (← p, ← q, eq-eqb e 0 z, ← w, le-ltb k (length m.vcpus) h)

      fault5_none : k < length m.vcpus → group5_fault attribute width m ≡ 0
      unfolding group5_fault
      fault5_none h = rw (← p, ← q, eq-eqb e 0 z, ← w, lt-ltb k (length m.vcpus) h)

      pub set5_done : (value : ℕ) → k < length m.vcpus → set_group5 attribute width value m ≡ accept (redistributor_write r k value m)
      unfolding set_group5
      set5_done value h = rw (fault5_none h, ← p, ← w)

      pub get5_told : k < length m.vcpus → get_group5 attribute width m ≡ record { errno = 0; number = redistributor_read r k m }
      unfolding get_group5
      get5_told h = rw (fault5_none h, ← p, ← w)

  module _ (e : ℕ) (q : group5_fault attribute width m ≡ e) (n : e ≡ 0 → ⊥) where
    pub set5_refused : (value : ℕ) → set_group5 attribute width value m ≡ refuse m e
    unfolding set_group5
    set5_refused value = rw (q, ne_eqb e 0 n)

    pub get5_refused : get_group5 attribute width m ≡ record { errno = e; number = 0 }
    unfolding get_group5
    get5_refused = rw (q, ne_eqb e 0 n)

  -- group 7: what no fault says
  record Fine : Type 0 where
    vintid : vintid_of attribute % 32 ≡ 0
    vcpu : ◌≡◌ {A = ℕ} (choose (eqb (vintid_of attribute) 0) (choose (ltb (vcpu_of (affinity_of attribute) m) (length m.vcpus)) 0 22) 0) 0

  fine : group7_fault attribute width m ≡ 0 → Fine
  unfolding group7_fault
  fine =
      by (eqb width 4) (initialised m) (eqb (info_of attribute) 0) (eqb (vintid_of attribute % 32) 0)
      (choose (eqb (vintid_of attribute) 0) (choose (ltb (vcpu_of (affinity_of attribute) m) (length m.vcpus)) 0 22) 0) refl refl
    where
      by : (a b c d : Bool) (x : ℕ) → eqb (vintid_of attribute % 32) 0 ≡ d
          → choose (eqb (vintid_of attribute) 0) (choose (ltb (vcpu_of (affinity_of attribute) m) (length m.vcpus)) 0 22) 0 ≡ x
          → ◌≡◌ {A = ℕ} (choose a (choose b (choose c (choose d x 22) 22) 6) 14) 0 → Fine
      by true true true true x v w q = record { vintid = eqb-true (vintid_of attribute % 32) 0 v; vcpu = w ∙ q }
      by true true true false x v w q = absurd (omega arith)
      by true true false d x v w q = absurd (omega arith)
      by true false c d x v w q = absurd (omega arith)
      by false b c d x v w q = absurd (omega arith)

  pub fault7_vintid : group7_fault attribute width m ≡ 0 → vintid_of attribute % 32 ≡ 0
  fault7_vintid f = (fine f).vintid

  pub level_stands : group7_fault attribute width m ≡ 0 → Stands (level_spot attribute m) m
  unfolding level_spot
  level_stands f = by (eqb (vintid_of attribute) 0) (ltb (vcpu_of (affinity_of attribute) m) (length m.vcpus)) refl (fine f).vcpu
    where
      by : (a b : Bool) → ltb (vcpu_of (affinity_of attribute) m) (length m.vcpus) ≡ b → ◌≡◌ {A = ℕ} (choose a (choose b 0 22) 0) 0
          → Stands (choose a (Own (vcpu_of (affinity_of attribute) m)) (shared_spot (vintid_of attribute / 32) m)) m
      by true true h q = ltb-true (vcpu_of (affinity_of attribute) m) (length m.vcpus) h
      by true false h q = absurd (omega arith)
      by false b h q = shared_stands m (vintid_of attribute / 32)

  module _ (e : ℕ) (q : e ≡ group7_fault attribute width m) where
    pub set7_refused : (value : ℕ) → (e ≡ 0 → ⊥) → set_group7 attribute width value m ≡ refuse m e
    unfolding set_group7
    set7_refused value n = rw (← q, ne_eqb e 0 n)

    pub get7_refused : (e ≡ 0 → ⊥) → get_group7 attribute width m ≡ record { errno = e; number = 0 }
    unfolding get_group7
    get7_refused n = rw (← q, ne_eqb e 0 n)

    module _ (s : Spot) (b : Bank) (z : e ≡ 0) (p : s ≡ level_spot attribute m) (w : b ≡ bank_of s m) where
      pub set7_done : (value : ℕ) (x : Bank) → x ≡ with_level (level_word s value) b → set_group7 attribute width value m ≡ accept (with_bank s x m)
      unfolding set_group7
      set7_done value x v = rw (← q, eq-eqb e 0 z, ← p, ← w, ← v)

      pub get7_told : get_group7 attribute width m ≡ record { errno = 0; number = b.level }
      unfolding get_group7
      get7_told = rw (← q, eq-eqb e 0 z, ← p, ← w)
