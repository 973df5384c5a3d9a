-- What the changing calls answer: 0 or an errno of §2.2.
use Prim.Native.Nat.{ℕ, ◌%◌}
use mathlib.Core.Path.{◌≡◌, refl}
use mathlib.Core.Bool.{true, ◌&&◌, ◌||◌}
use lib.ListN.{length}
use lib.Dec.{leb, eqb}
use Rattle.areas.specs.declared.Area.{Area}
use Rattle.areas.specs.Area.{ends_by, strikes}
use Rattle.guest.specs.declared.Frame.{Frame}
use Rattle.guest.specs.Machine.{Machine, Result, initialised, is_set}
use Rattle.rules.specs.Standing.{standing, run_size, distributor_size, its_size}
use Rattle.rules.specs.Rules.{taken, irqs_ok, limit_of}
use Rattle.frames.specs.Vcpus.{add_vcpu, set_running, set_irqs, its_init}
use Rattle.frames.specs.Bases.{area_fault, frame_fault, finish, set_distributor, single_fault, set_single, set_its_base, word_flags, word_index, word_region, region_fault, add_region, set_group0, set_its_group0}
use Rattle.frames.specs.Init.{has_places, vgic_init}
use Rattle.kept.specs.Good.{listed}
use Rattle.kept.proofs.Choice.{chosen}

-- an errno of §2.2
abbrev Fair : Result → Type 0
Fair r = listed r.errno ≡ true

module _ (m : Machine) where
  finish_fair : (e : ℕ) (next : Machine) → listed e ≡ true → Fair (finish e m next)
  unfolding listed
  finish_fair e next l = chosen Fair (eqb e 0) refl l

  add_vcpu-fair : (affinity : ℕ) → Fair (add_vcpu affinity m)
  unfolding add_vcpu listed
  add_vcpu-fair a =
      chosen Fair (initialised m) refl
      (chosen Fair (taken m.vcpus a) refl (chosen Fair (leb 64 (length m.vcpus)) refl refl))

  set_running-fair : (r : ℕ) → Fair (set_running r m)
  unfolding set_running listed
  set_running-fair r = chosen Fair (initialised m) refl refl

  set_irqs-fair : (attribute width value : ℕ) → Fair (set_irqs attribute width value m)
  unfolding set_irqs listed
  set_irqs-fair attribute width value =
      chosen Fair (eqb attribute 0)
      (chosen Fair (eqb width 4)
      (chosen Fair (irqs_ok value) (chosen Fair (eqb m.control.irqsset 1 || initialised m) refl refl) refl)
      refl)
      refl

  its_init-fair : Fair (its_init m)
  unfolding its_init listed
  its_init-fair = chosen Fair (initialised m && is_set m.frames.its) refl refl

  vgic_init-fair : Fair (vgic_init m)
  unfolding vgic_init listed
  vgic_init-fair =
      chosen Fair (initialised m) refl
      (chosen Fair (eqb (length m.vcpus) 0) refl
      (chosen Fair (is_set m.frames.distributor) (chosen Fair (has_places m) refl refl) refl))

  -- the faults of frames
  abbrev Listed : ℕ → Type 0
  Listed e = listed e ≡ true

  area_listed : (a : Area) → Listed (area_fault a m)
  unfolding area_fault listed
  area_listed a = chosen Listed (ends_by (limit_of m) a) (chosen Listed (strikes (standing m) a) refl refl) refl

  frame_listed : (f : Frame) (size base : ℕ) → Listed (frame_fault f size base m)
  unfolding frame_fault listed
  frame_listed f size base = chosen Listed (is_set f) refl (chosen Listed (eqb (base % 65536) 0) (area_listed _) refl)

  region_listed : (w : ℕ) → Listed (region_fault w m)
  unfolding region_fault listed
  region_listed w =
      chosen Listed (is_set m.frames.single) refl
      (chosen Listed (eqb (word_flags w) 0)
      (chosen Listed (eqb (word_region w).count 0) refl
      (chosen Listed (eqb (word_index w) (length m.regions)) (chosen Listed (leb 32 (length m.regions)) refl (area_listed _)) refl))
      refl)

  set_distributor-fair : (base : ℕ) → Fair (set_distributor base m)
  unfolding set_distributor
  set_distributor-fair base =
      finish_fair (frame_fault m.frames.distributor distributor_size base m) _ (frame_listed m.frames.distributor distributor_size base)

  single_listed : (base : ℕ) → Listed (single_fault base m)
  unfolding single_fault listed
  single_listed base = chosen Listed (eqb (length m.regions) 0) (frame_listed m.frames.single (run_size m) base) refl

  set_single-fair : (base : ℕ) → Fair (set_single base m)
  unfolding set_single
  set_single-fair base = finish_fair (single_fault base m) _ (single_listed base)

  add_region-fair : (w : ℕ) → Fair (add_region w m)
  unfolding add_region
  add_region-fair w = finish_fair (region_fault w m) _ (region_listed w)

  set_its_base-fair : (base : ℕ) → Fair (set_its_base base m)
  unfolding set_its_base
  set_its_base-fair base = finish_fair (frame_fault m.frames.its its_size base m) _ (frame_listed m.frames.its its_size base)

  set_group0-fair : (attribute width value : ℕ) → Fair (set_group0 attribute width value m)
  unfolding set_group0 listed
  set_group0-fair attribute width value =
      chosen Fair (eqb attribute 2) (chosen Fair (eqb width 8) (set_distributor-fair value) refl)
      (chosen Fair (eqb attribute 3) (chosen Fair (eqb width 8) (set_single-fair value) refl)
      (chosen Fair (eqb attribute 5) (chosen Fair (eqb width 8) (add_region-fair value) refl) refl))

  set_its_group0-fair : (attribute width value : ℕ) → Fair (set_its_group0 attribute width value m)
  unfolding set_its_group0 listed
  set_its_group0-fair attribute width value =
      chosen Fair (eqb attribute 4) (chosen Fair (eqb width 8) (set_its_base-fair value) refl) refl

pub add_vcpu-listed : (affinity : ℕ) (m : Machine) → listed (add_vcpu affinity m).errno ≡ true
add_vcpu-listed affinity m = add_vcpu-fair m affinity

pub set_running-listed : (r : ℕ) (m : Machine) → listed (set_running r m).errno ≡ true
set_running-listed r m = set_running-fair m r

pub set_irqs-listed : (attribute width value : ℕ) (m : Machine) → listed (set_irqs attribute width value m).errno ≡ true
set_irqs-listed attribute width value m = set_irqs-fair m attribute width value

pub its_init-listed : (m : Machine) → listed (its_init m).errno ≡ true
its_init-listed m = its_init-fair m

pub set_group0-listed : (attribute width value : ℕ) (m : Machine) → listed (set_group0 attribute width value m).errno ≡ true
set_group0-listed attribute width value m = set_group0-fair m attribute width value

pub set_its_group0-listed : (attribute width value : ℕ) (m : Machine) → listed (set_its_group0 attribute width value m).errno ≡ true
set_its_group0-listed attribute width value m = set_its_group0-fair m attribute width value

pub vgic_init-listed : (m : Machine) → listed (vgic_init m).errno ≡ true
vgic_init-listed m = vgic_init-fair m
