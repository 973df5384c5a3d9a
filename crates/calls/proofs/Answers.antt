-- The errno of every step is 0 or one of the nine of §2.2.
use Prim.Native.Nat.{ℕ, ◌<◌}
use mathlib.Core.Path.{◌≡◌, refl}
use mathlib.Core.Bool.{true, ◌||◌}
use lib.Dec.{eqb}
use Rattle.guest.specs.Machine.{Reading}
use Rattle.guest.specs.Machine.{Machine, Result, refuse, is_running}
use Rattle.kept.specs.Good.{listed}
use Rattle.kept.proofs.Choice.{chosen}
use Rattle.kept.proofs.Answers.{add_vcpu-listed, set_running-listed, set_irqs-listed, its_init-listed, set_group0-listed, set_its_group0-listed, vgic_init-listed}
use Rattle.kept.proofs.Readings.{get_irqs-listed, get_group0-listed, get_its_group0-listed, redist_base-listed}
use Rattle.irqkept.proofs.Answers.{irq_set-listed, irq_clear-listed, irq_line-listed, irq_trigger-listed, set_group1-listed, set_group5-listed, set_group7-listed, irq_pending-listed, get_group1-listed, get_group5-listed, get_group7-listed, listed_small}
use Rattle.mapping.specs.Mapped.{Mapped, MapResult}
use Rattle.mapping.specs.Commands.{place_fault}
use Rattle.mapkept.proofs.Answers.{map_device-listed, unmap_device-listed, map_collection-listed, unmap_collection-listed, map_event-listed, discard_listed, move_listed, place_fault-listed}
use Rattle.calls.specs.declared.Command.{Command}
use Rattle.calls.specs.declared.Command.TheVariants.{Place, MapDevice, UnmapDevice, MapCollection, UnmapCollection, MapEvent, Discard, Move, Reset}
use Rattle.calls.specs.declared.Change.{Change}
use Rattle.calls.specs.declared.Change.TheVariants.{AddVcpu, Start, Stop, VgicSet, ItsSet, SetPending, ClearPending, Activate, Line, Trigger}
use Rattle.calls.specs.declared.Question.{Question}
use Rattle.calls.specs.declared.Question.TheVariants.{VgicGet, ItsGet, RedistBase, Pending}
use Rattle.calls.specs.Groups.{set_group4, vgic_set, vgic_get, set_its_group4, its_set, its_get}
use Rattle.calls.specs.Steps.{change_step, ask_step}
use Rattle.calls.specs.Commands.{BoxResult, its_initialised, ready, placed_at, on_mapping, place, reset, command_step, memory_fault}

-- a listed errno
abbrev Fair : Result → Type 0
Fair r = listed r.errno ≡ true

module _ (m : Machine) where
  -- the numbers that the groups themselves refuse with
  six : Fair (refuse m 6)
  unfolding listed
  six = refl

  fourteen : Fair (refuse m 14)
  unfolding listed
  fourteen = refl

  vgic_known : (group attribute width value : ℕ) → Fair (vgic_set group attribute width value m)
  unfolding vgic_set set_group4
  vgic_known group attribute width value =
      chosen Fair (eqb group 0) (set_group0-listed attribute width value m)
      (chosen Fair (eqb group 1) (set_group1-listed attribute width value m)
      (chosen Fair (eqb group 3) (set_irqs-listed attribute width value m)
      (chosen Fair (eqb group 4)
      (chosen Fair (eqb attribute 0) (chosen Fair (eqb width 0) (vgic_init-listed m) fourteen) six)
      (chosen Fair (eqb group 5) (set_group5-listed attribute width value m)
      (chosen Fair (eqb group 7) (set_group7-listed attribute width value m)
      six)))))

  its_known : (group attribute width value : ℕ) → Fair (its_set group attribute width value m)
  unfolding its_set set_its_group4
  its_known group attribute width value =
      chosen Fair (eqb group 0) (set_its_group0-listed attribute width value m)
      (chosen Fair (eqb group 4)
      (chosen Fair (eqb attribute 0) (chosen Fair (eqb width 0) (its_init-listed m) fourteen)
      (chosen Fair (eqb attribute 1 || eqb attribute 2) fourteen six))
      six)

  pub change_known : (c : Change) → Fair (change_step c m)
  change_known (AddVcpu a) = add_vcpu-listed a m
  change_known Start = set_running-listed 1 m
  change_known Stop = set_running-listed 0 m
  change_known (VgicSet group attribute width value) = vgic_known group attribute width value
  change_known (ItsSet group attribute width value) = its_known group attribute width value
  change_known (SetPending k i) = irq_set-listed k i m
  change_known (ClearPending k i) = irq_clear-listed k i m
  change_known (Activate k i) = irq_clear-listed k i m
  change_known (Line k i l) = irq_line-listed k i l m
  change_known (Trigger k i w) = irq_trigger-listed k i w m

  pub change_small : (c : Change) → (change_step c m).errno < 4096
  change_small c = listed_small _ (change_known c)

  -- questions
  abbrev Known : Reading → Type 0
  Known r = listed r.errno ≡ true

  refused_known : Known (record { errno = 6; number = 0 })
  unfolding listed
  refused_known = refl

  pub ask_known : (q : Question) → listed (ask_step q m).errno ≡ true
  unfolding vgic_get its_get
  ask_known (VgicGet group attribute width value) =
      chosen Known (eqb group 0) (get_group0-listed attribute width value m)
      (chosen Known (eqb group 1) (get_group1-listed attribute width m)
      (chosen Known (eqb group 3) (get_irqs-listed attribute width m)
      (chosen Known (eqb group 5) (get_group5-listed attribute width m)
      (chosen Known (eqb group 7) (get_group7-listed attribute width m) refused_known))))
  ask_known (ItsGet group attribute width) = chosen Known (eqb group 0) (get_its_group0-listed attribute width m) refused_known
  ask_known (RedistBase k) = redist_base-listed k m
  ask_known (Pending k i) = irq_pending-listed k i m

-- the commands of the ITS
module _ (m : Machine) (k : Mapped) where
  abbrev Boxed : BoxResult → Type 0
  Boxed r = listed r.errno ≡ true

  on_mapping_lem : (r : MapResult) → listed r.errno ≡ true → Boxed (on_mapping r m k)
  unfolding on_mapping listed
  on_mapping_lem r h = chosen Boxed (ready m) h refl

  placing : (ds dp cs cp : ℕ) → Boxed (place ds dp cs cp m k)
  unfolding place listed
  placing ds dp cs cp =
      chosen Boxed (its_initialised m)
      (chosen Boxed (eqb (place_fault (placed_at ds dp) (placed_at cs cp) m k) 0) refl (place_fault-listed (placed_at ds dp) (placed_at cs cp) m k))
      refl

  resetting : (width : ℕ) → Boxed (reset width m k)
  unfolding reset listed
  resetting width = chosen Boxed (eqb width 0) (chosen Boxed (its_initialised m) (chosen Boxed (is_running m) refl refl) refl) refl

  pub command_known : (c : Command) → listed (command_step c m k).errno ≡ true
  command_known (Place ds dp cs cp) = placing ds dp cs cp
  command_known (MapDevice id itt bits) = on_mapping_lem _ (map_device-listed id itt bits m k)
  command_known (UnmapDevice id) = on_mapping_lem _ (unmap_device-listed id k)
  command_known (MapCollection icid pe) = on_mapping_lem _ (map_collection-listed icid pe m k)
  command_known (UnmapCollection icid) = on_mapping_lem _ (unmap_collection-listed icid k)
  command_known (MapEvent device event lpi icid) = on_mapping_lem _ (map_event-listed device event lpi icid k)
  command_known (Discard device event) = on_mapping_lem _ (discard_listed device event k)
  command_known (Move device event icid) = on_mapping_lem _ (move_listed device event icid k)
  command_known (Reset width) = resetting width

  pub command_small : (c : Command) → (command_step c m k).errno < 4096
  command_small c = listed_small _ (command_known c)

  pub memory_known : (len : ℕ) → listed (memory_fault len m) ≡ true
  unfolding memory_fault listed
  memory_known len =
      chosen (λ (e : ℕ). listed e ≡ true) (eqb len m.memory.length)
      (chosen (λ (e : ℕ). listed e ≡ true) (ready m) (chosen (λ (e : ℕ). listed e ≡ true) (is_running m) refl refl) refl)
      refl
