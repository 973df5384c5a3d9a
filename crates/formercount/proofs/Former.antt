-- Soundness and the calls as they last were while a fresh guest had 256 interrupts. No definition, promise or other proof rests on them: the
-- theorem of this crate holds them against those of today. All that they cite is as it was then, the bytes of a state first of all.
use Prim.Native.Nat.{ℕ}
use mathlib.Core.Path.{◌≡◌}
use mathlib.Core.Bool.{Bool, true, ◌&&◌, ◌||◌}
use mathlib.Core.List.{List, []}
use lib.IntN.{pos}
use lib.ListN.{length, replicate}
use lib.Dec.{ltb, leb, eqb}
use Rattle.lists.specs.Rows.{choose}
use Rattle.answers.specs.Answer.{done}
use Rattle.words.proofs.Bytes.{Bytes}
use Rattle.guest.specs.declared.Control.{Control}
use Rattle.guest.specs.Machine.{Reading}
use Rattle.guest.specs.Machine.{Machine, shared_count, no_bank, unset, no_tables}
use Rattle.rules.specs.Rules.{memory_ok, irqs_ok, frames_ok, init_ok, vcpus_ok, last_ok, untouched, its_ok, tables_ok}
use Rattle.mapping.specs.Mapped.{empty}
use Rattle.mapping.specs.MapRules.{map_rules}
use Rattle.layout.specs.Layout.{size, decode, stored, counts_ok}
use Rattle.maplayout.specs.MapLayout.{decode_map, stored_map, map_counts_ok}
use Rattle.tables.specs.Saved.{saved_memory}
use Rattle.tables.specs.Restored.{restored, verdict}
use Rattle.calls.specs.declared.Change.{Change}
use Rattle.calls.specs.declared.Change.TheVariants.{AddVcpu, Start, Stop, VgicSet, ItsSet, SetPending, ClearPending, Activate, Line, Trigger}
use Rattle.calls.specs.declared.Question.{Question}
use Rattle.calls.specs.declared.Question.TheVariants.{VgicGet, ItsGet, RedistBase, Pending}
use Rattle.calls.specs.declared.Command.{Command}
use Rattle.calls.specs.declared.Command.TheVariants.{Place, MapDevice, UnmapDevice, MapCollection, UnmapCollection, MapEvent, Discard, Move, Reset}
use Rattle.calls.specs.Steps.{change_step, ask_step}
use Rattle.calls.specs.Commands.{command_step, lookup_step, memory_fault}
use Rattle.calls.specs.Call.{Reply, refused, settled, untold, answered, given, value_of, settled_box, restored_to}
use Rattle.step.specs.Step.{Call, After, writes, gives, tells, state_len, vcpus_start, vcpus_stop, setup, vcpu_add, redist_base, vgic_set, its_set, vgic_get, its_get, irq_pending, irq_set_pending, irq_clear_pending, irq_activate, irq_line, irq_trigger, its_place, its_map_event, its_map_device, its_move, its_map_collection, its_discard, its_lookup, its_unmap_device, its_unmap_collection, its_save, its_restore, its_explain}

-- ---- soundness: a count that was not set was 256

unfoldable pub former_control_ok : Control → Bool
former_control_ok c =
    leb c.init 1 && (leb c.running c.init && (leb c.itsinit c.init
    && (leb c.irqsset 1 && (irqs_ok c.irqs && (ltb c.status 16
    && (eqb c.irqsset 1 || eqb c.irqs 256))))))

unfoldable pub former_rules : Machine → Bool
former_rules m =
    memory_ok m.memory && (former_control_ok m.control && (frames_ok m && (init_ok m && (vcpus_ok m.vcpus
    && (eqb (length m.shared) (shared_count m.control.irqs) && (last_ok m.shared && (untouched m
    && (its_ok m && tables_ok m))))))))

unfoldable pub former_sound : List ℕ → Bool
former_sound s = counts_ok s && (map_counts_ok s && (former_rules (decode s) && map_rules (decode s) (decode_map s)))

pub record FormerSound (s : List ℕ) : Type 0 where
  pub bytes : Bytes s
  pub long : length s ≡ size
  pub rules : former_sound s ≡ true

-- ---- the calls, with two things left open: whether the state passes its test, and the fresh guest. With those of today they are `step`, as
-- `step_by_lem` says.

abbrev pub guarded_by : {A : Type 0} → Bool → (ℕ → A) → A → List ℕ → A
guarded_by good refuse go s = choose (eqb (length s) size) (choose good go (refuse 22)) (refuse 14)

abbrev pub set_up_by : (ℕ → ℕ → ℕ → Machine) → ℕ → ℕ → ℕ → List ℕ → Reply
set_up_by fresh width start len s =
    choose (eqb (length s) size)
    (choose (memory_ok (record { width = width; start = start; length = len }))
    (record { answer = done 0; lent = stored (fresh width start len) (stored_map empty s) })
    (refused s 22))
    (refused s 14)

abbrev pub changes_by : Bool → Change → List ℕ → Reply
changes_by good c s = guarded_by good (refused s) (settled s (change_step c (decode s))) s

abbrev pub asks_by : Bool → Question → List ℕ → Reading
asks_by good q s = guarded_by good untold (ask_step q (decode s)) s

abbrev pub commands_by : Bool → Command → List ℕ → Reply
commands_by good c s = guarded_by good (refused s) (settled_box s (command_step c (decode s) (decode_map s))) s

abbrev pub its_sets_by : Bool → ℕ → ℕ → ℕ → ℕ → List ℕ → Reply
its_sets_by good group attribute width value s =
    choose (eqb group 4 && eqb attribute 4) (commands_by good (Reset width) s) (changes_by good (ItsSet group attribute width value) s)

abbrev pub looks_by : Bool → ℕ → ℕ → List ℕ → Reading
looks_by good device event s = guarded_by good untold (lookup_step device event (decode s) (decode_map s)) s

abbrev pub saves_by : Bool → List ℕ → List ℕ → Reply
saves_by good s mem =
    guarded_by good (refused mem)
    (choose (eqb (memory_fault (length mem) (decode s)) 0)
    (record { answer = done 0; lent = saved_memory (decode s) (decode_map s) mem })
    (refused mem (memory_fault (length mem) (decode s))))
    s

abbrev pub restores_by : Bool → List ℕ → List ℕ → Reply
restores_by good s mem =
    guarded_by good (refused s)
    (choose (eqb (memory_fault (length mem) (decode s)) 0)
    (restored_to s (restored (decode s) mem))
    (refused s (memory_fault (length mem) (decode s))))
    s

abbrev pub explains_by : Bool → List ℕ → List ℕ → Reading
explains_by good s mem =
    guarded_by good untold
    (choose (eqb (memory_fault (length mem) (decode s)) 0)
    (record { errno = 0; number = verdict (restored (decode s) mem) })
    (untold (memory_fault (length mem) (decode s))))
    s

abbrev pub step_by : Bool → (ℕ → ℕ → ℕ → Machine) → Call → List ℕ → List ℕ → After
step_by good fresh state_len s v = tells (pos size) s v
step_by good fresh (setup width start len) s v = writes (set_up_by fresh width start len s) v
step_by good fresh (vcpu_add affinity) s v = writes (changes_by good (AddVcpu affinity) s) v
step_by good fresh vcpus_start s v = writes (changes_by good Start s) v
step_by good fresh vcpus_stop s v = writes (changes_by good Stop s) v
step_by good fresh (vgic_set group attribute) s v = writes (changes_by good (VgicSet group attribute (length v) (value_of v)) s) v
step_by good fresh (its_set group attribute) s v = writes (its_sets_by good group attribute (length v) (value_of v) s) v
step_by good fresh (vgic_get group attribute) s v = gives s (given (asks_by good (VgicGet group attribute (length v) (value_of v)) s) v)
step_by good fresh (its_get group attribute) s v = gives s (given (asks_by good (ItsGet group attribute (length v)) s) v)
step_by good fresh (redist_base vcpu) s v = tells (answered (asks_by good (RedistBase vcpu) s)) s v
step_by good fresh (irq_pending vcpu intid) s v = tells (answered (asks_by good (Pending vcpu intid) s)) s v
step_by good fresh (irq_set_pending vcpu intid) s v = writes (changes_by good (SetPending vcpu intid) s) v
step_by good fresh (irq_clear_pending vcpu intid) s v = writes (changes_by good (ClearPending vcpu intid) s) v
step_by good fresh (irq_activate vcpu intid) s v = writes (changes_by good (Activate vcpu intid) s) v
step_by good fresh (irq_line vcpu intid level) s v = writes (changes_by good (Line vcpu intid level) s) v
step_by good fresh (irq_trigger vcpu intid word) s v = writes (changes_by good (Trigger vcpu intid word) s) v
step_by good fresh (its_place ds dp cs cp) s v = writes (commands_by good (Place ds dp cs cp) s) v
step_by good fresh (its_map_device id itt bits) s v = writes (commands_by good (MapDevice id itt bits) s) v
step_by good fresh (its_unmap_device id) s v = writes (commands_by good (UnmapDevice id) s) v
step_by good fresh (its_map_collection icid pe) s v = writes (commands_by good (MapCollection icid pe) s) v
step_by good fresh (its_unmap_collection icid) s v = writes (commands_by good (UnmapCollection icid) s) v
step_by good fresh (its_map_event device event lpi icid) s v = writes (commands_by good (MapEvent device event lpi icid) s) v
step_by good fresh (its_discard device event) s v = writes (commands_by good (Discard device event) s) v
step_by good fresh (its_move device event icid) s v = writes (commands_by good (Move device event icid) s) v
step_by good fresh (its_lookup device event) s v = tells (answered (looks_by good device event s)) s v
step_by good fresh its_save s v = gives s (saves_by good s v)
step_by good fresh its_restore s v = writes (restores_by good s v) v
step_by good fresh its_explain s v = tells (answered (explains_by good s v)) s v

-- ---- as they were: the fresh guest, and each call

abbrev pub former_fresh : ℕ → ℕ → ℕ → Machine
former_fresh width start len = record {
  memory = record { width = width; start = start; length = len };
  control = record { init = 0; running = 0; irqs = 256; irqsset = 0; status = 0; itsinit = 0 };
  frames = record { distributor = unset; single = unset; its = unset };
  regions = [];
  vcpus = [];
  shared = replicate (shared_count 256) no_bank;
  tables = no_tables;
}

abbrev pub former_step : Call → List ℕ → List ℕ → After
former_step c s v = step_by (former_sound s) former_fresh c s v
