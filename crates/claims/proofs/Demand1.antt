-- Demand 1 (§10.2): every call answers 0 or more or a listed errno, and a refusal changes nothing. Assumes nothing.
use Prim.Native.Nat.{ℕ}
use mathlib.Core.Path.{◌≡◌, refl}
use mathlib.Core.Bool.{Bool, true, false, ◌||◌, ◌&&◌}
use mathlib.Core.Logic.{inl, inr}
use mathlib.Core.List.{List}
use lib.ListN.{length}
use lib.Dec.{eqb}
use borrow.Author.Tests.{eqb-false, ne_eqb}
use Rattle.answers.specs.Errno as errnos
use Rattle.guest.specs.Machine.{Reading}
use Rattle.guest.specs.Machine.{Machine, is_running}
use Rattle.rules.specs.Rules.{memory_ok}
use Rattle.layout.specs.Layout.{size, decode}
use Rattle.mapping.specs.Mapped.{Mapped, MapResult}
use Rattle.mapping.specs.Commands.{place_fault}
use Rattle.maplayout.specs.MapLayout.{decode_map}
use Rattle.tables.specs.Fault.{kind_errno}
use Rattle.tables.specs.Restored.{Out, fault, found, restored}
use Rattle.mapkept.proofs.Answers.{place_fault-listed, lookup_listed, map_device-listed, unmap_device-listed, map_collection-listed, unmap_collection-listed, map_event-listed, discard_listed, move_listed}
use Rattle.described.proofs.Faults.{Known, number_known}
use Rattle.kept.specs.Good.{listed}
use Rattle.kept.proofs.Choice.{chosen, choose_by}
use Rattle.calls.specs.declared.Change.{Change}
use Rattle.calls.specs.declared.Change.TheVariants.{AddVcpu, Start, Stop, VgicSet, ItsSet, SetPending, ClearPending, Activate, Line, Trigger}
use Rattle.calls.specs.declared.Question.{Question}
use Rattle.calls.specs.declared.Question.TheVariants.{VgicGet, ItsGet, RedistBase, Pending}
use Rattle.calls.specs.declared.Command.{Command}
use Rattle.calls.specs.declared.Command.TheVariants.{Place, MapDevice, UnmapDevice, MapCollection, UnmapCollection, MapEvent, Discard, Move, Reset}
use Rattle.calls.specs.Steps.{change_step}
use Rattle.calls.specs.Commands.{BoxResult, its_initialised, ready, on_mapping, placed_at, place, reset, command_step, lookup_step, memory_fault}
use Rattle.state.specs.Sound.{sound}
use Rattle.calls.specs.Call.{Reply, changes, asks, set_up, value_of, given, answered, refused, commands, looks, saves, restored_to, restores, explains}
use Rattle.calls.proofs.Answers.{change_known, ask_known}
use Rattle.step.specs.Step.{Call, step, writes, gives, tells, state_len, vcpus_start, vcpus_stop, setup, vcpu_add, redist_base, vgic_set, its_set, vgic_get, its_get, irq_pending, irq_set_pending, irq_clear_pending, irq_activate, irq_line, irq_trigger, its_place, its_map_event, its_map_device, its_move, its_map_collection, its_discard, its_lookup, its_unmap_device, its_unmap_collection, its_save, its_restore, its_explain}
use Rattle.claims.specs.Claims.{Answers, succeeds, refuses}

or_end : (b : Bool) → (b || false) ≡ b
or_end true = refl
or_end false = refl

-- a step's errno that is not 0 is one of the table
pub in_table : (e : ℕ) → listed e ≡ true → (e ≡ 0 → ⊥) → errnos.listed e ≡ true
unfolding listed errnos.listed
in_table e h n = rw (or_end (eqb e 22)) (rw (ne_eqb e 0 n) at h)

-- the errno of a command, of a lookup, and of memory that is lent
abbrev BoxListed : BoxResult → Type 0
BoxListed r = listed r.errno ≡ true

module _ (m : Machine) (k : Mapped) where
  mapping_listed : (r : MapResult) → listed r.errno ≡ true → BoxListed (on_mapping r m k)
  unfolding on_mapping listed
  mapping_listed r h = chosen BoxListed (ready m) h refl

  command_listed : (c : Command) → BoxListed (command_step c m k)
  unfolding place reset listed
  command_listed (Place ds dp cs cp) =
      chosen BoxListed (its_initialised m)
      (chosen BoxListed (eqb (place_fault (placed_at ds dp) (placed_at cs cp) m k) 0) refl (place_fault-listed (placed_at ds dp) (placed_at cs cp) m k))
      refl
  command_listed (MapDevice id itt bits) = mapping_listed _ (map_device-listed id itt bits m k)
  command_listed (UnmapDevice id) = mapping_listed _ (unmap_device-listed id k)
  command_listed (MapCollection icid pe) = mapping_listed _ (map_collection-listed icid pe m k)
  command_listed (UnmapCollection icid) = mapping_listed _ (unmap_collection-listed icid k)
  command_listed (MapEvent device event lpi icid) = mapping_listed _ (map_event-listed device event lpi icid k)
  command_listed (Discard device event) = mapping_listed _ (discard_listed device event k)
  command_listed (Move device event icid) = mapping_listed _ (move_listed device event icid k)
  command_listed (Reset width) =
      chosen BoxListed (eqb width 0)
      (chosen BoxListed (its_initialised m) (chosen BoxListed (is_running m) refl refl) refl)
      refl

  lookup_known : (device event : ℕ) → listed (lookup_step device event m k).errno ≡ true
  unfolding lookup_step listed
  lookup_known device event = chosen (λ (r : Reading). listed r.errno ≡ true) (ready m) (lookup_listed device event k) refl

memory_known : (len : ℕ) (m : Machine) → listed (memory_fault len m) ≡ true
unfolding memory_fault listed
memory_known len m =
    chosen (λ (e : ℕ). listed e ≡ true) (eqb len m.memory.length)
    (chosen (λ (e : ℕ). listed e ≡ true) (ready m) (chosen (λ (e : ℕ). listed e ≡ true) (is_running m) refl refl) refl)
    refl

pub known_listed : (e : ℕ) → Known e → errnos.listed e ≡ true
unfolding errnos.listed
known_listed e (inl q) = rw q
known_listed e (inr (inl q)) = rw q
known_listed e (inr (inr q)) = rw q

module _ (s v : List ℕ) where
  fourteen : Answers s v (writes (refused s 14) v)
  unfolding errnos.listed
  fourteen = refuses 14 refl refl refl refl

  twentytwo : Answers s v (writes (refused s 22) v)
  unfolding errnos.listed
  twentytwo = refuses 22 refl refl refl refl

  abbrev Fair : Reply → Type 0
  Fair r = Answers s v (writes r v)

  change_answers : (c : Change) → Answers s v (writes (changes c s) v)
  unfolding changes
  change_answers c =
      chosen Fair (eqb (length s) size)
      (chosen Fair (sound s)
      (choose_by Fair (eqb (change_step c (decode s)).errno 0)
      (λ _. succeeds 0 refl)
      (λ q. refuses (change_step c (decode s)).errno (in_table _ (change_known (decode s) c) (eqb-false _ 0 q)) refl refl refl))
      twentytwo)
      fourteen

  setup_answers : (width start len : ℕ) → Answers s v (writes (set_up width start len s) v)
  unfolding set_up
  setup_answers width start len =
      chosen Fair (eqb (length s) size)
      (chosen Fair (memory_ok (record { width = width; start = start; length = len })) (succeeds 0 refl) twentytwo)
      fourteen

  asked_known : (q : Question) → listed (asks q s).errno ≡ true
  unfolding asks listed
  asked_known q =
      chosen (λ (r : Reading). listed r.errno ≡ true) (eqb (length s) size)
      (chosen (λ (r : Reading). listed r.errno ≡ true) (sound s) (ask_known (decode s) q) refl)
      refl

  get_answers : (q : Question) → Answers s v (gives s (given (asks q s) v))
  get_answers q =
      choose_by (λ (r : Reply). Answers s v (gives s r)) (eqb (asks q s).errno 0)
      (λ _. succeeds 0 refl)
      (λ f. refuses (asks q s).errno (in_table _ (asked_known q) (eqb-false _ 0 f)) refl refl refl)

  number_answers : (q : Question) → Answers s v (tells (answered (asks q s)) s v)
  number_answers q =
      choose_by (λ z. Answers s v (tells z s v)) (eqb (asks q s).errno 0)
      (λ _. succeeds (asks q s).number refl)
      (λ f. refuses (asks q s).errno (in_table _ (asked_known q) (eqb-false _ 0 f)) refl refl refl)

  -- the ITS
  command_answers : (c : Command) → Answers s v (writes (commands c s) v)
  unfolding commands
  command_answers c =
      let r = command_step c (decode s) (decode_map s) in
      chosen Fair (eqb (length s) size)
      (chosen Fair (sound s)
      (choose_by Fair (eqb r.errno 0)
      (λ _. succeeds 0 refl)
      (λ q. refuses r.errno (in_table _ (command_listed (decode s) (decode_map s) c) (eqb-false _ 0 q)) refl refl refl))
      twentytwo)
      fourteen

  looked_known : (device event : ℕ) → listed (looks device event s).errno ≡ true
  unfolding looks listed
  looked_known device event =
      chosen (λ (r : Reading). listed r.errno ≡ true) (eqb (length s) size)
      (chosen (λ (r : Reading). listed r.errno ≡ true) (sound s) (lookup_known (decode s) (decode_map s) device event) refl)
      refl

  -- a question with a listed errno, if any
  told_answers : (r : Reading) → listed r.errno ≡ true → Answers s v (tells (answered r) s v)
  told_answers r h =
      choose_by (λ z. Answers s v (tells z s v)) (eqb r.errno 0)
      (λ _. succeeds r.number refl)
      (λ f. refuses r.errno (in_table _ h (eqb-false _ 0 f)) refl refl refl)

  explained_known : listed (explains s v).errno ≡ true
  unfolding explains listed
  explained_known =
      chosen (λ (r : Reading). listed r.errno ≡ true) (eqb (length s) size)
      (chosen (λ (r : Reading). listed r.errno ≡ true) (sound s)
      (chosen (λ (r : Reading). listed r.errno ≡ true) (eqb (memory_fault (length v) (decode s)) 0) refl (memory_known (length v) (decode s)))
      refl)
      refl

  save_answers : Answers s v (gives s (saves s v))
  unfolding saves errnos.listed
  save_answers =
      let e = memory_fault (length v) (decode s) in
      chosen Given (eqb (length s) size)
      (chosen Given (sound s)
      (choose_by Given (eqb e 0)
      (λ _. succeeds 0 refl)
      (λ q. refuses e (in_table e (memory_known (length v) (decode s)) (eqb-false e 0 q)) refl refl refl))
      (refuses 22 refl refl refl refl))
      (refuses 14 refl refl refl refl)
    where
      Given : Reply → Type 0
      Given r = Answers s v (gives s r)

  restored_answers : (o : Out) → restored (decode s) v ≡ o → Answers s v (writes (restored_to s o) v)
  restored_answers (fault f) q = refuses (kind_errno f.kind) (known_listed (kind_errno f.kind) (number_known f.kind)) refl refl refl
  restored_answers (found k) q = succeeds 0 refl

  restore_answers : Answers s v (writes (restores s v) v)
  unfolding restores
  restore_answers =
      let e = memory_fault (length v) (decode s) in
      chosen Fair (eqb (length s) size)
      (chosen Fair (sound s)
      (choose_by Fair (eqb e 0)
      (λ _. restored_answers (restored (decode s) v) refl)
      (λ q. refuses e (in_table e (memory_known (length v) (decode s)) (eqb-false e 0 q)) refl refl refl))
      twentytwo)
      fourteen

-- §10.2: for every call, every state and every lent value or memory, of any bytes and any length
pub demand1 : (c : Call) (s v : List ℕ) → Answers s v (step c s v)
demand1 state_len s v = succeeds size refl
demand1 (setup width start len) s v = setup_answers s v width start len
demand1 (vcpu_add a) s v = change_answers s v (AddVcpu a)
demand1 vcpus_start s v = change_answers s v Start
demand1 vcpus_stop s v = change_answers s v Stop
demand1 (vgic_set g a) s v = change_answers s v (VgicSet g a (length v) (value_of v))
demand1 (its_set g a) s v =
    chosen (λ (r : Reply). Answers s v (writes r v)) (eqb g 4 && eqb a 4) (command_answers s v (Reset (length v)))
    (change_answers s v (ItsSet g a (length v) (value_of v)))
demand1 (vgic_get g a) s v = get_answers s v (VgicGet g a (length v) (value_of v))
demand1 (its_get g a) s v = get_answers s v (ItsGet g a (length v))
demand1 (redist_base k) s v = number_answers s v (RedistBase k)
demand1 (irq_pending k i) s v = number_answers s v (Pending k i)
demand1 (irq_set_pending k i) s v = change_answers s v (SetPending k i)
demand1 (irq_clear_pending k i) s v = change_answers s v (ClearPending k i)
demand1 (irq_activate k i) s v = change_answers s v (Activate k i)
demand1 (irq_line k i l) s v = change_answers s v (Line k i l)
demand1 (irq_trigger k i w) s v = change_answers s v (Trigger k i w)
demand1 (its_place ds dp cs cp) s v = command_answers s v (Place ds dp cs cp)
demand1 (its_map_device id itt bits) s v = command_answers s v (MapDevice id itt bits)
demand1 (its_unmap_device id) s v = command_answers s v (UnmapDevice id)
demand1 (its_map_collection icid pe) s v = command_answers s v (MapCollection icid pe)
demand1 (its_unmap_collection icid) s v = command_answers s v (UnmapCollection icid)
demand1 (its_map_event device event lpi icid) s v = command_answers s v (MapEvent device event lpi icid)
demand1 (its_discard device event) s v = command_answers s v (Discard device event)
demand1 (its_move device event icid) s v = command_answers s v (Move device event icid)
demand1 (its_lookup device event) s v = told_answers s v (looks device event s) (looked_known s v device event)
demand1 its_save s v = save_answers s v
demand1 its_restore s v = restore_answers s v
demand1 its_explain s v = told_answers s v (explains s v) (explained_known s v)
