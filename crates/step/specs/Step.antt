-- §10.1: one total definition of every public call on a state; the promise of each of these exports says that the call leaves what is said
-- here. The calls on an XICS have theirs in crates/xics (§14.13).
use Rattle.std.specs.Prelude.{ℕ, ◌≡◌, List, ℤ, pos, length}
use Rattle.layout.specs.Layout.{size}
use Rattle.calls.specs.declared.Change.TheVariants.{AddVcpu, Start, Stop, VgicSet, SetPending, ClearPending, Activate, Line, Trigger}
use Rattle.calls.specs.declared.Question.TheVariants.{VgicGet, ItsGet, RedistBase, Pending}
use Rattle.calls.specs.declared.Command.TheVariants.{Place, MapDevice, UnmapDevice, MapCollection, UnmapCollection, MapEvent, Discard, Move}
use Rattle.calls.specs.Call.{Reply, changes, asks, set_up, value_of, given, answered, commands, its_sets, looks, saves, restores, explains}

-- §10.1: a call: one for each function of the header on a state, with its numbers in their order
pub data Call : Type 0 where
  state_len vcpus_start vcpus_stop : Call
  setup : ℕ → ℕ → ℕ → Call
  vcpu_add redist_base : ℕ → Call
  vgic_set its_set vgic_get its_get : ℕ → ℕ → Call
  irq_pending irq_set_pending irq_clear_pending irq_activate : ℕ → ℕ → Call
  irq_line irq_trigger : ℕ → ℕ → ℕ → Call
  its_place its_map_event : ℕ → ℕ → ℕ → ℕ → Call
  its_map_device its_move : ℕ → ℕ → ℕ → Call
  its_map_collection its_discard its_lookup : ℕ → ℕ → Call
  its_unmap_device its_unmap_collection : ℕ → Call
  its_save its_restore its_explain : Call

-- Notation: what a call hands back, and what it leaves in the state and in the lent value or memory
pub record After : Type 0 where
  pub answer : ℤ
  pub state : List ℕ
  pub lent : List ℕ

-- §10.1: a call that may write the state, one that may write the lent bytes, one that writes nothing; what is only read stays
abbrev pub writes : Reply → List ℕ → After
writes r v = record { answer = r.answer; state = r.lent; lent = v }

abbrev pub gives : List ℕ → Reply → After
gives s r = record { answer = r.answer; state = s; lent = r.lent }

abbrev pub tells : ℤ → List ℕ → List ℕ → After
tells a s v = record { answer = a; state = s; lent = v }

-- §10.1: the call on a state and what is lent to it, which is empty where nothing is; save, restore and explain lend the memory. §1.2: the
-- length is answered of every state. §2.3: five calls answer the number that they are asked for, all others 0.
abbrev pub step : Call → List ℕ → List ℕ → After
step state_len s v = tells (pos size) s v
step (setup width start len) s v = writes (set_up width start len s) v
step (vcpu_add affinity) s v = writes (changes (AddVcpu affinity) s) v
step vcpus_start s v = writes (changes Start s) v
step vcpus_stop s v = writes (changes Stop s) v
step (vgic_set group attribute) s v = writes (changes (VgicSet group attribute (length v) (value_of v)) s) v
step (its_set group attribute) s v = writes (its_sets group attribute (length v) (value_of v) s) v
step (vgic_get group attribute) s v = gives s (given (asks (VgicGet group attribute (length v) (value_of v)) s) v)
step (its_get group attribute) s v = gives s (given (asks (ItsGet group attribute (length v)) s) v)
step (redist_base vcpu) s v = tells (answered (asks (RedistBase vcpu) s)) s v
step (irq_pending vcpu intid) s v = tells (answered (asks (Pending vcpu intid) s)) s v
step (irq_set_pending vcpu intid) s v = writes (changes (SetPending vcpu intid) s) v
step (irq_clear_pending vcpu intid) s v = writes (changes (ClearPending vcpu intid) s) v
step (irq_activate vcpu intid) s v = writes (changes (Activate vcpu intid) s) v
step (irq_line vcpu intid level) s v = writes (changes (Line vcpu intid level) s) v
step (irq_trigger vcpu intid word) s v = writes (changes (Trigger vcpu intid word) s) v
step (its_place ds dp cs cp) s v = writes (commands (Place ds dp cs cp) s) v
step (its_map_device id itt bits) s v = writes (commands (MapDevice id itt bits) s) v
step (its_unmap_device id) s v = writes (commands (UnmapDevice id) s) v
step (its_map_collection icid pe) s v = writes (commands (MapCollection icid pe) s) v
step (its_unmap_collection icid) s v = writes (commands (UnmapCollection icid) s) v
step (its_map_event device event lpi icid) s v = writes (commands (MapEvent device event lpi icid) s) v
step (its_discard device event) s v = writes (commands (Discard device event) s) v
step (its_move device event icid) s v = writes (commands (Move device event icid) s) v
step (its_lookup device event) s v = tells (answered (looks device event s)) s v
step its_save s v = gives s (saves s v)
step its_restore s v = writes (restores s v) v
step its_explain s v = tells (answered (explains s v)) s v

-- §10.1: the promise of an export: its answer, and what it leaves in the state and in the lent bytes, written or only read
pub record Leaves (a : After) (answer : ℤ) (s v : List ℕ) : Type 0 where
  pub number : answer ≡ a.answer
  pub state : s ≡ a.state
  pub lent : v ≡ a.lent
