-- What is claimed of every call.
use Rattle.std.specs.Prelude.{ℕ, ◌<◌, ◌^◌, ◌≡◌, true, List}
use Rattle.answers.specs.Errno.{listed}
use Rattle.answers.specs.Answer.{refusal, done}
use Rattle.step.specs.Step.{Call, After, state_len, vcpus_start, vcpus_stop, setup, vcpu_add, redist_base, vgic_set, its_set, vgic_get, its_get, irq_pending, irq_set_pending, irq_clear_pending, irq_activate, irq_line, irq_trigger, its_place, its_map_event, its_map_device, its_move, its_map_collection, its_discard, its_lookup, its_unmap_device, its_unmap_collection, its_save, its_restore, its_explain}

-- §10.2: an answer of 0 or more; or a refusal (§2.1) by one of the nine errnos of §2.2, and then state and lent bytes
-- are as they were (§2.4)
pub data Answers (s v : List ℕ) (a : After) : Type 0 where
  succeeds : (n : ℕ) → a.answer ≡ done n → Answers s v a
  refuses : (e : ℕ) → listed e ≡ true → a.answer ≡ refusal e → a.state ≡ s → a.lent ≡ v → Answers s v a

-- §3.1, §4.7: the numbers of a call as C passes them: an affinity and a trigger word have 32 bits; nothing is asked of the others
abbrev pub Passed : Call → Type 0
Passed (vcpu_add affinity) = affinity < 2 ^ 32
Passed (irq_trigger vcpu intid word) = word < 2 ^ 32
Passed state_len = Unit {0}
Passed vcpus_start = Unit {0}
Passed vcpus_stop = Unit {0}
Passed (setup width start len) = Unit {0}
Passed (redist_base vcpu) = Unit {0}
Passed (vgic_set group attribute) = Unit {0}
Passed (its_set group attribute) = Unit {0}
Passed (vgic_get group attribute) = Unit {0}
Passed (its_get group attribute) = Unit {0}
Passed (irq_pending vcpu intid) = Unit {0}
Passed (irq_set_pending vcpu intid) = Unit {0}
Passed (irq_clear_pending vcpu intid) = Unit {0}
Passed (irq_activate vcpu intid) = Unit {0}
Passed (irq_line vcpu intid level) = Unit {0}
Passed (its_place ds dp cs cp) = Unit {0}
Passed (its_map_device id itt bits) = Unit {0}
Passed (its_unmap_device id) = Unit {0}
Passed (its_map_collection icid pe) = Unit {0}
Passed (its_unmap_collection icid) = Unit {0}
Passed (its_map_event device event lpi icid) = Unit {0}
Passed (its_discard device event) = Unit {0}
Passed (its_move device event icid) = Unit {0}
Passed (its_lookup device event) = Unit {0}
Passed its_save = Unit {0}
Passed its_restore = Unit {0}
Passed its_explain = Unit {0}
