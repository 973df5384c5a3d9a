-- The rules of the banks broken by a byte: what a call says of the state, and beside it of a neighbour that keeps them.
use Rattle.std.specs.Prelude.{ℕ, List, [], ◌∷◌}
use Rattle.answers.specs.Answer.{refusal, done}
use Rattle.words.specs.Words.{put_at}
use Rattle.step.specs.Step.{setup, vcpu_add, vcpus_stop, vgic_set}
use Rattle.step.specs.Run.{Row, Runs, ◌⇒◌, with, word, after, unmade}
use Rattle.runs.specs.Banks.{wide}

-- Notation: the state after some calls, with one byte made another
abbrev pub touched : List Row → ℕ → ℕ → List ℕ
touched rs at byte = put_at (after rs unmade) at (byte ∷ [])

-- Notation: a guest before INIT, with two VCPUs and 256 interrupts
abbrev pub early : List Row
early =
    setup 40 0x40000000 0x4000 ⇒ done 0
    ∷ with (vgic_set 3 0) (word 256) (done 0)
    ∷ vcpu_add 5 ⇒ done 0
    ∷ vcpu_add 7 ⇒ done 0
    ∷ []

-- Notation: after INIT a stop is accepted on a sound state, and before it a VCPU; on others both are -22 (§1.3)
abbrev pub Kept : List ℕ → Type 0
Kept s = Runs (vcpus_stop ⇒ done 0 ∷ []) s

abbrev pub Bad : List ℕ → Type 0
Bad s = Runs (vcpus_stop ⇒ refusal 22 ∷ []) s

abbrev pub KeptEarly : List ℕ → Type 0
KeptEarly s = Runs (vcpu_add 6 ⇒ done 0 ∷ []) s

abbrev pub BadEarly : List ℕ → Type 0
BadEarly s = Runs (vcpu_add 6 ⇒ refusal 22 ∷ []) s

-- §1.15: bit 28 of the last bank's latch, level and trigger, whose highest bytes are 2,339, 2,343 and 2,347; bit 27 is good, and so is bit 31
-- of the bank before, at 2,327. §1.16: STATUSR of the distributor, at 56; a latch, a level, a trigger and the STATUSR of the first VCPU, from
-- 700 on, and a latch of the second, at 720; a latch, a level and a trigger of the first shared bank, from 1,976 on, and a latch of the
-- seventh, at 2,048. Behind the last VCPU and the last bank any byte is good (§1.7), and after INIT those of §1.16 are.
pub record Broken : Type 0 where
  pub latch : Bad (touched wide 2339 0x10) × Kept (touched wide 2339 8)
  pub level : Bad (touched wide 2343 0x10) × Kept (touched wide 2343 8)
  pub trigger : Bad (touched wide 2347 0x10) × Kept (touched wide 2347 8)
  pub before : Kept (touched wide 2327 0x80)
  pub status : BadEarly (touched early 56 1) × Kept (touched wide 56 1)
  pub own : BadEarly (touched early 720 1) × BadEarly (touched early 700 1) × BadEarly (touched early 706 1) × BadEarly (touched early 710 1) × BadEarly (touched early 712 1)
  pub own_later : Kept (touched wide 700 1) × Kept (touched wide 706 1) × Kept (touched wide 710 1) × Kept (touched wide 712 1)
  pub shared : BadEarly (touched early 1976 1) × BadEarly (touched early 1980 1) × BadEarly (touched early 1984 1) × BadEarly (touched early 2048 1)
  pub shared_later : Kept (touched wide 1976 1) × Kept (touched wide 1980 1) × Kept (touched wide 1984 1) × Kept (touched wide 2048 1)
  pub behind : KeptEarly (touched early 740 1) × KeptEarly (touched early 2060 1) × KeptEarly (touched early 2339 0x10)
