-- INTIDs 1,020 to 1,023: on every sound state, whatever was called before, they read 0 and nothing is stored for them.
use Rattle.std.specs.Prelude.{ℕ, ◌^◌, ◌≤◌, ◌<◌, ◌≡◌, List, length, get_or}
use Rattle.lists.proofs.All.{All}
use Rattle.words.specs.Words.{le}
use Rattle.answers.specs.Answer.{done}
use Rattle.guest.specs.declared.Bank.{Bank}
use Rattle.guest.specs.Machine.{no_bank}
use Rattle.irqs.specs.Registers.{offset_of, vintid_of}
use Rattle.layout.specs.Layout.{decode}
use Rattle.maplayout.specs.MapLayout.{decode_map}
use Rattle.state.specs.Sound.{Sound}
use Rattle.step.specs.Step.{Call, step, vgic_get, irq_pending, irq_set_pending, irq_clear_pending, irq_activate, irq_line}
use Rattle.claims.specs.Demand3.{Accepted, Turn, Given, run}

-- §4.17: the four INTIDs
pub record Special (intid : ℕ) : Type 0 where
  pub from : 1020 ≤ intid
  pub to : intid ≤ 1023

-- §4.17: the calls that name VCPU k and one of the four, but for the trigger call, which names their bank; a line's level is 0 or 1 (§4.8)
pub data OnOne (k : ℕ) : Call → Type 0 where
  asks : (intid : ℕ) → Special intid → OnOne k (irq_pending k intid)
  sets : (intid : ℕ) → Special intid → OnOne k (irq_set_pending k intid)
  clears : (intid : ℕ) → Special intid → OnOne k (irq_clear_pending k intid)
  activates : (intid : ℕ) → Special intid → OnOne k (irq_activate k intid)
  line : (intid level : ℕ) → Special intid → level ≤ 1 → OnOne k (irq_line k intid level)

-- §4.11, §4.15: the gets of words with their bits: the latch word at 0x27C, its twin at 0x2FC that reads 0, and the level word at vINTID 992
pub data Reads : Call → Type 0 where
  latches : (attribute : ℕ) → offset_of attribute ≡ 0x27C → Reads (vgic_get 1 attribute)
  zeros : (attribute : ℕ) → offset_of attribute ≡ 0x2FC → Reads (vgic_get 1 attribute)
  levels : (attribute : ℕ) → vintid_of attribute ≡ 992 → Reads (vgic_get 7 attribute)

-- §10.10: bits [31:28] of a bank's three words are 0: each is below 2^28
pub record Short (b : Bank) : Type 0 where
  pub latch : b.latch < 2 ^ 28
  pub level : b.level < 2 ^ 28
  pub trigger : b.trigger < 2 ^ 28

-- §10.10: pending that is answered is 0; a word that is read, and each of the last bank (row 30, INTIDs 992 on), has bits [31:28] 0; a call of
-- `OnOne` changes nothing, and is answered by 0 where it names a VCPU of a guest whose INIT is done
pub record Silent (s : List ℕ) : Type 0 where
  pub pending : (k intid n : ℕ) (v : List ℕ) → Special intid → (step (irq_pending k intid) s v).answer ≡ done n → n ≡ 0
  pub reads : (q : Call) (v : List ℕ) → Reads q → Accepted (step q s v) → le (step q s v).lent < 2 ^ 28
  pub held : Short (get_or (decode s).shared 30 no_bank)
  pub leaves : (k : ℕ) (c : Call) (v : List ℕ) → OnOne k c
      → (decode (step c s v).state ≡ decode s) × (decode_map (step c s v).state ≡ decode_map s)
  pub answers : (k : ℕ) (c : Call) (v : List ℕ) → OnOne k c → (decode s).control.init ≡ 1 → k < length (decode s).vcpus
      → Accepted (step c s v)

-- §10.10: so it is on every state that a list of calls on a sound one leaves; with an empty list, on that state itself
abbrev pub SpecialIntids : Type 0
SpecialIntids = (t : List ℕ) → Sound t → (turns : List Turn) → All Given turns → Silent (run turns t)
