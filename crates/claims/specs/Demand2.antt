-- Demand 2: what every call leaves of a sound state, and what set-up, save, restore and some single calls do.
use Rattle.std.specs.Prelude.{ℕ, ◌+◌, ◌*◌, ◌^◌, ◌≤◌, ◌<◌, ◌≡◌, List, length, get_or}
use Rattle.lists.proofs.All.{All}
use Rattle.words.proofs.Bytes.{Bytes}
use Rattle.areas.specs.declared.Area.{Area}
use Rattle.areas.specs.Area.{end_of}
use Rattle.irqs.specs.Spots.{vcpu_at}
use Rattle.irqs.specs.Registers.{affinity_of, vintid_of}
use Rattle.mapping.specs.declared.Device.{Device}
use Rattle.mapping.specs.Commands.{device_entries, table_areas}
use Rattle.layout.specs.Layout.{decode}
use Rattle.maplayout.specs.MapLayout.{decode_map}
use Rattle.tables.specs.Bytes.{device_table, collection_table, itt_table}
use Rattle.tables.specs.Saved.{events_of, saved_device, saved_event, saved_collection, table_of, saved_memory}
use Rattle.state.specs.Sound.{Sound}
use Rattle.step.specs.Step.{Call, After, step, setup, vgic_set, vgic_get, irq_pending, irq_set_pending, irq_clear_pending, irq_activate, irq_line, irq_trigger, its_save, its_restore}
use Rattle.claims.specs.Claims.{Passed}
use Rattle.claims.specs.Demand3.{Accepted}
use Rattle.claims.specs.Anchors.{SetUp, Inits, Runs, Looks, Resets}

-- §7.6: an address that is in none of the saved bytes' areas: the two tables and the mapped devices' ITTs
abbrev pub Outside : List ℕ → ℕ → Type 0
Outside s x = All (λ (a : Area). a.start ≤ x → x < end_of a → ⊥) (table_areas (decode s) (decode_map s).devices)

-- §10.4: an accepted save: the state stays; the memory is the saved memory, of the same length; the device table
-- (§7.3), the collection table (§7.4) and the ITT of each mapped device (§7.5) hold their entries, each by itself; no
-- byte outside the saved areas changes (§7.6)
pub record SaveLeaves (s mem : List ℕ) : Type 0 where
  pub state : (step its_save s mem).state ≡ s
  pub memory : (step its_save s mem).lent ≡ saved_memory (decode s) (decode_map s) mem
  pub size : length (step its_save s mem).lent ≡ length mem
  pub devices : device_table (decode s) (step its_save s mem).lent ≡ table_of (saved_device (decode_map s).devices) (device_entries (decode s))
  pub collections : collection_table (decode s) (step its_save s mem).lent
      ≡ table_of (saved_collection (decode_map s).collections) (512 * (decode s).tables.collections.pages)
  pub itts : All (λ (d : Device). itt_table (decode s) (step its_save s mem).lent d
      ≡ table_of (saved_event (events_of d.id (decode_map s).events)) (2 ^ d.bits)) (decode_map s).devices
  pub outside : (i : ℕ) → i < length mem → Outside s ((decode s).memory.start + i) → get_or (step its_save s mem).lent i 0 ≡ get_or mem i 0

-- §10.4, §9.2: an accepted restore: no byte of memory changes, and of the guest nothing but the mapping
pub record RestoreLeaves (s mem : List ℕ) : Type 0 where
  pub memory : (step its_restore s mem).lent ≡ mem
  pub guest : decode (step its_restore s mem).state ≡ decode s

-- §4.12, §4.15: an attribute's affinity is that of VCPU k
pub record Affine (s : List ℕ) (attribute k : ℕ) : Type 0 where
  pub there : k < length (decode s).vcpus
  pub affinity : (vcpu_at k (decode s)).affinity ≡ affinity_of attribute

-- §4.16: the calls on s that name VCPU k for INTIDs below 32: the six of §4.8, and sets of groups 5 and 7
pub data Names (k : ℕ) (s : List ℕ) : Call → Type 0 where
  pending : (intid : ℕ) → intid < 32 → Names k s (irq_pending k intid)
  sets : (intid : ℕ) → intid < 32 → Names k s (irq_set_pending k intid)
  clears : (intid : ℕ) → intid < 32 → Names k s (irq_clear_pending k intid)
  activates : (intid : ℕ) → intid < 32 → Names k s (irq_activate k intid)
  line : (intid level : ℕ) → intid < 32 → Names k s (irq_line k intid level)
  trigger : (intid word : ℕ) → intid < 32 → Names k s (irq_trigger k intid word)
  registers : (attribute : ℕ) → Affine s attribute k → Names k s (vgic_set 5 attribute)
  levels : (attribute : ℕ) → Affine s attribute k → vintid_of attribute ≡ 0 → Names k s (vgic_set 7 attribute)

-- §4.16: the questions on s about VCPU j's bank: pending, and gets of groups 5 and 7
pub data About (j : ℕ) (s : List ℕ) : Call → Type 0 where
  pending : (intid : ℕ) → intid < 32 → About j s (irq_pending j intid)
  registers : (attribute : ℕ) → Affine s attribute j → About j s (vgic_get 5 attribute)
  levels : (attribute : ℕ) → Affine s attribute j → vintid_of attribute ≡ 0 → About j s (vgic_get 7 attribute)

-- Notation: the same answer, and the same lent bytes
pub record Alike (a b : After) : Type 0 where
  pub answer : a.answer ≡ b.answer
  pub lent : a.lent ≡ b.lent

-- §10.5, §4.16: banks stand apart: a question about VCPU j's own bank is answered the same before and after a call on VCPU k's
abbrev pub Apart : Type 0
Apart = (j k : ℕ) → (j ≡ k → ⊥) → (c q : Call) (s v w : List ℕ) → Sound s → Passed c → Bytes v → Names k s c → About j s q
    → Alike (step q (step c s v).state w) (step q s w)

-- §10.3: `stays`, `makes`, `fresh`. §10.4: `saves`, `restores`. §10.5: the others. Each says of which states: of sound ones, after the INIT
-- that the call asks for; set-up, save and restore of any bytes, where they are accepted.
pub record Demand2 : Type 0 where
  pub stays : (c : Call) (s v : List ℕ) → Passed c → Bytes v → Sound s → Sound (step c s v).state
  pub makes : (width start len : ℕ) (s v : List ℕ) → Bytes s → Accepted (step (setup width start len) s v)
      → Sound (step (setup width start len) s v).state
  pub saves : (s mem : List ℕ) → Bytes s → Accepted (step its_save s mem) → SaveLeaves s mem
  pub restores : (s mem : List ℕ) → Bytes s → Accepted (step its_restore s mem) → RestoreLeaves s mem
  pub apart : Apart
  pub fresh : (width start len : ℕ) (s v : List ℕ) → Bytes s → Accepted (step (setup width start len) s v)
      → SetUp width start len (step (setup width start len) s v)
  pub inits : (s : List ℕ) → Sound s → Inits s
  pub runs : (s : List ℕ) → Sound s → (decode s).control.init ≡ 1 → Runs s
  pub looks : (s : List ℕ) → Sound s → (decode s).control.itsinit ≡ 1 → (decode s).tables.devices.set ≡ 1 → Looks s
  pub resets : (s : List ℕ) → Sound s → (decode s).control.itsinit ≡ 1 → (decode s).control.running ≡ 0 → Resets s
