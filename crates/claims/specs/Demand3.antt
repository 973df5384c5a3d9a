-- Demand 3: one claim about save, restore and what may happen in between.
use Rattle.std.specs.Prelude.{ℕ, ◌+◌, ◌≤◌, ◌<◌, ◌≡◌, true, false, ◌↔◌, List, [], ◌∷◌, length, get_or}
use Rattle.lists.proofs.All.{All}
use Rattle.words.proofs.Bytes.{Bytes}
use Rattle.answers.specs.Errno.{listed}
use Rattle.answers.specs.Answer.{refusal, done}
use Rattle.areas.specs.declared.Area.{Area}
use Rattle.areas.specs.Area.{end_of}
use Rattle.guest.specs.Machine.{Machine, is_running}
use Rattle.mapping.specs.Mapped.{Mapped}
use Rattle.mapping.specs.Commands.{table_areas, lookup}
use Rattle.mapping.specs.MapRules.{is_placed}
use Rattle.layout.specs.Layout.{decode}
use Rattle.maplayout.specs.MapLayout.{decode_map}
use Rattle.described.specs.Described.{Described}
use Rattle.state.specs.Sound.{Sound}
use Rattle.calls.specs.Commands.{its_initialised}
use Rattle.calls.specs.Call.{answered}
use Rattle.step.specs.Step.{Call, After, step, its_lookup, its_save, its_restore}
use Rattle.claims.specs.Claims.{Passed}

-- §2.3: accepted, for a call that is asked for no number; §2.1, §2.2: refused
abbrev pub Accepted : After → Type 0
Accepted a = a.answer ≡ done 0

abbrev pub Refused : After → Type 0
Refused a = (e : ℕ) × (listed e ≡ true) × (a.answer ≡ refusal e)

-- §10.6: ITS INIT is done, the tables are placed (§1.13: both or neither), the lent memory has the length of set-up, the guest is stopped
pub record Open (s mem : List ℕ) : Type 0 where
  pub initialised : its_initialised (decode s) ≡ true
  pub placed : is_placed (decode s) ≡ true
  pub size : length mem ≡ (decode s).memory.length
  pub stopped : is_running (decode s) ≡ false

-- §10.6: the guests that the demand is about: with a sound state besides
pub record Ready (s mem : List ℕ) : Type 0 where
  pub sound : Sound s
  pub opened : Open s mem

-- §10.6: a restore is exact: refused exactly where no mapping is described, accepted where one is; what it leaves is
-- described; §8.1: no two mappings are
pub record Exact (s mem : List ℕ) : Type 0 where
  pub refused : Refused (step its_restore s mem) ↔ ((k : Mapped) → Described (decode s) mem k → ⊥)
  pub accepted : Accepted (step its_restore s mem) → Described (decode s) mem (decode_map (step its_restore s mem).state)
  pub found : (k : Mapped) → Described (decode s) mem k → Accepted (step its_restore s mem)
  pub unique : (k h : Mapped) → Described (decode s) mem k → Described (decode s) mem h → k ≡ h

-- Notation: a call with what is lent to it
pub record Turn : Type 0 where
  pub call : Call
  pub lent : List ℕ

-- §10.8: any numbers that C can pass, and any lent bytes
pub record Given (x : Turn) : Type 0 where
  pub passed : Passed x.call
  pub bytes : Bytes x.lent

-- §10.8: the state after calls one by one, each on the state that the one before left
abbrev pub run : List Turn → List ℕ → List ℕ
run [] t = t
run (x ∷ xs) t = run xs (step x.call t x.lent).state

-- §10.8: the start and length of memory, the number of VCPUs and the two tables' places are the same
pub record SamePlaces (m n : Machine) : Type 0 where
  pub start : m.memory.start ≡ n.memory.start
  pub size : m.memory.length ≡ n.memory.length
  pub vcpus : length m.vcpus ≡ length n.vcpus
  pub devices : m.tables.devices.start ≡ n.tables.devices.start
  pub device_pages : m.tables.devices.pages ≡ n.tables.devices.pages
  pub collections : m.tables.collections.start ≡ n.tables.collections.start
  pub collection_pages : m.tables.collections.pages ≡ n.tables.collections.pages

-- §7.6, §10.8: the saved bytes of s, which are those of its two tables and the ITTs of its mapped devices: each stands in another memory as
-- in the first. §6.1: byte i of a memory is at address start + i.
abbrev pub SavedStand : List ℕ → List ℕ → List ℕ → Type 0
SavedStand s mem other =
    All (λ (a : Area). (i : ℕ) → i < length mem → a.start ≤ (decode s).memory.start + i → (decode s).memory.start + i < end_of a
    → get_or mem i 0 ≡ get_or other i 0)
    (table_areas (decode s) (decode_map s).devices)

-- §10.8: a restore of t is accepted and gives back the mapping of s, and each lookup answers what it answered of s
pub record GivesBack (s t mem : List ℕ) : Type 0 where
  pub accepted : Accepted (step its_restore t mem)
  pub mapping : decode_map (step its_restore t mem).state ≡ decode_map s
  pub lookups : (device event : ℕ) (v : List ℕ)
      → (step (its_lookup device event) (step its_restore t mem).state v).answer ≡ answered (lookup device event (decode_map s))
  pub at_save : (device event : ℕ) (v : List ℕ)
      → (step (its_lookup device event) s v).answer ≡ answered (lookup device event (decode_map s))

-- §10.6: `exact`. §10.7: `saves`. §10.8: `again`, which asks that the state before the list is sound; that the one at
-- its end is, is proved.
pub record Demand3 (s mem : List ℕ) : Type 0 where
  pub exact : Exact s mem
  pub saves : Accepted (step its_save s mem)
  pub again : (t : List ℕ) → Sound t → (turns : List Turn) → All Given turns → (other : List ℕ)
      → Open (run turns t) other → SamePlaces (decode s) (decode (run turns t))
      → SavedStand s (step its_save s mem).lent other
      → GivesBack s (run turns t) other
