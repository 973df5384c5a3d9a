-- What single calls do, in plain words over `step` and the numbers that a state stands for: an INIT or a lookup with one fixed answer, a
-- RESET that leaves the tables placed or a fresh guest with another count breaks a law here, whatever the definitions below say.
use Rattle.std.specs.Prelude.{ℕ, ◌+◌, ◌*◌, ◌≤◌, ◌≡◌, ◌↔◌, ◌⊎◌, List, [], ◌∷◌, length}
use Rattle.lists.proofs.Member.{In}
use Rattle.answers.specs.Answer.{refusal, done}
use Rattle.guest.specs.Machine.{Machine}
use Rattle.frames.specs.Needs.{InitNeeds}
use Rattle.mapping.specs.declared.Collection.{Collection}
use Rattle.mapping.specs.declared.Event.{Event}
use Rattle.mapping.specs.Mapped.{Mapped}
use Rattle.layout.specs.Layout.{decode}
use Rattle.maplayout.specs.MapLayout.{decode_map}
use Rattle.step.specs.Step.{After, step, vcpus_start, vcpus_stop, vgic_set, its_set, its_map_collection, its_lookup}
use Rattle.claims.specs.Demand3.{Accepted}

-- §1.5, §5.14: nothing is mapped: no row of any kind
pub record Nothing (k : Mapped) : Type 0 where
  pub collections : k.collections ≡ []
  pub devices : k.devices ≡ []
  pub events : k.events ≡ []

-- §1.5: a fresh guest: 64 interrupts that do not count as set; no VCPU, no frame, no region, no table, no INIT, not running; STATUSR 0, and the
-- one shared bank, of INTIDs 32 to 63, is 0
pub record Fresh (m : Machine) : Type 0 where
  pub irqs : m.control.irqs ≡ 64
  pub unset : m.control.irqsset ≡ 0
  pub vcpus : m.vcpus ≡ []
  pub regions : m.regions ≡ []
  pub distributor : m.frames.distributor.set ≡ 0
  pub single : m.frames.single.set ≡ 0
  pub its : m.frames.its.set ≡ 0
  pub devices : m.tables.devices.set ≡ 0
  pub collections : m.tables.collections.set ≡ 0
  pub init : m.control.init ≡ 0
  pub itsinit : m.control.itsinit ≡ 0
  pub running : m.control.running ≡ 0
  pub status : m.control.status ≡ 0
  pub shared : m.shared ≡ record { latch = 0; level = 0; trigger = 0 } ∷ []

-- §10.3, §1.4: an accepted set-up: the width and the memory that were asked for, and a fresh guest with no mapping
pub record SetUp (p first bytes : ℕ) (a : After) : Type 0 where
  pub width : (decode a.state).memory.width ≡ p
  pub start : (decode a.state).memory.start ≡ first
  pub size : (decode a.state).memory.length ≡ bytes
  pub fresh : Fresh (decode a.state)
  pub mapping : Nothing (decode_map a.state)

-- §10.5, §3.11: VGIC INIT is accepted exactly where it was done before or the guest has what INIT asks for, and then it is done; without a
-- VCPU it is -19, else -6
pub record Inits (s : List ℕ) : Type 0 where
  pub exactly : Accepted (step (vgic_set 4 0) s []) ↔ ((decode s).control.init ≡ 1) ⊎ InitNeeds (decode s)
  pub marks : Accepted (step (vgic_set 4 0) s []) → (decode (step (vgic_set 4 0) s []).state).control.init ≡ 1
  pub empty : (decode s).control.init ≡ 0 → (decode s).vcpus ≡ [] → (step (vgic_set 4 0) s []).answer ≡ refusal 19
  pub unready : (decode s).control.init ≡ 0 → 1 ≤ length (decode s).vcpus → (InitNeeds (decode s) → ⊥) → (step (vgic_set 4 0) s []).answer ≡ refusal 6

-- §10.5, §3.2: start sets the running mark, stop takes it away; both are accepted, whatever the mark was
pub record Runs (s : List ℕ) : Type 0 where
  pub started : Accepted (step vcpus_start s []) × ((decode (step vcpus_start s []).state).control.running ≡ 1)
  pub stopped : Accepted (step vcpus_stop s []) × ((decode (step vcpus_stop s []).state).control.running ≡ 0)

-- §10.5, §5.13: a lookup answers from the rows that stand, and -2 where no event has the two IDs; an event's collection stands (§1.14)
pub record Looks (s : List ℕ) : Type 0 where
  pub found : (e : Event) (c : Collection) → In e (decode_map s).events → In c (decode_map s).collections → c.icid ≡ e.icid
      → (step (its_lookup e.device e.event) s []).answer ≡ done (e.lpi + 65536 * c.pe)
  pub collected : (e : Event) → In e (decode_map s).events → (c : Collection) × In c (decode_map s).collections × (c.icid ≡ e.icid)
  pub missing : (device event : ℕ) → ((e : Event) → In e (decode_map s).events → e.device ≡ device → e.event ≡ event → ⊥)
      → (step (its_lookup device event) s []).answer ≡ refusal 2

-- §10.5, §5.14: RESET: accepted, nothing mapped, no table placed, every other mark as it was; §5.3: a mapping command
-- and a lookup after it are -6
pub record Resets (s : List ℕ) : Type 0 where
  pub accepted : Accepted (step (its_set 4 4) s [])
  pub mapping : Nothing (decode_map (step (its_set 4 4) s []).state)
  pub devices : (decode (step (its_set 4 4) s []).state).tables.devices.set ≡ 0
  pub collections : (decode (step (its_set 4 4) s []).state).tables.collections.set ≡ 0
  pub control : (decode (step (its_set 4 4) s []).state).control ≡ (decode s).control
  pub commands : (icid pe : ℕ) → (step (its_map_collection icid pe) (step (its_set 4 4) s []).state []).answer ≡ refusal 6
  pub lookups : (device event : ℕ) → (step (its_lookup device event) (step (its_set 4 4) s []).state []).answer ≡ refusal 6
