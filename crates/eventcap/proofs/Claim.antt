-- That the cap which distances between events once had changed nothing, as one statement over the definitions with it (Capped) and without.
use Prim.Native.Nat.{ℕ, ◌-◌, ◌/◌, ◌≤◌, min}
use mathlib.Core.Path.{◌≡◌}
use mathlib.Core.Bool.{false}
use mathlib.Core.Logic.{◌↔◌}
use mathlib.Core.List.{List}
use lib.ListN.{length}
use Rattle.lists.proofs.Member.{In}
use Rattle.entries.specs.Event.{is_event, event_of}
use Rattle.guest.specs.Machine.{Machine}
use Rattle.mapping.specs.declared.Event.{Event}
use Rattle.mapping.specs.Mapped.{Mapped}
use Rattle.layout.specs.Layout.{decode}
use Rattle.maplayout.specs.MapLayout.{decode_map}
use Rattle.chains.specs.declared.Next.TheVariants.{Bad}
use Rattle.chains.specs.Slots.{following}
use Rattle.tables.specs.Bytes.{entry_at, event_slots}
use Rattle.tables.specs.Saved.{saved_memory}
use Rattle.tables.specs.Restored.{restored}
use Rattle.described.specs.Described.{Chain, Described}
use Rattle.state.specs.Sound.{Sound}
use Rattle.eventcap.proofs.Capped.{capped_memory, capped_following, CappedChain, capped_restored, CappedDescribed}

-- distances, saves: of every sound state, a save shortens no distance between two events and leaves the same memory. ways, chains: in every
-- ITT of at most 65,536 entries, each entry leads to the same place and the same IDs are chained; blank: said apart, entry 0 with a next of
-- 65,535 onto a blank is a fault in both. restores, describes: of every guest and memory, what a restore reads or its fault is the same, and
-- the same mappings are described.
pub record NoCap : Type 0 where
  pub distances : (s : List ℕ) → Sound s → (e f : Event) → In e (decode_map s).events → In f (decode_map s).events
      → min (f.event - e.event) 65535 ≡ f.event - e.event
  pub saves : (s mem : List ℕ) → Sound s → capped_memory (decode s) (decode_map s) mem ≡ saved_memory (decode s) (decode_map s) mem
  pub ways : (t : List ℕ) → length t / 8 ≤ 65536 → (i : ℕ) → capped_following 65535 (event_slots t) i ≡ following (event_slots t) i
  pub chains : (t : List ℕ) → length t / 8 ≤ 65536 → (ids : List ℕ) → CappedChain 65535 (event_slots t) ids ↔ Chain (event_slots t) ids
  pub blank : (t : List ℕ) → length t / 8 ≤ 65536 → (event_of (entry_at t 0)).next ≡ 65535 → is_event (entry_at t 65535) ≡ false
      → (following (event_slots t) 0 ≡ Bad) × (capped_following 65535 (event_slots t) 0 ≡ Bad)
  pub restores : (m : Machine) (mem : List ℕ) → capped_restored m mem ≡ restored m mem
  pub describes : (m : Machine) (mem : List ℕ) (k : Mapped) → CappedDescribed m mem k ↔ Described m mem k
