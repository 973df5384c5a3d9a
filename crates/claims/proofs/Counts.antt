-- The interrupt count and its mark: every call but set-up leaves them, or marks the count as set. Assumes nothing.
use Prim.Native.Nat.{ℕ}
use mathlib.Core.Path.{◌≡◌, refl, ap}
use mathlib.Core.Bool.{Bool, true, false}
use mathlib.Core.Logic.{inr}
use mathlib.Core.List.{List}
use lib.ListN.{length}
use lib.Dec.{eqb}
use borrow.Author.Tests.{eqb-true}
use Rattle.words.proofs.Bytes.{Bytes}
use Rattle.guest.specs.declared.Control.{Control}
use Rattle.guest.specs.Machine.{Machine, is_running}
use Rattle.mapping.specs.Mapped.{Mapped, MapResult}
use Rattle.mapping.specs.Commands.{place_fault}
use Rattle.layout.specs.Layout.{size, decode}
use Rattle.maplayout.specs.MapLayout.{decode_map}
use Rattle.tables.specs.Restored.{Out, fault, found, restored}
use Rattle.described.proofs.Exact.{restored_ok}
use Rattle.kept.proofs.Choice.{chosen, choose_by}
use Rattle.calls.specs.declared.Change.{Change}
use Rattle.calls.specs.declared.Command.{Command}
use Rattle.calls.specs.declared.Command.TheVariants.{Place, MapDevice, UnmapDevice, MapCollection, UnmapCollection, MapEvent, Discard, Move, Reset}
use Rattle.calls.specs.Steps.{change_step}
use Rattle.calls.specs.Commands.{BoxResult, its_initialised, ready, on_mapping, placed_at, place, reset, command_step, memory_fault}
use Rattle.state.specs.Sound.{sound, Sound}
use Rattle.calls.specs.Call.{Reply, changes, commands, restores, restored_to}
use Rattle.step.specs.Step.{Call, step, setup}
use Rattle.claims.specs.Claims.{Passed}
use Rattle.claims.specs.Demand3.{Open}
use Rattle.claims.proofs.Still.{Counts, change_still}
use Rattle.claims.proofs.Stored.{says, stored_is, mapped_guest}
use Rattle.claims.proofs.On.{change_is, command_is, command_machine}
use Rattle.claims.proofs.Stays.{Narrow, change_keeps, command_good, is_open, Way, left, changed, commanded, reread, made, way}

-- a command changes no mark and no count
module _ (m : Machine) (k : Mapped) where
  abbrev SameControl : BoxResult → Type 0
  SameControl r = r.next.machine.control ≡ m.control

  on_control : (r : MapResult) → SameControl (on_mapping r m k)
  unfolding on_mapping
  on_control r = chosen SameControl (ready m) refl refl

  command_control : (c : Command) → SameControl (command_step c m k)
  unfolding place reset
  command_control (Place ds dp cs cp) =
      chosen SameControl (its_initialised m)
      (chosen SameControl (eqb (place_fault (placed_at ds dp) (placed_at cs cp) m k) 0) refl refl) refl
  command_control (MapDevice id itt bits) = on_control _
  command_control (UnmapDevice id) = on_control _
  command_control (MapCollection icid pe) = on_control _
  command_control (UnmapCollection icid) = on_control _
  command_control (MapEvent device event lpi icid) = on_control _
  command_control (Discard device event) = on_control _
  command_control (Move device event icid) = on_control _
  command_control (Reset width) =
      chosen SameControl (eqb width 0) (chosen SameControl (its_initialised m) (chosen SameControl (is_running m) refl refl) refl) refl

module _ (s : List ℕ) (h : Sound s) where
  abbrev m : Machine
  m = decode s

  abbrev k : Mapped
  k = decode_map s

  abbrev Stands : List ℕ → Type 0
  Stands t = Counts m.control (decode t).control

  stands : Stands s
  stands = inr (refl, refl)

  -- where the marks are the same, so is the count
  same_control : (d : Control) → d ≡ m.control → Counts m.control d
  same_control d e = inr (ap (λ (c : Control). c.irqs) e, ap (λ (c : Control). c.irqsset) e)

  pub change_stands : (c : Change) → Narrow c → Stands (changes c s).lent
  change_stands c n =
      rw (change_is s h c)
      (chosen (λ (r : Reply). Stands r.lent) (eqb (change_step c m).errno 0)
      (rw (stored_is (change_step c m).next s h.long (change_keeps c n m (says s h).good)) (change_still m c).count)
      stands)

  pub command_stands : (c : Command) → Stands (commands c s).lent
  command_stands c = by (eqb (command_step c m k).errno 0) refl
    where
      by : (b : Bool) → eqb (command_step c m k).errno 0 ≡ b → Stands (commands c s).lent
      by true e =
          let g = command_good m k (says s h).good (says s h).mapped c in
          let z = eqb-true (command_step c m k).errno 0 e in
          rw (command_machine s h c z g.good g.mapped) (same_control _ (command_control m k c))
      by false e = rw (command_is s h c, e) stands

  restored_stands : (mem : List ℕ) → Open s mem → (o : Out) → restored m mem ≡ o → Stands (restored_to s o).lent
  restored_stands mem p (fault f) q = stands
  restored_stands mem p (found r) q =
      let a = says s h in
      same_control _ (ap (λ (x : Machine). x.control)
      (mapped_guest r s h.long a.counts a.good.rules (restored_ok m mem a.good.rules p.placed p.size r q)))

  pub restore_stands : (mem : List ℕ) → Stands (restores s mem).lent
  unfolding restores
  restore_stands mem =
      let e = memory_fault (length mem) m in
      let P : Reply → Type 0 = λ r. Stands r.lent in
      chosen P (eqb (length s) size)
      (chosen P (sound s)
      (choose_by P (eqb e 0)
      (λ q. restored_stands mem (is_open s mem (eqb-true e 0 q)) (restored m mem) refl)
      (λ _. stands))
      stands)
      stands

  way_stands : (c : Call) (t : List ℕ) → ((width start len : ℕ) → c ≡ setup width start len → ⊥) → Way s c t → Stands t
  way_stands c t f (left _) = stands
  way_stands c t f (changed _ d n) = change_stands d n
  way_stands c t f (commanded _ d) = command_stands d
  way_stands c t f (reread _ mem) = restore_stands mem
  way_stands c t f (made width start len) = absurd (f width start len refl)

  pub count_stands : (c : Call) (v : List ℕ) → Passed c → Bytes v → ((width start len : ℕ) → c ≡ setup width start len → ⊥)
      → Counts (decode s).control (decode (step c s v).state).control
  count_stands c v p b f = way_stands c (step c s v).state f (way c s v p b)
