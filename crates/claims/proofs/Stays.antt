-- Sound stays sound: every call on sound bytes leaves sound ones, and set-up makes sound bytes of any of the right length. Assumes
-- nothing.
use Prim.Native.Nat.{ℕ, ◌≤◌, ◌<◌, ◌^◌}
use native.Mathlib.Nat.{lt_of_lt_of_le}
use native.Mathlib.Omega.{arith}
use mathlib.Core.Path.{◌≡◌, refl}
use mathlib.Core.Bool.{Bool, true, false, ◌||◌, ◌&&◌}
use mathlib.Core.Logic.{inl}
use mathlib.Core.List.{List}
use lib.ListN.{length}
use lib.Dec.{eqb, leb, lit<, lit≤}
use lib.Pow.{pow_mono}
use borrow.Author.Tests.{eqb-true, leb-true}
use Rattle.lists.specs.Rows.{choose}
use Rattle.words.specs.Words.{le}
use Rattle.words.proofs.Bytes.{Bytes, le_bound}
use Rattle.areas.specs.Area.{inside, end_of}
use Rattle.guest.specs.declared.Table.{Table}
use Rattle.guest.specs.Machine.{Machine, fresh_irqs, fresh, is_running, with_tables}
use Rattle.guest.specs.Words.{TableWords}
use Rattle.rules.specs.Rules.{rules, memory_ok, memory_area, table_area}
use Rattle.rules.proofs.Parts.{Default, TableParts, memory_parts}
use Rattle.rules.proofs.Facts.{sound_memory, sound_limit, sound_devices, sound_collections}
use Rattle.layout.specs.Layout.{size, decode, stored}
use Rattle.mapping.specs.Mapped.{Mapped, MapResult, empty}
use Rattle.mapping.specs.Commands.{place_fault, map_device, unmap_device, map_collection, unmap_collection, map_event, discard, move}
use Rattle.mapping.specs.MapRules.{is_placed, map_rules}
use Rattle.maplayout.specs.MapLayout.{decode_map, stored_map}
use Rattle.tables.specs.Restored.{Out, fault, found, restored}
use Rattle.mapkept.proofs.Sound as rows
use Rattle.mapkept.proofs.Placing.{place_rules, place_keeps, unplace_keeps, machine_keeps}
use Rattle.mapkept.proofs.Devices.{map_device-keeps, unmap_device-keeps}
use Rattle.mapkept.proofs.Collections.{map_collection-keeps, unmap_collection-keeps}
use Rattle.mapkept.proofs.Events.{map_event-keeps, discard_keeps, move_keeps}
use Rattle.described.proofs.Exact.{restored_ok}
use Rattle.kept.specs.Good.{Good, Stays, Keeps}
use Rattle.kept.proofs.Choice.{chosen, choose_by, and_left, and_right}
use Rattle.kept.proofs.Vcpus.{add_vcpu-keeps, set_running-keeps, set_irqs-keeps, its_init-keeps, unplaced_good, fresh_with, default_good}
use Rattle.kept.proofs.Bases.{set_group0-keeps, set_its_group0-keeps}
use Rattle.kept.proofs.Init.{vgic_init-keeps}
use Rattle.irqkept.proofs.Calls.{irq_set-keeps, irq_clear-keeps, irq_line-keeps, irq_trigger-keeps, set_group1-keeps, set_group5-keeps, set_group7-keeps}
use Rattle.calls.specs.declared.Change.{Change}
use Rattle.calls.specs.declared.Change.TheVariants.{AddVcpu, Start, Stop, VgicSet, ItsSet, SetPending, ClearPending, Activate, Line, Trigger}
use Rattle.calls.specs.declared.Command.{Command}
use Rattle.calls.specs.declared.Command.TheVariants.{Place, MapDevice, UnmapDevice, MapCollection, UnmapCollection, MapEvent, Discard, Move, Reset}
use Rattle.calls.specs.Groups.{set_group4, vgic_set, set_its_group4, its_set}
use Rattle.calls.specs.Steps.{change_step}
use Rattle.calls.specs.Commands.{BoxResult, its_initialised, ready, on_mapping, placed_at, place, reset, command_step, memory_fault}
use Rattle.state.specs.Sound.{sound, Sound}
use Rattle.calls.specs.Call.{Reply, changes, commands, set_up, value_of, restores, restored_to}
use Rattle.step.specs.Step.{Call, step, state_len, vcpus_start, vcpus_stop, setup, vcpu_add, redist_base, vgic_set as setVgic, its_set as setIts, vgic_get, its_get, irq_pending, irq_set_pending, irq_clear_pending, irq_activate, irq_line, irq_trigger, its_place, its_map_event, its_map_device, its_move, its_map_collection, its_discard, its_lookup, its_unmap_device, its_unmap_collection, its_save, its_restore, its_explain}
use Rattle.claims.specs.Claims.{Passed}
use Rattle.claims.specs.Demand3.{Open}
use Rattle.claims.proofs.Still.{change_still}
use Rattle.claims.proofs.Stored.{says, stored_sound, mapped_sound, box_sound, fresh_sound}

-- the attributes of a group keep a good machine good
pub vgic_keeps : (group attribute width value : ℕ) → value < 2 ^ 64 → (width ≡ 4 → value < 2 ^ 32) → Keeps (vgic_set group attribute width value)
unfolding vgic_set set_group4
vgic_keeps group a w v h k m g =
    chosen Stays (eqb group 0) (set_group0-keeps a w v h m g)
    (chosen Stays (eqb group 1) (set_group1-keeps a w v k m g)
    (chosen Stays (eqb group 3) (set_irqs-keeps a w v m g)
    (chosen Stays (eqb group 4) (chosen Stays (eqb a 0) (chosen Stays (eqb w 0) (vgic_init-keeps m g) g) g)
    (chosen Stays (eqb group 5) (set_group5-keeps a w v k m g)
    (chosen Stays (eqb group 7) (set_group7-keeps a w v k m g) g)))))

its_keeps : (group attribute width value : ℕ) → value < 2 ^ 64 → Keeps (its_set group attribute width value)
unfolding its_set set_its_group4
its_keeps group a w v h m g =
    chosen Stays (eqb group 0) (set_its_group0-keeps a w v h m g)
    (chosen Stays (eqb group 4)
    (chosen Stays (eqb a 0) (chosen Stays (eqb w 0) (its_init-keeps m g) g)
    (chosen Stays (eqb a 1 || eqb a 2) g g))
    g)

-- the number of a lent value
pub value_small : (v : List ℕ) → Bytes v → value_of v < 2 ^ 64
unfolding value_of
value_small v b = by_length (eqb (length v) 4) (eqb (length v) 8) refl refl
  where
    by_length : (p q : Bool) → eqb (length v) 4 ≡ p → eqb (length v) 8 ≡ q → choose (p || q) (le v) 0 < 2 ^ 64
    by_length true q e f =
        let l = eqb-true (length v) 4 e in
        lt_of_lt_of_le (le_bound 4 v b (omega arith)) (lit≤ tt)
    by_length false true e f = let l = eqb-true (length v) 8 f in le_bound 8 v b (omega arith)
    by_length false false e f = lit< tt

pub value_four : (v : List ℕ) → Bytes v → length v ≡ 4 → value_of v < 2 ^ 32
unfolding value_of
value_four v b l = rw (borrow.Author.Tests.eq-eqb (length v) 4 l) (le_bound 4 v b (omega arith))

abbrev Left : Reply → Type 0
Left r = Sound r.lent

-- a changing call
change_sound : (c : Change) (s : List ℕ) → Keeps (change_step c) → Sound s → Sound (changes c s).lent
unfolding changes
change_sound c s k h =
    let p = says s h in
    let m = decode s in
    let t = change_still m c in
    chosen Left (eqb (length s) size)
    (chosen Left (sound s)
    (chosen Left (eqb (change_step c m).errno 0)
    (stored_sound (change_step c m).next s h.long (k m p.good) h.bytes p.map_counts
    (machine_keeps m (change_step c m).next (decode_map s) t.memory t.tables t.vcpus p.mapped))
    h)
    h)
    h

-- The commands: a good machine and a mapping that keeps its rules.

pub record BoxGood (r : BoxResult) : Type 0 where
  pub good : Good r.next.machine
  pub mapped : map_rules r.next.machine r.next.mapped ≡ true

-- a placed table lies in memory
table_words : (m : Machine) (t : Table) → rules m ≡ true → t.set ≡ 1 → TableParts m.memory t → TableWords t
unfolding inside
table_words m t r e p =
    let q = (sound_memory m r).end in
    let l = sound_limit m r in
    let a = memory_area m.memory in
    let b = table_area t in
    let w = leb-true (end_of b) (end_of a) (and_right (leb a.start b.start) (leb (end_of b) (end_of a)) (p.within e)) in
    record { set = omega arith; start = omega arith; pages = omega (arith, p.most) }

module _ (m : Machine) (k : Mapped) (g : Good m) (e : map_rules m k ≡ true) where
  stay : (n : ℕ) → BoxGood (record { errno = n; next = record { machine = m; mapped = k } })
  stay n = record { good = g; mapped = e }

  mapping_good : (f : Mapped → MapResult) → rows.Keeps m f → BoxGood (on_mapping (f k) m k)
  unfolding on_mapping
  mapping_good f h =
      choose_by BoxGood (ready m)
      (λ q. record { good = g; mapped = h k g.rules e (and_right (its_initialised m) (is_placed m) q) })
      (λ _. stay 6)

  place_good : (ds dp cs cp : ℕ) → BoxGood (place ds dp cs cp m k)
  unfolding place
  place_good ds dp cs cp =
      let d = placed_at ds dp in
      let c = placed_at cs cp in
      let next = with_tables (record { devices = d; collections = c }) m in
      choose_by BoxGood (its_initialised m)
      (λ i. choose_by BoxGood (eqb (place_fault d c m k) 0)
      (λ q.
      let z = eqb-true (place_fault d c m k) 0 q in
      let o = eqb-true m.control.itsinit 1 i in
      let r = place_rules d c m k z refl refl g.rules o in
      let w = g.words in
      record {
        good = record {
          words = record {
            memory = w.memory;
            control = w.control;
            frames = w.frames;
            regions = w.regions;
            vcpus = w.vcpus;
            shared = w.shared;
            tables = record { devices = table_words next d r refl (sound_devices next r); collections = table_words next c r refl (sound_collections next r) };
          };
          rules = r;
        };
        mapped = place_keeps d c m k z refl refl g.rules o;
      })
      (λ _. stay _))
      (λ _. stay 6)

  reset_good : (width : ℕ) → BoxGood (reset width m k)
  unfolding reset
  reset_good width =
      chosen BoxGood (eqb width 0)
      (choose_by BoxGood (its_initialised m)
      (λ _. chosen BoxGood (is_running m) (stay 16) (record { good = unplaced_good m g; mapped = unplace_keeps m }))
      (λ _. stay 6))
      (stay 14)

  pub command_good : (c : Command) → BoxGood (command_step c m k)
  command_good (Place ds dp cs cp) = place_good ds dp cs cp
  command_good (MapDevice id itt bits) = mapping_good (map_device id itt bits m) (map_device-keeps id itt bits m)
  command_good (UnmapDevice id) = mapping_good (unmap_device id) (unmap_device-keeps id m)
  command_good (MapCollection icid pe) = mapping_good (map_collection icid pe m) (map_collection-keeps icid pe m)
  command_good (UnmapCollection icid) = mapping_good (unmap_collection icid) (unmap_collection-keeps icid m)
  command_good (MapEvent device event lpi icid) = mapping_good (map_event device event lpi icid) (map_event-keeps device event lpi icid m)
  command_good (Discard device event) = mapping_good (discard device event) (discard_keeps device event m)
  command_good (Move device event icid) = mapping_good (move device event icid) (move_keeps device event icid m)
  command_good (Reset width) = reset_good width

command_sound : (c : Command) (s : List ℕ) → Sound s → Sound (commands c s).lent
unfolding commands
command_sound c s h =
    let p = says s h in
    let r = command_step c (decode s) (decode_map s) in
    let g = command_good (decode s) (decode_map s) p.good p.mapped c in
    chosen Left (eqb (length s) size)
    (chosen Left (sound s)
    (chosen Left (eqb r.errno 0) (box_sound r.next.machine r.next.mapped s h.bytes h.long g.good g.mapped) h)
    h)
    h

-- Restore.

-- no fault of the memory that is lent: the box is open for a save or a restore
pub is_open : (s mem : List ℕ) → memory_fault (length mem) (decode s) ≡ 0 → Open s mem
unfolding memory_fault
is_open s mem =
    let m = decode s in
    choose_by P (eqb (length mem) m.memory.length) (λ l.
    choose_by P (ready m) (λ r.
    choose_by P (is_running m) (λ _ z. absurd (omega arith)) (λ q _. record {
      initialised = and_left (its_initialised m) (is_placed m) r;
      placed = and_right (its_initialised m) (is_placed m) r;
      size = eqb-true (length mem) m.memory.length l;
      stopped = q;
    }))
    (λ _ z. absurd (omega arith)))
    (λ _ z. absurd (omega arith))
  where
    P : ℕ → Type 0
    P e = e ≡ 0 → Open s mem

restored_sound : (s mem : List ℕ) → Sound s → Open s mem → (o : Out) → restored (decode s) mem ≡ o → Sound (restored_to s o).lent
restored_sound s mem h p (fault f) q = h
restored_sound s mem h p (found k) q =
    let a = says s h in
    mapped_sound k s h.long a.counts a.good.rules (restored_ok (decode s) mem a.good.rules p.placed p.size k q) h.bytes

pub restore_sound : (s mem : List ℕ) → Sound s → Sound (restores s mem).lent
unfolding restores
restore_sound s mem h =
    let e = memory_fault (length mem) (decode s) in
    chosen Left (eqb (length s) size)
    (chosen Left (sound s)
    (choose_by Left (eqb e 0)
    (λ q. restored_sound s mem h (is_open s mem (eqb-true e 0 q)) (restored (decode s) mem) refl)
    (λ _. h))
    h)
    h

-- Set-up: any bytes of the right length, with good numbers.

pub default_setup : (n width start len : ℕ) → Default n → memory_ok (record { width = width; start = start; length = len }) ≡ true → Good (fresh_with n width start len)
default_setup n width start len d h =
    let p = memory_parts (record { width = width; start = start; length = len }) h in
    let e = p.end in
    let q = p.narrow in
    let m = p.most in
    let t : 2 ^ width ≤ 2 ^ 52 = pow_mono q in
    let w : width < 2 ^ 64 = omega arith in
    let a : start < 2 ^ 64 = omega arith in
    let z : len < 2 ^ 64 = omega arith in
    default_good n width start len d w a z h

pub setup_good : (width start len : ℕ) → memory_ok (record { width = width; start = start; length = len }) ≡ true → Good (fresh width start len)
setup_good width start len h = default_setup fresh_irqs width start len (inl refl) h

pub setup_sound : (width start len : ℕ) (s : List ℕ) → length s ≡ size → Bytes s → memory_ok (record { width = width; start = start; length = len }) ≡ true
    → Sound (stored (fresh width start len) (stored_map empty s))
setup_sound width start len s l b h = fresh_sound (fresh width start len) s l (setup_good width start len h) b

set_up_lem : (width start len : ℕ) (s : List ℕ) → Sound s → Sound (set_up width start len s).lent
unfolding set_up
set_up_lem width start len s h =
    chosen Left (eqb (length s) size)
    (choose_by Left (memory_ok (record { width = width; start = start; length = len }))
    (λ q. setup_sound width start len s h.long h.bytes q)
    (λ _. h))
    h

-- The numbers of a change that have a bound, as C passes them.
abbrev pub Narrow : Change → Type 0
Narrow (AddVcpu a) = a < 2 ^ 32
Narrow Start = Unit {0}
Narrow Stop = Unit {0}
Narrow (VgicSet g a w v) = (v < 2 ^ 64) × (w ≡ 4 → v < 2 ^ 32)
Narrow (ItsSet g a w v) = v < 2 ^ 64
Narrow (SetPending k i) = Unit {0}
Narrow (ClearPending k i) = Unit {0}
Narrow (Activate k i) = Unit {0}
Narrow (Line k i l) = Unit {0}
Narrow (Trigger k i w) = w < 2 ^ 32

pub change_keeps : (c : Change) → Narrow c → Keeps (change_step c)
change_keeps (AddVcpu a) n = add_vcpu-keeps a n
change_keeps Start n = set_running-keeps 1 (omega arith)
change_keeps Stop n = set_running-keeps 0 (omega arith)
change_keeps (VgicSet g a w v) n = vgic_keeps g a w v n.0 n.1
change_keeps (ItsSet g a w v) n = its_keeps g a w v n
change_keeps (SetPending k i) n = irq_set-keeps k i
change_keeps (ClearPending k i) n = irq_clear-keeps k i
change_keeps (Activate k i) n = irq_clear-keeps k i
change_keeps (Line k i l) n = irq_line-keeps k i l
change_keeps (Trigger k i w) n = irq_trigger-keeps k i w n

-- What a call may do to a state: it leaves it, or it is a change, a command, a restore or set-up.
pub data Way (s : List ℕ) : Call → List ℕ → Type 0 where
  left : (k : Call) → Way s k s
  changed : (k : Call) (c : Change) → Narrow c → Way s k (changes c s).lent
  commanded : (k : Call) (c : Command) → Way s k (commands c s).lent
  reread : (k : Call) (mem : List ℕ) → Way s k (restores s mem).lent
  made : (width start len : ℕ) → Way s (setup width start len) (set_up width start len s).lent

-- Which of them each call is. The numbers are as C passes them, and the lent value is bytes.
pub way : (c : Call) (s v : List ℕ) → Passed c → Bytes v → Way s c (step c s v).state
way state_len s v p b = left _
way (setup width start len) s v p b = made width start len
way (vcpu_add a) s v p b = changed _ (AddVcpu a) p
way vcpus_start s v p b = changed _ Start tt
way vcpus_stop s v p b = changed _ Stop tt
way (setVgic g a) s v p b = changed _ (VgicSet g a (length v) (value_of v)) (value_small v b, value_four v b)
way (setIts g a) s v p b =
    chosen (λ (r : Reply). Way s (setIts g a) r.lent) (eqb g 4 && eqb a 4) (commanded _ (Reset (length v)))
    (changed _ (ItsSet g a (length v) (value_of v)) (value_small v b))
way (vgic_get g a) s v p b = left _
way (its_get g a) s v p b = left _
way (redist_base k) s v p b = left _
way (irq_pending k i) s v p b = left _
way (irq_set_pending k i) s v p b = changed _ (SetPending k i) tt
way (irq_clear_pending k i) s v p b = changed _ (ClearPending k i) tt
way (irq_activate k i) s v p b = changed _ (Activate k i) tt
way (irq_line k i l) s v p b = changed _ (Line k i l) tt
way (irq_trigger k i w) s v p b = changed _ (Trigger k i w) p
way (its_place ds dp cs cp) s v p b = commanded _ (Place ds dp cs cp)
way (its_map_device id itt bits) s v p b = commanded _ (MapDevice id itt bits)
way (its_unmap_device id) s v p b = commanded _ (UnmapDevice id)
way (its_map_collection icid pe) s v p b = commanded _ (MapCollection icid pe)
way (its_unmap_collection icid) s v p b = commanded _ (UnmapCollection icid)
way (its_map_event device event lpi icid) s v p b = commanded _ (MapEvent device event lpi icid)
way (its_discard device event) s v p b = commanded _ (Discard device event)
way (its_move device event icid) s v p b = commanded _ (Move device event icid)
way (its_lookup device event) s v p b = left _
way its_save s v p b = left _
way its_restore s v p b = reread _ v
way its_explain s v p b = left _

way_sound : (s : List ℕ) → Sound s → (c : Call) (t : List ℕ) → Way s c t → Sound t
way_sound s h c t (left _) = h
way_sound s h c t (changed _ k n) = change_sound k s (change_keeps k n) h
way_sound s h c t (commanded _ k) = command_sound k s h
way_sound s h c t (reread _ mem) = restore_sound s mem h
way_sound s h c t (made width start len) = set_up_lem width start len s h

-- Every public call on sound bytes leaves sound ones.
pub sound_stays : (c : Call) (s v : List ℕ) → Passed c → Bytes v → Sound s → Sound (step c s v).state
sound_stays c s v p b h = way_sound s h c (step c s v).state (way c s v p b)
