-- Demand 2: what set-up, save and restore leave, and all of it under one name, `demand2`. Assumes nothing.
use Prim.Native.Nat.{ℕ, ◌+◌, ◌*◌, ◌^◌, ◌≤◌, ◌<◌}
use mathlib.Core.Path.{◌≡◌, refl, sym, ap, ◌∙◌}
use mathlib.Core.List.{List, [], ◌∷◌}
use lib.ListN.{length, get_or}
use lib.Dec.{eqb}
use borrow.Author.Tests.{eqb-true, eqb-false}
use Rattle.lists.specs.Rows.{choose}
use Rattle.lists.proofs.All.{All, none, more}
use Rattle.words.proofs.Bytes.{Bytes}
use Rattle.answers.specs.Errno.{listed}
use Rattle.answers.specs.Answer.{done}
use Rattle.areas.specs.declared.Area.{Area}
use Rattle.areas.specs.Area.{end_of}
use Rattle.rules.specs.Rules.{memory_ok}
use Rattle.mapping.specs.declared.Device.{Device}
use Rattle.mapping.specs.Commands.{device_entries, table_areas}
use Rattle.layout.specs.Layout.{size, decode}
use Rattle.maplayout.specs.MapLayout.{decode_map}
use Rattle.tables.specs.Bytes.{device_table, collection_table, itt_table}
use Rattle.tables.specs.Saved.{events_of, saved_device, saved_event, saved_collection, table_of, saved_memory}
use Rattle.tables.specs.Restored.{Out, fault, found, restored}
use Rattle.savedlaws.proofs.Writes.{Holds}
use Rattle.savedlaws.proofs.Saved.{saved_length, saved_outside, saved_devices, saved_collections, saved_itts_lem}
use Rattle.kept.proofs.Choice.{choose_by}
use Rattle.state.specs.Sound.{sound, Sound}
use Rattle.calls.specs.Commands.{memory_fault}
use Rattle.calls.specs.Call.{Reply, refused, guarded, set_up, saves, restores}
use Rattle.step.specs.Step.{step, setup, its_save, its_restore}
use Rattle.claims.specs.Demand2.{Demand2}
use Rattle.claims.specs.Demand3.{Accepted, Ready}
use Rattle.claims.proofs.Stored.{says}
use Rattle.claims.proofs.Stays.{setup_sound, sound_stays, is_open}
use Rattle.claims.proofs.Apart.{bank_apart}
use Rattle.claims.proofs.Anchors.{setup_fresh, inits, runs, looks, resets}
use Rattle.claims.proofs.Demand3.{unrefused, no_refusal, saves_is, comes_to, taken_guest}

-- set-up, where accepted, makes sound bytes of any bytes
pub setup_makes : (width start len : ℕ) (s v : List ℕ) → Bytes s → Accepted (step (setup width start len) s v)
    → Sound (step (setup width start len) s v).state
unfolding set_up listed
setup_makes width start len s v b =
    choose_by Made (eqb (length s) size)
    (λ l. choose_by Made (memory_ok (record { width = width; start = start; length = len }))
    (λ h _. setup_sound width start len s (eqb-true (length s) size l) b h)
    (λ _ a. absurd (unrefused 22 refl (sym a))))
    (λ _ a. absurd (unrefused 14 refl (sym a)))
  where
    Made : Reply → Type 0
    Made r = r.answer ≡ done 0 → Sound r.lent

-- where a save or a restore is accepted, the box was ready for it
ready_where : (s mem lent : List ℕ) (o : Reply) → Bytes s
    → (guarded (refused lent) (choose (eqb (memory_fault (length mem) (decode s)) 0) o (refused lent (memory_fault (length mem) (decode s)))) s).answer ≡ done 0
    → Ready s mem
unfolding listed
ready_where s mem lent o b =
    let e = memory_fault (length mem) (decode s) in
    choose_by Was (eqb (length s) size)
    (λ l. choose_by Was (sound s)
    (λ h. choose_by Was (eqb e 0)
    (λ z _. record { sound = record { bytes = b; long = eqb-true (length s) size l; rules = h }; opened = is_open s mem (eqb-true e 0 z) })
    (λ z a. absurd (eqb-false e 0 z (no_refusal e a))))
    (λ _ a. absurd (unrefused 22 refl (sym a))))
    (λ _ a. absurd (unrefused 14 refl (sym a)))
  where
    Was : Reply → Type 0
    Was r = r.answer ≡ done 0 → Ready s mem

saved_ready : (s mem : List ℕ) → Bytes s → Accepted (step its_save s mem) → Ready s mem
unfolding saves
saved_ready s mem = ready_where s mem mem _

restored_ready : (s mem : List ℕ) → Bytes s → Accepted (step its_restore s mem) → Ready s mem
unfolding restores
restored_ready s mem = ready_where s mem s _

module _ (s mem : List ℕ) (h : Ready s mem) where
  -- a save leaves the state, and of memory what the definition says
  pub save_state : (step its_save s mem).state ≡ s
  save_state = refl

  pub save_memory : (step its_save s mem).lent ≡ saved_memory (decode s) (decode_map s) mem
  save_memory = ap (λ (r : Reply). r.lent) (saves_is s mem h)

  pub save_length : length (step its_save s mem).lent ≡ length mem
  save_length =
      let p = says s h.sound in
      ap length save_memory ∙ saved_length (decode s) (decode_map s) mem p.good.rules h.opened.placed p.mapped h.opened.size

  -- every byte outside the two tables and the mapped devices' ITTs is as before
  pub save_outside : (i : ℕ) → i < length mem
      → All (λ a. Holds a ((decode s).memory.start + i) → ⊥) (table_areas (decode s) (decode_map s).devices)
      → get_or (step its_save s mem).lent i 0 ≡ get_or mem i 0
  save_outside i l n =
      let p = says s h.sound in
      ap (λ (t : List ℕ). get_or t i 0) save_memory
      ∙ saved_outside (decode s) (decode_map s) mem p.good.rules h.opened.placed p.mapped h.opened.size i l n

  -- each table, and the ITT of each mapped device, holds its entries
  pub save_devices : device_table (decode s) (step its_save s mem).lent ≡ table_of (saved_device (decode_map s).devices) (device_entries (decode s))
  save_devices =
      let p = says s h.sound in
      rw save_memory (saved_devices (decode s) (decode_map s) mem p.good.rules h.opened.placed p.mapped h.opened.size)

  pub save_collections : collection_table (decode s) (step its_save s mem).lent
      ≡ table_of (saved_collection (decode_map s).collections) (512 * (decode s).tables.collections.pages)
  save_collections =
      let p = says s h.sound in
      rw save_memory (saved_collections (decode s) (decode_map s) mem p.good.rules h.opened.placed p.mapped h.opened.size)

  pub save_itts : All (λ (d : Device). itt_table (decode s) (step its_save s mem).lent d
      ≡ table_of (saved_event (events_of d.id (decode_map s).events)) (2 ^ d.bits)) (decode_map s).devices
  save_itts =
      let p = says s h.sound in
      rw save_memory (saved_itts_lem (decode s) (decode_map s) mem p.good.rules h.opened.placed p.mapped h.opened.size)

  -- a restore changes the mapping alone, and no byte of memory
  pub restore_memory : (step its_restore s mem).lent ≡ mem
  restore_memory = refl

  pub restore_guest : decode (step its_restore s mem).state ≡ decode s
  restore_guest = by (restored (decode s) mem) refl
    where
      by : (o : Out) → restored (decode s) mem ≡ o → decode (step its_restore s mem).state ≡ decode s
      by (fault e) q = ap (λ (r : Reply). decode r.lent) (comes_to s mem h (fault e) q)
      by (found k) q = taken_guest s mem h k q

none_holds : (x : ℕ) (l : List Area) → All (λ (a : Area). a.start ≤ x → x < end_of a → ⊥) l → All (λ (a : Area). Holds a x → ⊥) l
none_holds x [] none = none
none_holds x (a ∷ l) (more p q) = more (λ h. p h.low h.high) (none_holds x l q)

-- §10.3, §10.4, §10.5: demand 2 whole, over every public call
pub demand2 : Demand2
demand2 = record {
  stays = sound_stays;
  makes = setup_makes;
  saves = λ s mem b a. let h = saved_ready s mem b a in record {
    state = save_state s mem h;
    memory = save_memory s mem h;
    size = save_length s mem h;
    devices = save_devices s mem h;
    collections = save_collections s mem h;
    itts = save_itts s mem h;
    outside = λ i l o. save_outside s mem h i l (none_holds ((decode s).memory.start + i) (table_areas (decode s) (decode_map s).devices) o);
  };
  restores = λ s mem b a. let h = restored_ready s mem b a in record { memory = restore_memory s mem h; guest = restore_guest s mem h };
  apart = bank_apart;
  fresh = setup_fresh;
  inits = inits;
  runs = runs;
  looks = looks;
  resets = resets;
}
