-- Demand 3: a restore is exact, a save is accepted, and what it saved comes back after any calls. Assumes nothing.
use Prim.Native.Nat.{ℕ, zero, suc}
use native.Mathlib.Omega.{arith}
use mathlib.Core.Path.{◌≡◌, refl, sym, ap, ◌∙◌}
use mathlib.Core.Bool.{true}
use mathlib.Core.Logic.{◌↔◌}
use mathlib.Core.List.{List, [], ◌∷◌}
use lib.IntN.{ℤ, pos, negsuc}
use lib.ListN.{length}
use borrow.Author.Tests.{eq-eqb}
use Rattle.lists.proofs.All.{All, none, more}
use Rattle.answers.specs.Errno.{listed}
use Rattle.answers.specs.Answer.{refusal, done}
use Rattle.mapping.specs.Mapped.{Mapped}
use Rattle.mapping.specs.Commands.{table_areas, lookup}
use Rattle.mapping.specs.MapRules.{map_rules}
use Rattle.layout.specs.Layout.{size, decode}
use Rattle.maplayout.specs.MapLayout.{decode_map, stored_map}
use Rattle.described.specs.Described.{Described}
use Rattle.tables.specs.Saved.{saved_memory}
use Rattle.tables.specs.Fault.{kind_errno}
use Rattle.tables.specs.Restored.{Out, fault, found, restored}
use Rattle.described.proofs.Faults.{number_known}
use Rattle.described.proofs.Exact.{described_unique, refused_undescribed, exact, restored_ok}
use Rattle.lists.proofs.Member.{all_weaker}
use Rattle.savedlaws.proofs.Local.{Alike, SameIn}
use Rattle.savedlaws.proofs.Again.{saved_again}
use Rattle.kept.proofs.Choice.{never, and_both}
use Rattle.state.specs.Sound.{Sound}
use Rattle.calls.specs.Commands.{ready, lookup_step, memory_fault}
use Rattle.calls.specs.Call.{Reply, answered, looks, saves, restored_to, restores}
use Rattle.step.specs.Step.{step, its_save, its_restore}
use Rattle.claims.specs.Demand3.{Accepted, Refused, Ready, Exact, Turn, Given, run, SamePlaces, SavedStand, GivesBack, Demand3}
use Rattle.claims.proofs.Stored.{says, mapped_is, mapped_guest}
use Rattle.claims.proofs.Demand1.{known_listed}
use Rattle.claims.proofs.Stays.{sound_stays, restore_sound}

-- success is no listed refusal
below : ℤ → ℕ
below (pos n) = 0
below (negsuc n) = 1

pub unrefused : (e : ℕ) → listed e ≡ true → done 0 ≡ refusal e → ⊥
unfolding listed below
unrefused zero l q = never l
unrefused (suc n) l q = let z : ◌≡◌ {A = ℕ} 0 1 = ap below q in omega arith

-- only the errno 0 is no refusal
pub no_refusal : (e : ℕ) → refusal e ≡ done 0 → e ≡ 0
unfolding below
no_refusal zero q = refl
no_refusal (suc n) q = let z : ◌≡◌ {A = ℕ} 1 0 = ap below q in omega arith

-- a lookup of a sound state that is ready for commands
looks_is : (s : List ℕ) → Sound s → ready (decode s) ≡ true → (device event : ℕ) → looks device event s ≡ lookup device event (decode_map s)
unfolding looks lookup_step
looks_is s h r device event = rw (eq-eqb (length s) size h.long, h.rules, r)

module _ (s mem : List ℕ) (h : Ready s mem) where
  is_ready : ready (decode s) ≡ true
  is_ready = and_both h.opened.initialised h.opened.placed

  pub no_fault : memory_fault (length mem) (decode s) ≡ 0
  unfolding memory_fault
  no_fault = rw (eq-eqb (length mem) (decode s).memory.length h.opened.size, is_ready, h.opened.stopped)

  pub saves_is : saves s mem ≡ record { answer = done 0; lent = saved_memory (decode s) (decode_map s) mem }
  unfolding saves
  saves_is = rw (eq-eqb (length s) size h.sound.long, h.sound.rules, no_fault)

  restores_is : restores s mem ≡ restored_to s (restored (decode s) mem)
  unfolding restores
  restores_is = rw (eq-eqb (length s) size h.sound.long, h.sound.rules, no_fault)

  describes : (k : Mapped) → (restored (decode s) mem ≡ found k) ↔ Described (decode s) mem k
  describes k = exact (decode s) mem (says s h.sound).good.rules h.opened.placed h.opened.size k

  -- what a restore comes to
  module _ (o : Out) (q : restored (decode s) mem ≡ o) where
    pub comes_to : restores s mem ≡ restored_to s o
    comes_to = restores_is ∙ ap (restored_to s) q

  module _ (k : Mapped) (q : restored (decode s) mem ≡ found k) where
    keeps : map_rules (decode s) k ≡ true
    keeps = restored_ok (decode s) mem (says s h.sound).good.rules h.opened.placed h.opened.size k q

    taken : Accepted (step its_restore s mem)
    taken = ap (λ (r : Reply). r.answer) (comes_to (found k) q)

    taken_state : (step its_restore s mem).state ≡ stored_map k s
    taken_state = ap (λ (r : Reply). r.lent) (comes_to (found k) q)

    taken_mapping : decode_map (step its_restore s mem).state ≡ k
    taken_mapping =
        let p = says s h.sound in
        ap decode_map taken_state ∙ mapped_is k s h.sound.long p.counts p.good.rules keeps

    pub taken_guest : decode (step its_restore s mem).state ≡ decode s
    taken_guest =
        let p = says s h.sound in
        ap decode taken_state ∙ mapped_guest k s h.sound.long p.counts p.good.rules keeps

  is_exact : Exact s mem
  is_exact = record {
    refused = (λ r. undescribed r (restored (decode s) mem) refl, λ f. refuses f (restored (decode s) mem) refl);
    accepted = λ a. described a (restored (decode s) mem) refl;
    found = λ k d. taken k ((describes k).1 d);
    unique = described_unique (decode s) mem;
  }
    where
      undescribed : Refused (step its_restore s mem) → (o : Out) → restored (decode s) mem ≡ o → (k : Mapped) → Described (decode s) mem k → ⊥
      undescribed r (fault f) q = refused_undescribed (decode s) mem f q
      undescribed r (found k) q = absurd (unrefused r.0 r.1 (sym (taken k q) ∙ r.2))

      refuses : ((k : Mapped) → Described (decode s) mem k → ⊥) → (o : Out) → restored (decode s) mem ≡ o → Refused (step its_restore s mem)
      refuses f (fault x) q =
          (kind_errno x.kind, known_listed (kind_errno x.kind) (number_known x.kind), ap (λ (r : Reply). r.answer) (comes_to (fault x) q))
      refuses f (found k) q = absurd (f k ((describes k).0 q))

      described : Accepted (step its_restore s mem) → (o : Out) → restored (decode s) mem ≡ o → Described (decode s) mem (decode_map (step its_restore s mem).state)
      described a (fault f) q =
          absurd (unrefused (kind_errno f.kind) (known_listed (kind_errno f.kind) (number_known f.kind)) (sym a ∙ ap (λ (r : Reply). r.answer) (comes_to (fault f) q)))
      described a (found k) q = rw (taken_mapping k q) ((describes k).0 q)

-- soundness along the list
pub run_sound : (turns : List Turn) → All Given turns → (t : List ℕ) → Sound t → Sound (run turns t)
run_sound [] none t h = h
run_sound (x ∷ xs) (more g gs) t h = run_sound xs gs (step x.call t x.lent).state (sound_stays x.call t x.lent g.passed g.bytes h)

-- a saved mapping comes back
module _ (s mem : List ℕ) (h : Ready s mem) (t other : List ℕ) (r : Ready t other) (same : SamePlaces (decode s) (decode t)) (stand : SavedStand s (step its_save s mem).lent other) where
  alike : Alike (decode s) (decode t)
  alike = record {
    start = same.start;
    size = same.size;
    devices = same.devices;
    device_pages_lem = same.device_pages;
    collections = same.collections;
    collection_pages_lem = same.collection_pages;
    vcpus = same.vcpus;
  }

  stands : All (SameIn (decode s) (saved_memory (decode s) (decode_map s) mem) other) (table_areas (decode s) (decode_map s).devices)
  stands =
      let a : All (SameIn (decode s) (step its_save s mem).lent other) (table_areas (decode s) (decode_map s).devices) =
      all_weaker (λ a f i l p. f i l p.low p.high) (table_areas (decode s) (decode_map s).devices) stand in
      rw (ap (λ (x : Reply). x.lent) (saves_is s mem h)) at a

  again : restored (decode t) other ≡ found (decode_map s)
  again =
      let p = says s h.sound in
      (describes t other r (decode_map s)).1
      (saved_again (decode s) (decode_map s) mem p.good.rules h.opened.placed p.mapped h.opened.size (decode t) other alike r.opened.size stands)

  gives_back : GivesBack s t other
  gives_back =
      let k = decode_map s in
      let u = (step its_restore t other).state in
      let m = taken_mapping t other r k again in
      let w : ready (decode u) ≡ true = ap ready (taken_guest t other r k again) ∙ is_ready t other r in
      record {
        accepted = taken t other r k again;
        mapping = m;
        lookups = λ device event v.
            ap answered (looks_is u (restore_sound t other r.sound) w device event ∙ ap (lookup device event) m);
        at_save = λ device event v. ap answered (looks_is s h.sound (is_ready s mem h) device event);
      }

pub demand3 : (s mem : List ℕ) → Ready s mem → Demand3 s mem
demand3 s mem h = record {
  exact = is_exact s mem h;
  saves = ap (λ (r : Reply). r.answer) (saves_is s mem h);
  again = λ t z turns g other o same stand.
      gives_back s mem h (run turns t) other (record { sound = run_sound turns g t z; opened = o }) same stand;
}
