-- The one theorem of this crate, of its parts. Assumes nothing.
use Prim.Native.Nat.{ℕ}
use native.Mathlib.Omega.{arith}
use mathlib.Core.Path.{◌≡◌, refl, sym, ap, ◌∙◌}
use mathlib.Core.Logic.{◌⊎◌, inl, inr}
use mathlib.Core.Bool.{Bool, true, false, ◌&&◌, ◌||◌}
use mathlib.Core.List.{List, [], ◌∷◌}
use lib.ListN.{length}
use lib.Dec.{ltb, leb, eqb}
use borrow.Author.Tests.{eqb-true, eqb-false}
use Rattle.lists.proofs.All.{All, none, more}
use Rattle.words.proofs.Bytes.{Bytes}
use Rattle.answers.specs.Answer.{done}
use Rattle.guest.specs.declared.Control.{Control}
use Rattle.guest.specs.Machine.{Machine, shared_count, fresh_irqs, fresh}
use Rattle.areas.proofs.Tests.{or_true}
use Rattle.rules.specs.Rules.{memory_ok, irqs_ok, control_ok, frames_ok, init_ok, vcpus_ok, last_ok, untouched, its_ok, tables_ok, rules}
use Rattle.rules.proofs.Parts.{Default, ControlParts}
use Rattle.rules.proofs.Facts.{sound_control}
use Rattle.mapping.specs.Mapped.{empty}
use Rattle.mapping.specs.MapRules.{map_rules}
use Rattle.layout.specs.Layout.{size, decode, stored, counts_ok}
use Rattle.maplayout.specs.MapLayout.{decode_map, stored_map, map_counts_ok}
use Rattle.kept.proofs.Choice.{choose_by, and_left, and_right, and_both}
use Rattle.state.specs.Sound.{sound, Sound}
use Rattle.calls.specs.Call.{Reply, changes, asks, set_up, commands, looks, saves, restores, explains}
use Rattle.step.specs.Step.{Call, After, step, state_len, vcpus_start, vcpus_stop, setup, vcpu_add, redist_base, vgic_set, its_set, vgic_get, its_get, irq_pending, irq_set_pending, irq_clear_pending, irq_activate, irq_line, irq_trigger, its_place, its_map_event, its_map_device, its_move, its_map_collection, its_discard, its_lookup, its_unmap_device, its_unmap_collection, its_save, its_restore, its_explain}
use Rattle.claims.specs.Claims.{Passed}
use Rattle.claims.specs.Demand3.{Accepted, Turn, Given}
use Rattle.claims.proofs.Still.{Counts}
use Rattle.claims.proofs.Stored.{says, fresh_is, fresh_sound}
use Rattle.claims.proofs.Stays.{default_setup, setup_good, sound_stays, Way, left, changed, commanded, reread, made, way}
use Rattle.claims.proofs.Demand3.{no_refusal}
use Rattle.claims.proofs.Counts.{change_stands, command_stands, restore_stands, count_stands}
use Rattle.formercount.proofs.Former.{former_control_ok, former_rules, former_sound, FormerSound, step_by, former_fresh, former_step}
use Rattle.formercount.proofs.Claim.{GoesOn, each, Smaller, Today, FormerKept}

-- with the test and the fresh guest of today the calls with both left open are `step`; a call that is no set-up asks for no fresh guest
pub step_by_lem : (c : Call) (f : ℕ → ℕ → ℕ → Machine) (s v : List ℕ)
    → ((width start len : ℕ) → c ≡ setup width start len → f width start len ≡ fresh width start len) → step_by (sound s) f c s v ≡ step c s v
unfolding changes asks set_up commands looks saves restores explains
step_by_lem state_len f s v e = refl
step_by_lem (setup width start len) f s v e = rw (e width start len refl)
step_by_lem (vcpu_add affinity) f s v e = refl
step_by_lem vcpus_start f s v e = refl
step_by_lem vcpus_stop f s v e = refl
step_by_lem (vgic_set group attribute) f s v e = refl
step_by_lem (its_set group attribute) f s v e = refl
step_by_lem (vgic_get group attribute) f s v e = refl
step_by_lem (its_get group attribute) f s v e = refl
step_by_lem (redist_base vcpu) f s v e = refl
step_by_lem (irq_pending vcpu intid) f s v e = refl
step_by_lem (irq_set_pending vcpu intid) f s v e = refl
step_by_lem (irq_clear_pending vcpu intid) f s v e = refl
step_by_lem (irq_activate vcpu intid) f s v e = refl
step_by_lem (irq_line vcpu intid level) f s v e = refl
step_by_lem (irq_trigger vcpu intid word) f s v e = refl
step_by_lem (its_place ds dp cs cp) f s v e = refl
step_by_lem (its_map_device id itt bits) f s v e = refl
step_by_lem (its_unmap_device id) f s v e = refl
step_by_lem (its_map_collection icid pe) f s v e = refl
step_by_lem (its_unmap_collection icid) f s v e = refl
step_by_lem (its_map_event device event lpi icid) f s v e = refl
step_by_lem (its_discard device event) f s v e = refl
step_by_lem (its_move device event icid) f s v e = refl
step_by_lem (its_lookup device event) f s v e = refl
step_by_lem its_save f s v e = refl
step_by_lem its_restore f s v e = refl
step_by_lem its_explain f s v e = refl

-- a conjunction in which one test is exchanged for another that holds with it
last_for : (a x y : Bool) → (x ≡ true → y ≡ true) → (a && x) ≡ true → (a && y) ≡ true
last_for true x y f e = f e
last_for false x y f e = e

first_for : (x y b : Bool) → (x ≡ true → y ≡ true) → (x && b) ≡ true → (y && b) ≡ true
first_for x y b f e = and_both (f (and_left x b e)) (and_right x b e)

-- of the marks only the last test was another
module _ (c : Control) where
  abbrev marks : Bool → Bool
  marks last =
      leb c.init 1 && (leb c.running c.init && (leb c.itsinit c.init
      && (leb c.irqsset 1 && (irqs_ok c.irqs && (ltb c.status 16 && last)))))

  marks_for : (x y : Bool) → (x ≡ true → y ≡ true) → marks x ≡ true → marks y ≡ true
  marks_for x y f =
      last_for (leb c.init 1) _ _ (last_for (leb c.running c.init) _ _ (last_for (leb c.itsinit c.init) _ _
      (last_for (leb c.irqsset 1) _ _ (last_for (irqs_ok c.irqs) _ _ (last_for (ltb c.status 16) x y f)))))

  marks_last : (x : Bool) → marks x ≡ true → x ≡ true
  marks_last x e =
      and_right (ltb c.status 16) _ (and_right (irqs_ok c.irqs) _ (and_right (leb c.irqsset 1) _
      (and_right (leb c.itsinit c.init) _ (and_right (leb c.running c.init) _ (and_right (leb c.init 1) _ e)))))

  -- a count of 256, or one that was set
  abbrev pub Former : Type 0
  Former = (c.irqsset ≡ 1) ⊎ (c.irqs ≡ 256)

  wider : (a x y : Bool) → (a || y) ≡ true → (a || (x || y)) ≡ true
  wider true x y e = refl
  wider false true y e = refl
  wider false false y e = e

  control_now : former_control_ok c ≡ true → control_ok c ≡ true
  unfolding former_control_ok control_ok
  control_now = marks_for _ _ (wider (eqb c.irqsset 1) (eqb c.irqs fresh_irqs) (eqb c.irqs 256))

  counted : Former → (eqb c.irqsset 1 || eqb c.irqs 256) ≡ true
  counted (inl h) = rw h
  counted (inr h) = rw h (or_true (eqb c.irqsset 1))

  control_then : Former → control_ok c ≡ true → former_control_ok c ≡ true
  unfolding former_control_ok control_ok
  control_then h = marks_for _ _ (λ _. counted h)

module _ (s : List ℕ) where
  abbrev m : Machine
  m = decode s

  -- of soundness only the marks were others
  abbrev tests : Bool → Bool
  tests marks =
      counts_ok s && (map_counts_ok s && ((memory_ok m.memory && (marks && (frames_ok m && (init_ok m && (vcpus_ok m.vcpus
      && (eqb (length m.shared) (shared_count m.control.irqs) && (last_ok m.shared && (untouched m
      && (its_ok m && tables_ok m))))))))) && map_rules m (decode_map s)))

  sound_for : (x y : Bool) → (x ≡ true → y ≡ true) → tests x ≡ true → tests y ≡ true
  sound_for x y f =
      last_for (counts_ok s) _ _ (last_for (map_counts_ok s) _ _ (first_for _ _ (map_rules m (decode_map s))
      (last_for (memory_ok m.memory) _ _ (first_for x y _ f))))

  sound_now : former_sound s ≡ true → sound s ≡ true
  unfolding former_sound former_rules sound rules
  sound_now = sound_for (former_control_ok m.control) (control_ok m.control) (control_now m.control)

  sound_then : Former m.control → sound s ≡ true → former_sound s ≡ true
  unfolding former_sound former_rules sound rules
  sound_then h = sound_for (control_ok m.control) (former_control_ok m.control) (control_then m.control h)

  still_sound : FormerSound s → Sound s
  still_sound h = record { bytes = h.bytes; long = h.long; rules = sound_now h.rules }

  was_sound : Former m.control → Sound s → FormerSound s
  was_sound f h = record { bytes = h.bytes; long = h.long; rules = sound_then f h.rules }

  -- a count that was not set is one of two
  only_smaller : Sound s → FormerSound s ⊎ Smaller m
  only_smaller h = by (eqb m.control.irqsset 1) refl
    where
      p : ControlParts m.control
      p = sound_control m (says s h).good.rules

      default : m.control.irqsset ≡ 0 → Default m.control.irqs → FormerSound s ⊎ Smaller m
      default z (inl e) = inr (record { irqs = e; unset = z })
      default z (inr e) = inl (was_sound (inr e) h)

      by : (b : Bool) → eqb m.control.irqsset 1 ≡ b → FormerSound s ⊎ Smaller m
      by true q = inl (was_sound (inl (eqb-true m.control.irqsset 1 q)) h)
      by false q =
          let n = eqb-false m.control.irqsset 1 q in
          let l = p.irqsset in
          let z : m.control.irqsset ≡ 0 = omega arith in
          default z (p.unset z)

  former_says : FormerSound s → Former m.control
  unfolding former_sound former_rules former_control_ok
  former_says h = by (eqb m.control.irqsset 1) refl
    where
      e : (eqb m.control.irqsset 1 || eqb m.control.irqs 256) ≡ true
      e =
          marks_last m.control _
          (and_left _ _ (and_right (memory_ok m.memory) _ (and_left _ _ (and_right (map_counts_ok s) _ (and_right (counts_ok s) _ h.rules)))))

      by : (b : Bool) → eqb m.control.irqsset 1 ≡ b → Former m.control
      by true q = inl (eqb-true m.control.irqsset 1 q)
      by false q = inr (eqb-true m.control.irqs 256 (rw q at e))

module _ (s : List ℕ) (h : FormerSound s) (c : Call) (v : List ℕ) (g : GoesOn c) where
  goes_on : former_step c s v ≡ step c s v
  goes_on =
      ap (λ (b : Bool). step_by b former_fresh c s v) (h.rules ∙ sym (sound_now s h.rules))
      ∙ step_by_lem c former_fresh s v (λ width start len q. absurd (g width start len q))

  goes_sound : Passed c → Bytes v → FormerSound (former_step c s v).state
  goes_sound p b =
      let z = still_sound s h in
      rw goes_on (later (step c s v).state (count_stands s z c v p b g) (sound_stays c s v p b z))
    where
      kept : (d : Control) → Counts (decode s).control d → Former (decode s).control → Former d
      kept d (inl e) f = inl e
      kept d (inr e) (inl f) = inl (e.1 ∙ f)
      kept d (inr e) (inr f) = inr (e.0 ∙ f)

      later : (t : List ℕ) → Counts (decode s).control (decode t).control → Sound t → FormerSound t
      later t e z = was_sound t (kept (decode t).control e (former_says s h)) z

-- what set-up made
made_sound : (s : List ℕ) (width start len : ℕ) (v : List ℕ) → Bytes s → Accepted (former_step (setup width start len) s v)
    → FormerSound (former_step (setup width start len) s v).state
made_sound s width start len v b =
    choose_by P (eqb (length s) size)
    (λ l. choose_by P (memory_ok (record { width = width; start = start; length = len })) (λ e _. makes (eqb-true (length s) size l) e)
    (λ _ z. absurd (omega (arith, no_refusal 22 z))))
    (λ _ z. absurd (omega (arith, no_refusal 14 z)))
  where
    P : Reply → Type 0
    P r = r.answer ≡ done 0 → FormerSound r.lent

    makes : length s ≡ size → memory_ok (record { width = width; start = start; length = len }) ≡ true
        → FormerSound (stored (former_fresh width start len) (stored_map empty s))
    makes l e =
        let g = default_setup 256 width start len (inr refl) e in
        let q = fresh_is (former_fresh width start len) s l g in
        was_sound (stored (former_fresh width start len) (stored_map empty s)) (inr (ap (λ (x : Machine). x.control.irqs) q))
        (fresh_sound (former_fresh width start len) s l g b)

-- each call of a list, and all that it answers and leaves
goes_always : (s : List ℕ) → FormerSound s → (turns : List Turn) → All Given turns → All (λ x. GoesOn x.call) turns
    → each former_step turns s ≡ each step turns s
goes_always s h [] none none = refl
goes_always s h (x ∷ xs) (more g gs) (more o os) =
    let z = goes_sound s h x.call x.lent o g.passed g.bytes in
    let q = goes_on s h x.call x.lent o in
    ap (λ (l : List After). former_step x.call s x.lent ∷ l) (goes_always (former_step x.call s x.lent).state z xs gs os)
    ∙ ap (λ (a : After). a ∷ each step xs a.state) q

-- no call makes a count other than 64 that is not set
module _ (s : List ℕ) (h : Sound s) (n : Today (decode s)) where
  still_today : (d : Control) → Counts (decode s).control d → (d.irqsset ≡ 1) ⊎ (d.irqs ≡ 64)
  still_today d (inl e) = inl e
  still_today d (inr e) = by n
    where
      by : Today (decode s) → (d.irqsset ≡ 1) ⊎ (d.irqs ≡ 64)
      by (inl f) = inl (e.1 ∙ f)
      by (inr f) = inr (e.0 ∙ f)

  made_today : (width start len : ℕ) → Today (decode (set_up width start len s).lent)
  unfolding set_up
  made_today width start len =
      choose_by P (eqb (length s) size)
      (λ l. choose_by P (memory_ok (record { width = width; start = start; length = len }))
      (λ e.
      let q = fresh_is (fresh width start len) s (eqb-true (length s) size l) (setup_good width start len e) in
      inr (ap (λ (x : Machine). x.control.irqs) q))
      (λ _. n))
      (λ _. n)
    where
      P : Reply → Type 0
      P r = Today (decode r.lent)

  way_today : (c : Call) (t : List ℕ) → Way s c t → Today (decode t)
  way_today c t (left _) = n
  way_today c t (changed _ d e) = still_today (decode (changes d s).lent).control (change_stands s h d e)
  way_today c t (commanded _ d) = still_today (decode (commands d s).lent).control (command_stands s h d)
  way_today c t (reread _ mem) = still_today (decode (restores s mem).lent).control (restore_stands s h mem)
  way_today c t (made width start len) = made_today width start len

  none_new : (c : Call) (v : List ℕ) → Passed c → Bytes v → Today (decode (step c s v).state)
  none_new c v p b = way_today c (step c s v).state (way c s v p b)

pub former_kept : FormerKept
former_kept = record {
  sound = still_sound;
  only = only_smaller;
  same = goes_on;
  stays = goes_sound;
  made = made_sound;
  always = goes_always;
  none = none_new;
}
