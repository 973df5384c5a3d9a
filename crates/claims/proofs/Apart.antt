-- Banks stand apart: what is asked about one VCPU's own bank is answered the same after any call on another VCPU's. Assumes nothing.
use Prim.Native.Nat.{ℕ, zero, suc, ◌<◌}
use native.Mathlib.Omega.{arith}
use mathlib.Core.Path.{◌≡◌, refl, ap, subst}
use mathlib.Core.Bool.{true, not}
use mathlib.Core.List.{List, [], ◌∷◌}
use lib.ListN.{length, get_or}
use lib.Dec.{eqb}
use borrow.Author.Tests.{eq-eqb, ne_eqb, lt-ltb}
use Rattle.lists.specs.Rows.{find_ix}
use Rattle.words.proofs.Bytes.{Bytes}
use Rattle.guest.specs.Machine.{Reading}
use Rattle.guest.specs.declared.Vcpu.{Vcpu}
use Rattle.guest.specs.Machine.{Machine, no_vcpu}
use Rattle.rules.specs.Rules.{has_affinity, taken, distinct}
use Rattle.rules.proofs.Facts.{sound_vcpus}
use Rattle.irqs.specs.Spots.{vcpu_of}
use Rattle.irqs.specs.Registers.{affinity_of}
use Rattle.irqs.proofs.Apart as machines
use Rattle.layout.specs.Layout.{size, decode}
use Rattle.kept.specs.Good.{Keeps}
use Rattle.kept.proofs.Choice.{chosen, never, and_left, and_right}
use Rattle.irqkept.proofs.Calls.{irq_set-keeps, irq_clear-keeps, irq_line-keeps, irq_trigger-keeps}
use Rattle.calls.specs.declared.Change.{Change}
use Rattle.calls.specs.declared.Change.TheVariants.{VgicSet, SetPending, ClearPending, Activate, Line, Trigger}
use Rattle.calls.specs.declared.Question.{Question}
use Rattle.calls.specs.declared.Question.TheVariants.{VgicGet, Pending}
use Rattle.calls.specs.Groups as groups
use Rattle.calls.specs.Steps.{change_step, ask_step}
use Rattle.state.specs.Sound.{sound, Sound}
use Rattle.calls.specs.Call.{Reply, changes, asks, given, answered, value_of}
use Rattle.step.specs.Step.{Call, step}
use Rattle.claims.specs.Claims.{Passed}
use Rattle.claims.specs.Demand2 as claim
use Rattle.claims.proofs.Stored.{says, stored_is}
use Rattle.claims.proofs.Stays.{vgic_keeps, value_small, value_four, sound_stays}

-- where affinities differ, the VCPU of row k's is k
module _ (d : Vcpu) where
  found_at : (a : ℕ) (vs : List Vcpu) (k : ℕ) → distinct vs ≡ true → k < length vs → (get_or vs k d).affinity ≡ a → find_ix (has_affinity a) vs ≡ k
  unfolding find_ix distinct taken
  found_at a [] k u l e = absurd (omega arith)
  found_at a (v ∷ vs) zero u l e = rw (eq-eqb v.affinity a e)
  found_at a (v ∷ vs) (suc k) u l e =
      let h : k < length vs = omega arith in
      let r = found_at a vs k (and_right (not (taken vs v.affinity)) (distinct vs) u) h e in
      let t : taken vs a ≡ true = rw r (lt-ltb k (length vs) h) in
      let n : v.affinity ≡ a → ⊥ =
      λ q. never (rw t at (subst (λ (x : ℕ). not (taken vs x) ≡ true) q (and_left (not (taken vs v.affinity)) (distinct vs) u))) in
      rw (ne_eqb v.affinity a n) (ap suc r)

affine : (s : List ℕ) (attribute k : ℕ) → Sound s → claim.Affine s attribute k → vcpu_of (affinity_of attribute) (decode s) ≡ k
affine s attribute k h e =
    found_at (no_vcpu 0) (affinity_of attribute) (decode s).vcpus k (sound_vcpus (decode s) (says s h).good.rules).distinct e.there e.affinity

-- a machine is like itself
same : (j : ℕ) (m : Machine) → machines.Alike j m m
same j m = machines.alike j m m (record { control = refl; shared = refl; vcpus = refl; here = refl; found = λ a. refl })

-- what the bytes that a change leaves stand for is like what they stood for
module _ (j : ℕ) (s : List ℕ) (h : Sound s) where
  change_alike : (c : Change) → Keeps (change_step c) → machines.Alike j (decode s) (change_step c (decode s)).next
      → machines.Alike j (decode s) (decode (changes c s).lent)
  unfolding changes
  change_alike c k a =
      let m = decode s in
      let n = (change_step c m).next in
      chosen Left (eqb (length s) size)
      (chosen Left (sound s)
      (chosen Left (eqb (change_step c m).errno 0) (rw (stored_is n s h.long (k m (says s h).good)) a) (same j m))
      (same j m))
      (same j m)
    where
      Left : Reply → Type 0
      Left r = machines.Alike j (decode s) (decode r.lent)

  names_alike : (k : ℕ) → (j ≡ k → ⊥) → {c : Call} (v : List ℕ) → claim.Names k s c → Passed c → Bytes v
      → machines.Alike j (decode s) (decode (step c s v).state)
  unfolding groups.vgic_set
  names_alike k n v (claim.Names.pending i l) p b = same j (decode s)
  names_alike k n v (claim.Names.sets i l) p b =
      change_alike (SetPending k i) (irq_set-keeps k i) (machines.irq_set-apart j k (decode s) n i l)
  names_alike k n v (claim.Names.clears i l) p b =
      change_alike (ClearPending k i) (irq_clear-keeps k i) (machines.irq_clear-apart j k (decode s) n i l)
  names_alike k n v (claim.Names.activates i l) p b =
      change_alike (Activate k i) (irq_clear-keeps k i) (machines.irq_clear-apart j k (decode s) n i l)
  names_alike k n v (claim.Names.line i x l) p b =
      change_alike (Line k i x) (irq_line-keeps k i x) (machines.irq_line-apart j k (decode s) n i l x)
  names_alike k n v (claim.Names.trigger i w l) p b =
      change_alike (Trigger k i w) (irq_trigger-keeps k i w p) (machines.irq_trigger-apart j k (decode s) n i l w)
  names_alike k n v (claim.Names.registers a e) p b =
      change_alike (VgicSet 5 a (length v) (value_of v)) (vgic_keeps 5 a (length v) (value_of v) (value_small v b) (value_four v b))
      (machines.set_group5-apart j k (decode s) n a (length v) (value_of v) (affine s a k h e))
  names_alike k n v (claim.Names.levels a e z) p b =
      change_alike (VgicSet 7 a (length v) (value_of v)) (vgic_keeps 7 a (length v) (value_of v) (value_small v b) (value_four v b))
      (machines.set_group7-apart j k (decode s) n a (length v) (value_of v) (affine s a k h e) z)

-- sound bytes are asked what they stand for
module _ (s t : List ℕ) (h : Sound s) (g : Sound t) where
  asks_same : (q : Question) → ask_step q (decode t) ≡ ask_step q (decode s) → asks q t ≡ asks q s
  unfolding asks
  asks_same q e = rw (eq-eqb (length t) size g.long, g.rules, eq-eqb (length s) size h.long, h.rules) e

  about_alike : (j : ℕ) → machines.Alike j (decode s) (decode t) → {q : Call} (w : List ℕ) → claim.About j s q
      → claim.Alike (step q t w) (step q s w)
  unfolding groups.vgic_get
  about_alike j a w (claim.About.pending i l) =
      record { answer = ap answered (asks_same (Pending j i) (a.pending i)); lent = refl }
  about_alike j a w (claim.About.registers x e) =
      let r = asks_same (VgicGet 5 x (length w) (value_of w)) (a.group5 x (length w) (affine s x j h e)) in
      record { answer = ap (λ (y : Reading). (given y w).answer) r; lent = ap (λ (y : Reading). (given y w).lent) r }
  about_alike j a w (claim.About.levels x e z) =
      let r = asks_same (VgicGet 7 x (length w) (value_of w)) (a.group7 x (length w) z (affine s x j h e)) in
      record { answer = ap (λ (y : Reading). (given y w).answer) r; lent = ap (λ (y : Reading). (given y w).lent) r }

pub bank_apart : claim.Apart
bank_apart j k n c q s v w h p b x y =
    about_alike s (step c s v).state h (sound_stays c s v p b h) j (names_alike j s h k n v x p b) w y
