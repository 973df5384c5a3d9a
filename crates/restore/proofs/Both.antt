-- The two kinds of table are the slots that the definitions name, and no next is above its table's cap. Assumes nothing.
use mathlib.Core.Path.{◌≡◌, refl, sym, ◌∙◌}
use mathlib.Core.Bool.{Bool, true, false}
use mathlib.Core.List.{List}
use Prim.Native.Nat.{ℕ, ◌+◌, ◌/◌, ◌≤◌, ◌<◌}
use native.Mathlib.Omega.{arith}
use lib.ListN.{length}
use borrow.Author.Tests.{lt-ltb, le-ltb}
use Rattle.entries.proofs.Laws.{device_of_fits}
use Rattle.chains.specs.declared.Next.TheVariants.{Last, At, Bad}
use Rattle.chains.specs.Slots.{capped, exact, first_from, following}
use Rattle.chains.proofs.Scan.{first_hit, first_miss, first_end}
use Rattle.chains.proofs.Way.{way_last, way_out, way_near, way_far}
use Rattle.tables.specs.Bytes.{entry_at, device_slots, event_slots}
use Rattle.restore.specs.Both.{valid_of, next_of, cap_of, slots_of}

pub device_slots_lem : (t : List ℕ) → slots_of true t ≡ device_slots t
unfolding slots_of valid_of next_of cap_of device_slots
device_slots_lem t = refl

pub event_slots_lem : (t : List ℕ) → slots_of false t ≡ event_slots t
unfolding slots_of valid_of next_of cap_of event_slots
event_slots_lem t = refl

pub cap_pos : (device : Bool) (t : List ℕ) → 0 < capped (slots_of device t).cap 1
unfolding slots_of cap_of
cap_pos true t = omega arith
cap_pos false t = omega arith

pub next_small : (device : Bool) (t : List ℕ) (i : ℕ) → capped (slots_of device t).cap ((slots_of device t).next i) ≡ (slots_of device t).next i
unfolding slots_of cap_of next_of
next_small true t i = omega (arith, (device_of_fits (entry_at t i)).next)
next_small false t i = refl

module _ (device : Bool) (t : List ℕ) where
  -- what the code has read of an entry
  valid_read : (i w : ℕ) (b : Bool) → w ≡ entry_at t i → b ≡ valid_of device w → (slots_of device t).valid i ≡ b
  unfolding slots_of
  valid_read i w b e f = cc

  next_read : (i w d : ℕ) → w ≡ entry_at t i → d ≡ next_of device w → d ≡ (slots_of device t).next i
  unfolding slots_of
  next_read i w d e f = cc

  -- a loop that seeks an entry: what is left from i on has the answer
  pub record Seeking (from n i : ℕ) : Type 0 where
    pub size : n ≡ length t / 8
    pub end : i ≤ n
    pub same : first_from (slots_of device t) i ≡ first_from (slots_of device t) from

  module _ (from n i : ℕ) (v : Seeking from n i) where
    pub seek_here : i < n → (w : ℕ) (b : Bool) → w ≡ entry_at t i → b ≡ valid_of device w → b ≡ true → i ≡ first_from (slots_of device t) from
    unfolding slots_of
    seek_here h w b e f g =
        let s = v.size in
        sym (first_hit (slots_of device t) i (omega arith) (valid_read i w b e f ∙ g)) ∙ v.same

    pub seek_turn : i < n → (w : ℕ) (b : Bool) → w ≡ entry_at t i → b ≡ valid_of device w → b ≡ false → Seeking from n (i + 1)
    unfolding slots_of
    seek_turn h w b e f g =
        let s = v.size in
        record {
          size = s;
          end = omega arith;
          same = sym (first_miss (slots_of device t) i (omega arith) (valid_read i w b e f ∙ g)) ∙ v.same;
        }

    pub seek_end : n ≤ i → n ≡ first_from (slots_of device t) from
    unfolding slots_of
    seek_end h =
        let s = v.size in
        let l = v.end in
        let z : n ≡ i = omega arith in
        z ∙ sym (first_end (slots_of device t) i (omega arith)) ∙ v.same

  -- where the entry at i leads, by the tests on the distance d that was read
  module _ (i w d : ℕ) (e : w ≡ entry_at t i) (f : d ≡ next_of device w) where
    pub leads_last : d ≡ 0 → Last ≡ following (slots_of device t) i
    leads_last z = way_last (slots_of device t) i d (next_read i w d e f) z

    module _ (n : d ≡ 0 → ⊥) where
      pub leads_out : length t / 8 ≤ i + d → Bad ≡ following (slots_of device t) i
      unfolding slots_of
      leads_out h = way_out (slots_of device t) i d (next_read i w d e f) n h

      module _ (h : i + d < length t / 8) where
        module _ (c : exact (cap_of device) d ≡ true) (x : ℕ) (b : Bool) (p : x ≡ entry_at t (i + d)) (q : b ≡ valid_of device x) where
          pub leads_near : b ≡ true → At (i + d) ≡ following (slots_of device t) i
          unfolding slots_of
          leads_near y =
              rw (valid_read (i + d) x b p q ∙ y) at (way_near (slots_of device t) i d (next_read i w d e f) n h c)

          pub leads_blank : b ≡ false → Bad ≡ following (slots_of device t) i
          unfolding slots_of
          leads_blank y =
              rw (valid_read (i + d) x b p q ∙ y) at (way_near (slots_of device t) i d (next_read i w d e f) n h c)

        module _ (c : exact (cap_of device) d ≡ false) (k : ℕ) (p : k ≡ first_from (slots_of device t) (i + d)) where
          pub leads_far : k < length t / 8 → At k ≡ following (slots_of device t) i
          unfolding slots_of
          leads_far g = rw (← p, lt-ltb k (length t / 8) g) at (way_far (slots_of device t) i d (next_read i w d e f) n h c)

          pub leads_none : length t / 8 ≤ k → Bad ≡ following (slots_of device t) i
          unfolding slots_of
          leads_none g = rw (← p, le-ltb k (length t / 8) g) at (way_far (slots_of device t) i d (next_read i w d e f) n h c)
