-- The rows that bytes hold, read one at a time: a test of each index says what the list says. Assumes nothing.
use Prim.Native.Nat.{ℕ, zero, suc, ◌+◌, ◌<◌}
use native.Mathlib.Omega.{arith}
use mathlib.Core.Path.{◌≡◌, refl, sym, ap, ◌∙◌}
use mathlib.Core.Bool.{Bool, true, false, ◌&&◌, ◌||◌, not}
use mathlib.Core.List.{List, [], map}
use lib.ListN.{length, get_or, drop, length-map, get_or-map}
use lib.Dec.{eqb}
use Rattle.std.proofs.lemmas.List.{at_drop_more, at_drop_all}
use Rattle.std.specs.List.{list_all, list_any, range_with_len}
use Rattle.lists.specs.Rows.{all}
use Rattle.areas.specs.declared.Area.{Area}
use Rattle.areas.specs.Area.{overlaps, strikes, apart}
use Rattle.areas.proofs.Laws.{strikes_nil, strikes_cons}
use Rattle.areas.proofs.Has.{has_nil, has_cons}
use Rattle.guest.specs.declared.Region.{Region}
use Rattle.guest.specs.declared.Vcpu.{Vcpu}
use Rattle.guest.specs.Machine.{no_region, no_vcpu}
use Rattle.rules.specs.Standing.{region_area}
use Rattle.rules.specs.Rules.{has_affinity, taken, distinct}

-- a question that a list answers row by row
module _ {A : Type 0} (F : List A → Bool) (l : List A) (t : ℕ → Bool) where
  -- whether each row from the one at `a` on passes
  pub each_row : F [] ≡ true → ((i : ℕ) → i < length l → F (drop i l) ≡ (t i && F (drop (i + 1) l)))
      → (n a : ℕ) → a + n ≡ length l → list_all t (range_with_len a n) ≡ F (drop a l)
  each_row e f zero a h = sym (at_drop_all F l a (omega arith) ∙ e)
  each_row e f (suc n) a h = ap (λ (b : Bool). t a && b) (each_row e f n (a + 1) (omega arith)) ∙ sym (f a (omega arith))

  -- whether one does
  pub some_row : F [] ≡ false → ((i : ℕ) → i < length l → F (drop i l) ≡ (t i || F (drop (i + 1) l)))
      → (n a : ℕ) → a + n ≡ length l → list_any t (range_with_len a n) ≡ F (drop a l)
  some_row e f zero a h = sym (at_drop_all F l a (omega arith) ∙ e)
  some_row e f (suc n) a h = ap (λ (b : Bool). t a || b) (some_row e f n (a + 1) (omega arith)) ∙ sym (f a (omega arith))

-- a test of every row
module _ {A : Type 0} (p : A → Bool) (d : A) (l : List A) where
  pub rows_all : (n : ℕ) → n ≡ length l → list_all (λ i. p (get_or l i d)) (range_with_len 0 n) ≡ all p l
  unfolding all
  rows_all n e = each_row (all p) l (λ i. p (get_or l i d)) refl (λ i h. at_drop_more (all p) l i d h) n 0 (omega (arith, e))

-- the areas of regions
module _ (l : List Region) where
  abbrev no_area : Area
  no_area = region_area no_region

  abbrev places : List Area
  places = map region_area l

  place_at : (i : ℕ) → get_or places i no_area ≡ region_area (get_or l i no_region)
  place_at i = get_or-map region_area l i no_region

  pub region_strikes : (a : Area) (n from : ℕ) → from + n ≡ length l → list_any (λ i. overlaps a (region_area (get_or l i no_region))) (range_with_len from n) ≡ strikes (drop from places) a
  region_strikes a n from h =
      some_row (λ k. strikes k a) places (λ i. overlaps a (region_area (get_or l i no_region))) (strikes_nil a)
      (λ i g. at_drop_more (λ k. strikes k a) places i no_area g ∙ strikes_cons a (get_or places i no_area) (drop (i + 1) places)
      ∙ ap (λ (x : Area). overlaps a x || strikes (drop (i + 1) places) a) (place_at i))
      n from (h ∙ sym (length-map l region_area))

  pub regions_clear : (n : ℕ) → n ≡ length l → list_all (λ i. not (strikes (drop (i + 1) places) (region_area (get_or l i no_region)))) (range_with_len 0 n) ≡ apart places
  unfolding apart
  regions_clear n h =
      each_row apart places (λ i. not (strikes (drop (i + 1) places) (region_area (get_or l i no_region)))) refl
      (λ i g. at_drop_more apart places i no_area g
      ∙ ap (λ (x : Area). not (strikes (drop (i + 1) places) x) && apart (drop (i + 1) places)) (place_at i))
      n 0 (let e = length-map l region_area in omega (arith, e, h))

-- the affinities of VCPUs
module _ (l : List Vcpu) where
  pub vcpu_taken : (a n from : ℕ) → from + n ≡ length l → list_any (λ i. eqb (get_or l i (no_vcpu 0)).affinity a) (range_with_len from n) ≡ taken (drop from l) a
  unfolding taken
  vcpu_taken a n from h =
      some_row (λ k. taken k a) l (λ i. eqb (get_or l i (no_vcpu 0)).affinity a) (has_nil (has_affinity a))
      (λ i g. at_drop_more (λ k. taken k a) l i (no_vcpu 0) g ∙ has_cons (has_affinity a) (get_or l i (no_vcpu 0)) (drop (i + 1) l))
      n from h

  pub vcpus_distinct : (n : ℕ) → n ≡ length l → list_all (λ i. not (taken (drop (i + 1) l) (get_or l i (no_vcpu 0)).affinity)) (range_with_len 0 n) ≡ distinct l
  unfolding distinct
  vcpus_distinct n e =
      each_row distinct l (λ i. not (taken (drop (i + 1) l) (get_or l i (no_vcpu 0)).affinity)) refl (λ i g. at_drop_more distinct l i (no_vcpu 0) g) n 0 (omega (arith, e))
