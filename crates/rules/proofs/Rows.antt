-- The loops over a guest's tables: what is left of the rows says what the whole does. Assumes nothing.
use Prim.Native.Nat.{ℕ, ◌+◌, ◌-◌, ◌≤◌, ◌<◌}
use native.Mathlib.Omega.{arith}
use native.Mathlib.Numerals.{add-one}
use mathlib.Core.Path.{◌≡◌, refl, ap}
use mathlib.Core.Bool.{Bool, true}
use mathlib.Core.List.{List, [], ◌∷◌, ◌++◌, map, append_assoc}
use lib.ListN.{length, get_or, take, drop}
use lib.Seq.{take-suc, get_or-take, length-take-le}
use lib.Dec.{leb, eqb}
use borrow.Author.Tests.{ltb-true, le-leb, leb-true, eq-eqb, eqb-true}
use Rattle.std.proofs.lemmas.List.{map-append, at_drop_more, at_drop_all}
use Rattle.std.specs.List.{list_any}
use Rattle.lists.specs.Rows.{all}
use Rattle.lists.proofs.All.{All, none, more, from_all, to_all, all_at}
use Rattle.lists.proofs.Searches.{any_found}
use Rattle.areas.proofs.Tests.{same, leb_same}
use Rattle.guest.specs.declared.Region.{Region}
use Rattle.guest.specs.declared.Vcpu.{Vcpu}
use Rattle.guest.specs.Machine.{no_bank}
use Rattle.rules.specs.Standing.{total, small_count}
use Rattle.rules.specs.Rules.{taken, has_affinity}

abbrev pub no_region : Region
no_region = record { base = 0; count = 0 }

module _ {A : Type 0} where
  -- the row at i passes where all rows do
  pub row_passes : (p : A → Bool) (d : A) (n : ℕ) (l : List A) (i : ℕ) → n ≤ length l → i < n → all p (take n l) ≡ true → p (get_or l i d) ≡ true
  row_passes p d n l i f h e =
      let g : length (take n l) ≡ n = length-take-le n l f in
      rw (← get_or-take n l i d h) (all_at (take n l) i d (from_all p (take n l) e) (omega arith))

  -- a weaker test
  pub all_weaker : (p q : A → Bool) → ((x : A) → p x ≡ true → q x ≡ true) → (l : List A) → all p l ≡ true → all q l ≡ true
  all_weaker p q f l e = to_all q l (go l (from_all p l e))
    where
      go : (k : List A) → All (λ x. p x ≡ true) k → All (λ x. q x ≡ true) k
      go [] none = none
      go (x ∷ k) (more a b) = more (f x a) (go k b)

module _ {A B : Type 0} (f : A → B) where
  -- one row more behind what stands
  pub map_more : (base so : List B) (l : List A) (i : ℕ) (d : A) → i < length l → so ≡ base ++ map f (take i l) → so ++ (f (get_or l i d) ∷ []) ≡ base ++ map f (take (i + 1) l)
  map_more base so l i d h e = rw (e, add-one, take-suc l i d h, map-append, append_assoc)

-- what the size of a region asks
pub count_small : (l : List Region) (i : ℕ) (d : Region) → i < length l → all small_count l ≡ true → (get_or l i d).count < 4096
count_small l i d h e = ltb-true (get_or l i d).count 4096 (all_at l i d (from_all small_count l e) h)

-- the room of regions
module _ (l : List Region) (i : ℕ) (d : Region) (left : ℕ) where
  rest : ℕ
  rest = total (drop (i + 1) l)

  total_turn : i < length l → total (drop i l) ≡ (get_or l i d).count + rest
  unfolding total rest
  total_turn h = at_drop_more total l i d h

  pub covers_here : i < length l → left ≤ (get_or l i d).count → leb left (total (drop i l)) ≡ true
  covers_here h g = rw (total_turn h) (le-leb left ((get_or l i d).count + rest) (omega arith))

  pub covers_later : i < length l → (get_or l i d).count < left → leb left (total (drop i l)) ≡ leb (left - (get_or l i d).count) (total (drop (i + 1) l))
  unfolding rest
  covers_later h g =
      rw (total_turn h)
      (leb_same left ((get_or l i d).count + rest) (left - (get_or l i d).count) rest (λ k. omega arith) (λ k. omega arith))

pub covers_end : (l : List Region) (i left : ℕ) → length l ≤ i → leb left (total (drop i l)) ≡ eqb left 0
unfolding total
covers_end l i left h =
    rw (at_drop_all total l i h)
    (same (leb left 0) (eqb left 0) (λ e. let g = leb-true left 0 e in eq-eqb left 0 (omega arith)) (λ e. let g = eqb-true left 0 e in le-leb left 0 (omega arith)))

-- the affinities of VCPUs
pub taken_any : (l : List Vcpu) (a : ℕ) → list_any (has_affinity a) l ≡ taken l a
unfolding taken
taken_any l a = any_found (has_affinity a) l
