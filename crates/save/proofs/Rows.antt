-- Facts of rows: of each of them, of what is left of them, and of those that a search passes. Assumes nothing.
use Prim.Native.Nat.{ℕ, zero, suc, ◌+◌, ◌≤◌, ◌<◌}
use native.Mathlib.Nat.{not-suc-le-zero, le_of_suc-le-suc}
use native.Mathlib.Numerals.{add-one}
use native.Mathlib.Omega.{arith}
use mathlib.Core.Path.{◌≡◌, refl, sym, ap, ◌∙◌, subst}
use mathlib.Core.Bool.{Bool, true, false}
use mathlib.Core.List.{List, [], ◌∷◌}
use lib.ListN.{length, get_or, take, drop}
use lib.Seq.{get_or-take, length-take-le, take_all, take-length, drop-cons}
use Rattle.lists.specs.Rows.{choose, find_ix}
use Rattle.lists.proofs.All.{All, none, more, all_at}
use Rattle.lists.proofs.Find.{row_le}
use Rattle.mapping.proofs.Table.{Seeking, seek_turn, seek_here, seek_end}

-- what is left of the rows from the one at j on, where x was read there
pub row_left : {A : Type 0} (d : A) (l : List A) (j : ℕ) (x : A) → j < length l → x ≡ get_or l j d → drop j l ≡ x ∷ drop (j + 1) l
row_left d l j x h e = rw (add-one, e) (drop-cons l j d h)

-- the first to of the rows
module _ {A : Type 0} (to : ℕ) (l : List A) where
  pub run_count : to ≤ length l → to ≡ length (take to l)
  run_count f = sym (length-take-le to l f)

  pub run_row : (d : A) (j : ℕ) (x : A) → j < to → x ≡ get_or l j d → x ≡ get_or (take to l) j d
  run_row d j x h e = e ∙ sym (get_or-take to l j d h)

module _ {A : Type 0} {P : A → Type 0} where
  -- a fact of every row, of the row x that was read at j
  pub row_good : (d : A) (l : List A) (j : ℕ) (x : A) → j < length l → x ≡ get_or l j d → All P l → P x
  row_good d l j x h e r = rw e (all_at l j d r h)

  pub all_weaker : {Q : A → Type 0} → ((x : A) → P x → Q x) → (l : List A) → All P l → All Q l
  all_weaker f [] none = none
  all_weaker f (x ∷ l) (more p r) = more (f x p) (all_weaker f l r)

  pub all_both : {Q R : A → Type 0} → ((x : A) → P x → Q x → R x) → (l : List A) → All P l → All Q l → All R l
  all_both f [] none none = none
  all_both f (x ∷ l) (more p r) (more q s) = more (f x p q) (all_both f l r s)

module _ {A : Type 0} (p : A → Bool) (d : A) where
  -- no element before the one that is found passes
  find_before : (l : List A) (j : ℕ) → j < find_ix p l → p (get_or l j d) ≡ false
  unfolding find_ix
  find_before [] j h = absurd (not-suc-le-zero h)
  find_before (x ∷ l) j h = by (p x) refl (find_before l) j h
    where
      by : (b : Bool) → p x ≡ b → ((i : ℕ) → i < find_ix p l → p (get_or l i d) ≡ false) → (i : ℕ) → i < choose b 0 (suc (find_ix p l)) → p (get_or (x ∷ l) i d) ≡ false
      by true e f i g = absurd (not-suc-le-zero g)
      by false e f zero g = e
      by false e f (suc i) g = f i (le_of_suc-le-suc g)

  pub find_most : (l : List A) → find_ix p l ≤ length l
  find_most l = subst (λ (z : List A). find_ix p z ≤ length l) (take-length l) (row_le p d (length l) l)

  module _ (n : ℕ) (l : List A) (count : n ≡ length l) where
    same_find : find_ix p (take n l) ≡ find_ix p l
    same_find = ap (find_ix p) (take_all n l (omega arith))

    -- a search of all n rows may start at any index up to the one that it finds
    pub seek_from : (from : ℕ) → from ≤ find_ix p l → Seeking p d n l from
    seek_from from h =
        let u = find_most l in
        record { room = omega arith; end = omega arith; none = λ j g. find_before l j (omega arith) }

    -- x is the row at i
    pub seek_past : (i : ℕ) (x : A) → Seeking p d n l i → i < n → x ≡ get_or l i d → p x ≡ false → Seeking p d n l (i + 1)
    seek_past i x v h e t = seek_turn p d n l i v h (rw e at t)

    pub found_here : (i : ℕ) (x : A) → Seeking p d n l i → i < n → x ≡ get_or l i d → p x ≡ true → i ≡ find_ix p l
    found_here i x v h e t = seek_here p d n l i v h (rw e at t) ∙ same_find

    pub found_none : (i : ℕ) → Seeking p d n l i → n ≤ i → n ≡ find_ix p l
    found_none i v h = seek_end p d n l i v h ∙ same_find
