-- Whether a list has an element that passes a test: the search ends before the list does. Assumes nothing.
use Prim.Native.Nat.{ℕ, suc, ◌+◌, ◌≤◌, ◌<◌}
use native.Mathlib.Omega.{arith}
use native.Mathlib.Numerals.{add-one}
use mathlib.Core.Path.{◌≡◌, refl, sym, ap, ◌∙◌}
use mathlib.Core.Bool.{Bool, true, false, ◌||◌}
use mathlib.Core.List.{List, [], ◌∷◌, ◌++◌}
use lib.ListN.{length, get_or, take, drop, drop_of_length-le}
use lib.Seq.{drop-cons, length-take-le, get_or-take}
use lib.Dec.{ltb, leb-suc-suc}
use borrow.Author.Tests.{lt-ltb}
use Rattle.lists.specs.Rows.{choose, find_ix}
use Rattle.lists.proofs.All.{All, none, more}
use Rattle.areas.proofs.Tests.{or_assoc, or_left, or_right}

-- what is left of the rows of a table from the row at i on
pub rows_left : {A : Type 0} (d : A) (n : ℕ) (l : List A) (i : ℕ) → n ≤ length l → i < n → drop i (take n l) ≡ get_or l i d ∷ drop (i + 1) (take n l)
rows_left d n l i f h =
    let e : length (take n l) ≡ n = length-take-le n l f in
    rw (add-one, ← get_or-take n l i d h) (drop-cons (take n l) i d (omega arith))

pub rows_end : {A : Type 0} (n : ℕ) (l : List A) (i : ℕ) → n ≤ length l → n ≤ i → drop i (take n l) ≡ []
rows_end n l i f h = let e : length (take n l) ≡ n = length-take-le n l f in drop_of_length-le (take n l) {i = i} (omega arith)

module _ {A : Type 0} (p : A → Bool) where
  abbrev pub has : List A → Bool
  has l = ltb (find_ix p l) (length l)

  pub has_nil : has [] ≡ false
  unfolding find_ix
  has_nil = refl

  pub has_cons : (x : A) (l : List A) → has (x ∷ l) ≡ (p x || has l)
  unfolding find_ix
  has_cons x l = at (p x)
    where
      at : (q : Bool) → ltb (choose q 0 (suc (find_ix p l))) (suc (length l)) ≡ (q || has l)
      at true = lt-ltb 0 (suc (length l)) (omega arith)
      at false = leb-suc-suc (suc (find_ix p l)) (length l)

  pub has_append : (l r : List A) → has (l ++ r) ≡ (has l || has r)
  has_append [] r = ap (λ (b : Bool). b || has r) (sym has_nil)
  has_append (x ∷ l) r =
      has_cons x (l ++ r) ∙ ap (λ (b : Bool). p x || b) (has_append l r) ∙ sym (or_assoc (p x) (has l) (has r))
      ∙ ap (λ (b : Bool). b || has r) (sym (has_cons x l))

  -- where none is found none passes, and back
  pub has_none : (l : List A) → has l ≡ false → All (λ x. p x ≡ false) l
  has_none [] e = none
  has_none (x ∷ l) e =
      let f = sym (has_cons x l) ∙ e in
      more (or_left (p x) (has l) f) (has_none l (or_right (p x) (has l) f))

  pub none_has : (l : List A) → All (λ x. p x ≡ false) l → has l ≡ false
  none_has [] none = has_nil
  none_has (x ∷ l) (more e r) = has_cons x l ∙ rw e (none_has l r)
