-- The rows of a table, the first n elements of a longer list: what is read and written of one.
use Prim.Native.Nat.{ℕ, zero, suc, ◌<◌}
use native.Mathlib.Nat.{not-suc-le-zero, le_of_suc-le-suc}
use native.Mathlib.Omega.{arith}
use mathlib.Core.Path.{◌≡◌, refl, sym, ap, ◌∙◌}
use mathlib.Core.Bool.{Bool, true, false}
use mathlib.Core.List.{List, [], ◌∷◌}
use lib.ListN.{length, get_or, set, take, length-take}
use lib.Seq.{get_or-take, take-set-lt}
use Rattle.lists.specs.Rows.{choose, find_ix}
use Rattle.lists.proofs.All.{All, none, more}

module _ {A : Type 0} where
  -- within a list the default does not matter
  pub get_d_any : (l : List A) (k : ℕ) (d e : A) → k < length l → get_or l k d ≡ get_or l k e
  get_d_any [] k d e h = absurd (not-suc-le-zero h)
  get_d_any (x ∷ xs) zero d e h = refl
  get_d_any (x ∷ xs) (suc k) d e h = get_d_any xs k d e (le_of_suc-le-suc h)

  module _ (n : ℕ) (l : List A) (k : ℕ) (h : k < length (take n l)) where
    pub row_lt : k < n
    row_lt = omega (arith, length-take n l)

    pub row_at : (d e : A) → get_or l k d ≡ get_or (take n l) k e
    row_at d e = sym (get_or-take n l k d row_lt) ∙ get_d_any (take n l) k d e h

    pub row_set : (x : A) → take n (set l k x) ≡ set (take n l) k x
    row_set x = take-set-lt n l k x row_lt

module _ {A : Type 0} {P : A → Type 0} where
  -- a property of every element, and of the default, is one of what is read
  pub all_get_d : (l : List A) (k : ℕ) (d : A) → P d → All P l → P (get_or l k d)
  all_get_d [] k d p none = p
  all_get_d (x ∷ xs) zero d p (more q r) = q
  all_get_d (x ∷ xs) (suc k) d p (more q r) = all_get_d xs k d p r

  pub all_set : (l : List A) (k : ℕ) (x : A) → P x → All P l → All P (set l k x)
  all_set [] k x p none = none
  all_set (y ∷ ys) zero x p (more q r) = more p r
  all_set (y ∷ ys) (suc k) x p (more q r) = more q (all_set ys k x p r)

module _ {A : Type 0} where
  -- a row replaced by itself
  pub set_same : (l : List A) (k : ℕ) (d : A) → set l k (get_or l k d) ≡ l
  set_same [] k d = refl
  set_same (x ∷ xs) zero d = refl
  set_same (x ∷ xs) (suc k) d = ap (λ (t : List A). x ∷ t) (set_same xs k d)

module _ {A : Type 0} (P : A → Type 0) where
  -- a property of row i, where row j is replaced: of the new row, if it is the same one
  pub at_set : (l : List A) (j i : ℕ) (x d : A) → (j ≡ i → P x) → P (get_or l i d) → P (get_or (set l j x) i d)
  at_set [] j i x d f p = p
  at_set (y ∷ ys) zero zero x d f p = f refl
  at_set (y ∷ ys) zero (suc i) x d f p = p
  at_set (y ∷ ys) (suc j) zero x d f p = p
  at_set (y ∷ ys) (suc j) (suc i) x d f p = at_set ys j i x d (λ e. f (ap suc e)) p

module _ {A : Type 0} where
  -- a search finds the same after a row is replaced by one that passes as the old one did
  pub find_set : (p : A → Bool) (l : List A) (k : ℕ) (x d : A) → p x ≡ p (get_or l k d) → find_ix p (set l k x) ≡ find_ix p l
  unfolding find_ix
  find_set p [] k x d e = refl
  find_set p (y ∷ ys) zero x d e = ap (λ (q : Bool). choose q 0 (suc (find_ix p ys))) e
  find_set p (y ∷ ys) (suc k) x d e = ap (λ (n : ℕ). choose (p y) 0 (suc n)) (find_set p ys k x d e)

  -- a fact of the chosen, from what the test says
  pub choose_by : (P : A → Type 0) (b : Bool) {x y : A} → (b ≡ true → P x) → (b ≡ false → P y) → P (choose b x y)
  choose_by P true p q = p refl
  choose_by P false p q = q refl
