-- Which numbers are registered, with which word: of rows as they stand, with a row more, with another word in a row. Assumes nothing.
use Prim.Native.Nat.{ℕ, zero, suc, ◌≤◌, ◌<◌, suc-le-suc}
use native.Mathlib.Nat.{not-suc-le-zero, le_of_suc-le-suc}
use native.Mathlib.Omega.{arith}
use mathlib.Core.Path.{◌≡◌, refl, sym, ap, ap₂, ◌∙◌, subst}
use mathlib.Core.Bool.{Bool, true, false, ◌&&◌, not}
use mathlib.Core.Logic.{◌⊎◌, inl, inr, ⊎_elim}
use mathlib.Core.List.{List, [], ◌∷◌, map, nil≢cons, head-eq_of_cons-eq, tail-eq_of_cons-eq}
use lib.ListN.{length, get_or, set, length-map}
use lib.Dec.{ltb, eqb}
use borrow.Author.Tests.{lt-ltb, ltb-true, eq-eqb, ne_eqb, le-ltb, ltb-false}
use Rattle.areas.proofs.Tests.{lt_or_ge, and_false, clash}
use Rattle.lists.specs.Rows.{find_ix, choose}
use Rattle.xicsrows.specs.XicsLayout.{Row}
use Rattle.xicsrows.specs.Registered.{no_row, has_number, index_of, registered, distinct}

-- two numbers are the same, or not
pub same_or_not : (a b : ℕ) → (a ≡ b) ⊎ (a ≡ b → ⊥)
same_or_not a b = ⊎_elim (λ p. inr (λ e. omega arith)) (λ p. ⊎_elim (λ q. inr (λ e. omega arith)) (λ q. inl (omega arith)) (lt_or_ge b a)) (lt_or_ge a b)

-- the first row decides, or the rest does
module _ (n : ℕ) (x : Row) (l : List Row) where
  pub first_is : x.number ≡ n → index_of n (x ∷ l) ≡ 0
  unfolding index_of find_ix
  first_is e = ap (λ (b : Bool). choose b 0 (suc (find_ix (has_number n) l))) (eq-eqb _ _ e)

  pub first_not : (x.number ≡ n → ⊥) → index_of n (x ∷ l) ≡ suc (index_of n l)
  unfolding index_of find_ix
  first_not d = ap (λ (b : Bool). choose b 0 (suc (find_ix (has_number n) l))) (ne_eqb _ _ d)

-- the number of the row that is found is the one that was looked for
pub found : (n : ℕ) (l : List Row) → index_of n l < length l → (get_or l (index_of n l) no_row).number ≡ n
found n [] h = absurd (not-suc-le-zero h)
found n (x ∷ l) h = ⊎_elim
    (λ e. ap (λ (k : ℕ). (get_or (x ∷ l) k no_row).number) (first_is n x l e) ∙ e)
    (λ d. let q = first_not n x l d in
    ap (λ (k : ℕ). (get_or (x ∷ l) k no_row).number) q ∙ found n l (le_of_suc-le-suc (subst (λ (k : ℕ). k < suc (length l)) q h)))
    (same_or_not x.number n)

-- and it is the first with that number
pub found_first : (n : ℕ) (l : List Row) (i : ℕ) → i < length l → (get_or l i no_row).number ≡ n → index_of n l ≤ i
found_first n [] i h e = absurd (not-suc-le-zero h)
found_first n (x ∷ l) zero h e = let q = first_is n x l e in omega arith
found_first n (x ∷ l) (suc i) h e = ⊎_elim
    (λ p. let q = first_is n x l p in omega arith)
    (λ d. let q = first_not n x l d in let r = found_first n l i (le_of_suc-le-suc h) e in omega arith)
    (same_or_not x.number n)

pub is_registered : (n : ℕ) (l : List Row) → index_of n l < length l → registered n l ≡ true
unfolding registered
is_registered n l h = lt-ltb _ _ h

pub registered_is : (n : ℕ) (l : List Row) → registered n l ≡ true → index_of n l < length l
unfolding registered
registered_is n l h = ltb-true _ _ h

pub row_registered : (n : ℕ) (l : List Row) (i : ℕ) → i < length l → (get_or l i no_row).number ≡ n → registered n l ≡ true
row_registered n l i h e = let q = found_first n l i h e in is_registered n l (omega arith)

pub unregistered_is : (n : ℕ) (l : List Row) → registered n l ≡ false → length l ≤ index_of n l
unfolding registered
unregistered_is n l h = ltb-false _ _ h

pub not_registered : (n : ℕ) (l : List Row) → length l ≤ index_of n l → registered n l ≡ false
unfolding registered
not_registered n l h = le-ltb _ _ h

-- distinct, by the index at which each row's number is found
pub distinct_fails : (l : List Row) (i : ℕ) → i < length l → index_of (get_or l i no_row).number l < i → distinct l ≡ false
unfolding distinct
distinct_fails [] i h g = absurd (not-suc-le-zero h)
distinct_fails (x ∷ l) zero h g = absurd (not-suc-le-zero g)
distinct_fails (x ∷ l) (suc i) h g =
    let m = (get_or l i no_row).number in
    ⊎_elim
    (λ e. ap (λ (b : Bool). not b && distinct l) (row_registered x.number l i (le_of_suc-le-suc h) (sym e)))
    (λ d. ap (λ (b : Bool). not (registered x.number l) && b)
    (distinct_fails l i (le_of_suc-le-suc h) (le_of_suc-le-suc (subst (λ (k : ℕ). k < suc i) (first_not m x l d) g)))
    ∙ and_false (not (registered x.number l)))
    (same_or_not x.number m)

-- where no number occurs twice, each row is the one that is found by its number
pub once_at : (l : List Row) (i : ℕ) → distinct l ≡ true → i < length l → index_of (get_or l i no_row).number l ≡ i
once_at l i d h = ⊎_elim
    (λ g. absurd (clash d (distinct_fails l i h g)))
    (λ g. let q = found_first (get_or l i no_row).number l i h refl in omega arith)
    (lt_or_ge (index_of (get_or l i no_row).number l) i)

pub distinct_holds : (l : List Row) → ((k : ℕ) → k < length l → k ≤ index_of (get_or l k no_row).number l) → distinct l ≡ true
unfolding distinct
distinct_holds [] f = refl
distinct_holds (x ∷ l) f = ap₂ (λ (a b : Bool). not a && b) (not_registered x.number l alone) (distinct_holds l rest)
  where
    alone : length l ≤ index_of x.number l
    alone = ⊎_elim
        (λ h. let e = found x.number l h in
        let q = f (suc (index_of x.number l)) (suc-le-suc h) in
        let z = first_is (get_or l (index_of x.number l) no_row).number x l (sym e) in
        absurd (not-suc-le-zero (subst (λ (k : ℕ). suc (index_of x.number l) ≤ k) z q)))
        (λ h. h)
        (lt_or_ge (index_of x.number l) (length l))

    rest : (k : ℕ) → k < length l → k ≤ index_of (get_or l k no_row).number l
    rest k h =
        let m = (get_or l k no_row).number in
        let q = f (suc k) (suc-le-suc h) in
        ⊎_elim
        (λ e. absurd (not-suc-le-zero (subst (λ (j : ℕ). suc k ≤ j) (first_is m x l e) q)))
        (λ d. le_of_suc-le-suc (subst (λ (j : ℕ). suc k ≤ j) (first_not m x l d) q))
        (same_or_not x.number m)

-- ---- rows with the same numbers, as another word leaves them

abbrev pub numbers : List Row → List ℕ
numbers l = map (λ (r : Row). r.number) l

pub numbers_index : (n : ℕ) (l m : List Row) → numbers l ≡ numbers m → index_of n l ≡ index_of n m
unfolding index_of find_ix
numbers_index n [] [] e = refl
numbers_index n [] (y ∷ m) e = absurd (nil≢cons e)
numbers_index n (x ∷ l) [] e = absurd (nil≢cons (sym e))
numbers_index n (x ∷ l) (y ∷ m) e =
    ap₂ (λ (a : ℕ) (b : ℕ). choose (eqb a n) 0 (suc b)) (head-eq_of_cons-eq e) (numbers_index n l m (tail-eq_of_cons-eq e))

pub numbers_length : (l m : List Row) → numbers l ≡ numbers m → length l ≡ length m
numbers_length l m e = sym (length-map l (λ (r : Row). r.number)) ∙ ap length e ∙ length-map m (λ (r : Row). r.number)

pub numbers_registered : (n : ℕ) (l m : List Row) → numbers l ≡ numbers m → registered n l ≡ registered n m
unfolding registered
numbers_registered n l m e = ap₂ ltb (numbers_index n l m e) (numbers_length l m e)

pub numbers_distinct : (l m : List Row) → numbers l ≡ numbers m → distinct l ≡ distinct m
unfolding distinct
numbers_distinct [] [] e = refl
numbers_distinct [] (y ∷ m) e = absurd (nil≢cons e)
numbers_distinct (x ∷ l) [] e = absurd (nil≢cons (sym e))
numbers_distinct (x ∷ l) (y ∷ m) e =
    ap₂ (λ (a : Bool) (b : Bool). not a && b)
    (ap (λ (k : ℕ). registered k l) (head-eq_of_cons-eq e) ∙ numbers_registered y.number l m (tail-eq_of_cons-eq e))
    (numbers_distinct l m (tail-eq_of_cons-eq e))

pub numbers_set : (l : List Row) (i w : ℕ) → numbers (set l i (record { number = (get_or l i no_row).number; word = w })) ≡ numbers l
numbers_set [] i w = refl
numbers_set (x ∷ l) zero w = refl
numbers_set (x ∷ l) (suc i) w = ap (λ (r : List ℕ). x.number ∷ r) (numbers_set l i w)
