-- What is registered after a row was added or reworded: the row that was meant, and every other as before. Assumes nothing.
use Prim.Native.Nat.{ℕ, zero, suc, ◌+◌, ◌≤◌, ◌<◌}
use native.Mathlib.Nat.{not-suc-le-zero, le_of_suc-le-suc, zero-add, suc-add}
use native.Mathlib.Omega.{arith}
use mathlib.Core.Path.{◌≡◌, refl, sym, ap, ap₂, ◌∙◌, subst}
use mathlib.Core.Bool.{Bool, true, false, ◌&&◌, not, and-eq-true_iff}
use mathlib.Core.Logic.{⊎_elim}
use mathlib.Core.List.{List, [], ◌∷◌, ◌++◌}
use lib.ListN.{length, get_or, set, length-append, get_or-append}
use lib.Seq.{get_or-append_seam, get_or-set_same, get_or-set_other}
use borrow.Author.Tests.{not-true}
use Rattle.lists.specs.Rows.{all}
use Rattle.xicsrows.specs.XicsLayout.{Row}
use Rattle.xicsrows.specs.Registered.{no_row, index_of, registered, word_of, distinct}
use Rattle.xicsrows.proofs.Numbers.{same_or_not, first_is, first_not, found, is_registered, registered_is, unregistered_is, not_registered, numbers_index, numbers_set}

-- ---- another word in a row

module _ (l : List Row) (i w : ℕ) where
  abbrev new : Row
  new = record { number = (get_or l i no_row).number; word = w }

  pub word_set : (n : ℕ) → i ≡ index_of n l → registered n l ≡ true → word_of n (set l i new) ≡ w
  unfolding word_of
  word_set n e h =
      ap (λ (k : ℕ). (get_or (set l i new) k no_row).word) (numbers_index n (set l i new) l (numbers_set l i w) ∙ sym e)
      ∙ ap (λ (r : Row). r.word) (get_or-set_same l i new no_row (rw e (registered_is n l h)))

  pub word_set_else : (m : ℕ) → ((get_or l i no_row).number ≡ m → ⊥) → registered m l ≡ true → word_of m (set l i new) ≡ word_of m l
  unfolding word_of
  word_set_else m d h =
      ap (λ (k : ℕ). (get_or (set l i new) k no_row).word) (numbers_index m (set l i new) l (numbers_set l i w))
      ∙ ap (λ (r : Row). r.word) (get_or-set_other l i (index_of m l) new no_row (λ e. d (ap (λ (k : ℕ). (get_or l k no_row).number) (sym e) ∙ found m l (registered_is m l h))))

-- ---- one row more

module _ (n : ℕ) where
  index_front : (l r : List Row) → index_of n l < length l → index_of n (l ++ r) ≡ index_of n l
  index_front [] r h = absurd (not-suc-le-zero h)
  index_front (x ∷ l) r h = ⊎_elim
      (λ e. first_is n x (l ++ r) e ∙ sym (first_is n x l e))
      (λ d. let q = first_not n x l d in
      first_not n x (l ++ r) d ∙ ap suc (index_front l r (le_of_suc-le-suc (subst (λ (k : ℕ). k < suc (length l)) q h))) ∙ sym q)
      (same_or_not x.number n)

  index_behind : (l r : List Row) → length l ≤ index_of n l → index_of n (l ++ r) ≡ length l + index_of n r
  index_behind [] r h = sym (zero-add (index_of n r))
  index_behind (x ∷ l) r h = ⊎_elim
      (λ e. let q = first_is n x l e in absurd (not-suc-le-zero (subst (λ (k : ℕ). suc (length l) ≤ k) q h)))
      (λ d. let q = first_not n x l d in
      first_not n x (l ++ r) d ∙ ap suc (index_behind l r (le_of_suc-le-suc (subst (λ (k : ℕ). suc (length l) ≤ k) q h)))
      ∙ sym (suc-add (length l) (index_of n r)))
      (same_or_not x.number n)

  -- one that is registered stays, with its word
  pub registered_front : (l r : List Row) → registered n l ≡ true → registered n (l ++ r) ≡ true
  registered_front l r h =
      let g = registered_is n l h in
      let q = index_front l r g in
      let m = length-append l r in
      is_registered n (l ++ r) (omega arith)

  pub word_front : (l r : List Row) → registered n l ≡ true → word_of n (l ++ r) ≡ word_of n l
  unfolding word_of
  word_front l r h =
      let g = registered_is n l h in
      ap (λ (k : ℕ). (get_or (l ++ r) k no_row).word) (index_front l r g)
      ∙ ap (λ (x : Row). x.word) (get_or-append l r no_row (index_of n l) g)

  -- the new one has its word
  module _ (l : List Row) (x : Row) (e : x.number ≡ n) (h : registered n l ≡ false) where
    index_last : index_of n (l ++ (x ∷ [])) ≡ length l
    index_last = let q = index_behind l (x ∷ []) (unregistered_is n l h) in let z = first_is n x [] e in omega arith

    pub registered_last : registered n (l ++ (x ∷ [])) ≡ true
    registered_last = let q = index_last in let m = length-append l (x ∷ []) in is_registered n (l ++ (x ∷ [])) (subst (λ (k : ℕ). k < length (l ++ (x ∷ []))) (sym q) (rw m (omega arith)))

    pub word_last : word_of n (l ++ (x ∷ [])) ≡ x.word
    unfolding word_of
    word_last = ap (λ (k : ℕ). (get_or (l ++ (x ∷ [])) k no_row).word) index_last ∙ ap (λ (r : Row). r.word) (get_or-append_seam l x [] no_row)

  -- and no other is registered by it
  pub registered_else : (l : List Row) (x : Row) → (x.number ≡ n → ⊥) → registered n l ≡ false → registered n (l ++ (x ∷ [])) ≡ false
  unfolding index_of
  registered_else l x d h =
      let g = unregistered_is n l h in
      let q = index_behind l (x ∷ []) g in
      let z = first_not n x [] d in
      let m = length-append l (x ∷ []) in
      not_registered n (l ++ (x ∷ [])) (rw (m, q, z) (omega arith))

-- ---- the rules of the rows

pub distinct_last : (l : List Row) (x : Row) → distinct l ≡ true → registered x.number l ≡ false → distinct (l ++ (x ∷ [])) ≡ true
unfolding distinct
distinct_last [] x a h = ap (λ (p : Bool). not p && true) h
distinct_last (y ∷ l) x a h =
    let both = (and-eq-true_iff (not (registered y.number l)) (distinct l)).0 a in
    let far : x.number ≡ y.number → ⊥ = λ e. apart y l x h (sym e) in
    ap₂ (λ (p : Bool) (q : Bool). not p && q)
    (registered_else y.number l x far (not-true _ both.0))
    (distinct_last l x both.1 (later x.number y l h (λ e. far (sym e))))
  where
    apart : (y : Row) (l : List Row) (x : Row) → registered x.number (y ∷ l) ≡ false → y.number ≡ x.number → ⊥
    apart y l x h e = let q = first_is x.number y l e in not-suc-le-zero (subst (λ (k : ℕ). suc (length l) ≤ k) q (unregistered_is x.number (y ∷ l) h))

    later : (n : ℕ) (y : Row) (l : List Row) → registered n (y ∷ l) ≡ false → (y.number ≡ n → ⊥) → registered n l ≡ false
    later n y l h d = not_registered n l (le_of_suc-le-suc (subst (λ (k : ℕ). suc (length l) ≤ k) (first_not n y l d) (unregistered_is n (y ∷ l) h)))

module _ (p : Row → Bool) where
  pub all_last : (l : List Row) (x : Row) → all p l ≡ true → p x ≡ true → all p (l ++ (x ∷ [])) ≡ true
  unfolding all
  all_last [] x a h = ap (λ (b : Bool). b && true) h
  all_last (y ∷ l) x a h = let both = (and-eq-true_iff (p y) (all p l)).0 a in ap₂ ◌&&◌ both.0 (all_last l x both.1 h)

  pub all_set : (l : List Row) (i : ℕ) (x : Row) → all p l ≡ true → p x ≡ true → all p (set l i x) ≡ true
  unfolding all
  all_set [] i x a h = refl
  all_set (y ∷ l) zero x a h = let both = (and-eq-true_iff (p y) (all p l)).0 a in ap₂ ◌&&◌ h both.1
  all_set (y ∷ l) (suc i) x a h = let both = (and-eq-true_iff (p y) (all p l)).0 a in ap₂ ◌&&◌ both.0 (all_set l i x both.1 h)

  pub all_row : (l : List Row) (i : ℕ) → all p l ≡ true → i < length l → p (get_or l i no_row) ≡ true
  unfolding all
  all_row [] i a h = absurd (not-suc-le-zero h)
  all_row (y ∷ l) zero a h = ((and-eq-true_iff (p y) (all p l)).0 a).0
  all_row (y ∷ l) (suc i) a h = all_row l i ((and-eq-true_iff (p y) (all p l)).0 a).1 (le_of_suc-le-suc h)
