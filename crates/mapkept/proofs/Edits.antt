-- Edits of a list of rows: what holds of each row, what a search finds, and how long the list is.
use Prim.Native.Nat.{ℕ, zero, suc, ◌≤◌, ◌<◌}
use native.Mathlib.Omega.{arith}
use mathlib.Core.Path.{◌≡◌, refl, sym, ap, ◌∙◌}
use mathlib.Core.Bool.{Bool, true, false, ◌||◌}
use mathlib.Core.List.{List, [], ◌∷◌, ◌++◌, map}
use lib.ListN.{length, get_or, take, drop, set, length-append, length-take, length-drop, length-set, take-append-drop}
use lib.Seq.{split_at, map-set_same}
use borrow.Author.Tests.{le-ltb}
use Rattle.lists.specs.Rows.{choose, find_ix}
use Rattle.lists.proofs.All.{All, none, more, all_append, all_take, all_drop}
use Rattle.areas.proofs.Tests.{clash, refuted, or_left, or_right}
use Rattle.areas.proofs.Has.{has, has_nil, has_cons}
use Rattle.mapping.specs.Mapped.{inserted_at, removed_at, kept}

-- a fact of every row
module _ {A : Type 0} {P : A → Type 0} where
  pub all_weaker : {Q : A → Type 0} → ((x : A) → P x → Q x) → (l : List A) → All P l → All Q l
  all_weaker f [] none = none
  all_weaker f (x ∷ l) (more p r) = more (f x p) (all_weaker f l r)

  pub all_both : {Q R : A → Type 0} → ((x : A) → P x → Q x → R x) → (l : List A) → All P l → All Q l → All R l
  all_both f [] none none = none
  all_both f (x ∷ l) (more p r) (more q s) = more (f x p q) (all_both f l r s)

  pub all_inserted : (i : ℕ) (x : A) (l : List A) → P x → All P l → All P (inserted_at i x l)
  unfolding inserted_at
  all_inserted i x l p r = all_append (take i l) (all_take i l r) (more p (all_drop i l r))

  pub all_removed : (i : ℕ) (l : List A) → All P l → All P (removed_at i l)
  unfolding removed_at
  all_removed i l r = all_append (take i l) (all_take i l r) (all_drop (suc i) l r)

  pub all_kept : {Q : A → Type 0} (q : A → Bool) → ((x : A) → P x → q x ≡ true → Q x) → (l : List A) → All P l → All Q (kept q l)
  unfolding kept
  all_kept q f [] none = none
  all_kept {Q} q f (x ∷ l) (more p r) = by (q x) refl (all_kept q f l r)
    where
      by : (b : Bool) → q x ≡ b → All Q (kept q l) → All Q (choose b (x ∷ kept q l) (kept q l))
      by true e s = more (f x p e) s
      by false e s = s

  pub all_set : (l : List A) (i : ℕ) (x : A) → P x → All P l → All P (set l i x)
  all_set [] i x p r = none
  all_set (y ∷ l) zero x p (more q r) = more p r
  all_set (y ∷ l) (suc i) x p (more q r) = more q (all_set l i x p r)

-- the number of rows
module _ {A : Type 0} where
  pub length_inserted : (i : ℕ) (x : A) (l : List A) → length (inserted_at i x l) ≡ suc (length l)
  unfolding inserted_at
  length_inserted i x l = omega (arith, length-append (take i l) (x ∷ drop i l), length-take i l, length-drop i l)

  pub length_removed : (i : ℕ) (l : List A) → i < length l → suc (length (removed_at i l)) ≡ length l
  unfolding removed_at
  length_removed i l h = omega (arith, length-append (take i l) (drop (suc i) l), length-take i l, length-drop (suc i) l)

  pub length_kept : (q : A → Bool) (l : List A) → length (kept q l) ≤ length l
  unfolding kept
  length_kept q [] = omega arith
  length_kept q (x ∷ l) = by (q x) (length_kept q l)
    where
      by : (b : Bool) → length (kept q l) ≤ length l → length (choose b (x ∷ kept q l) (kept q l)) ≤ suc (length l)
      by true h = omega arith
      by false h = omega arith

-- what a search comes to: a value of the first row that passes, or that of none
module _ {A C : Type 0} (p : A → Bool) (no : C) (some : A → C) where
  unfoldable seek : List A → C
  seek [] = no
  seek (x ∷ l) = choose (p x) (some x) (seek l)

  -- a row that does not pass makes no difference
  seek_among : (l : List A) (a : A) (r : List A) → p a ≡ false → seek (l ++ (a ∷ r)) ≡ seek (l ++ r)
  unfolding seek
  seek_among [] a r e = rw e
  seek_among (x ∷ l) a r e = ap (λ (c : C). choose (p x) (some x) c) (seek_among l a r e)

  -- rows that pass stay
  seek_kept : (q : A → Bool) → ((x : A) → p x ≡ true → q x ≡ true) → (l : List A) → seek (kept q l) ≡ seek l
  unfolding seek kept
  seek_kept q f [] = refl
  seek_kept q f (x ∷ l) = by (q x) refl (seek_kept q f l)
    where
      by : (b : Bool) → q x ≡ b → seek (kept q l) ≡ seek l → seek (choose b (x ∷ kept q l) (kept q l)) ≡ choose (p x) (some x) (seek l)
      by true e h = ap (λ (c : C). choose (p x) (some x) c) h
      by false e h = rw (← refuted (p x) (λ t. clash (f x t) e)) h

module _ {A : Type 0} (p : A → Bool) where
  has_seek : (l : List A) → has p l ≡ seek p false (λ _. true) l
  unfolding seek
  has_seek [] = has_nil p
  has_seek (x ∷ l) = has_cons p x l ∙ by (p x) (has_seek l)
    where
      by : (b : Bool) → has p l ≡ seek p false (λ _. true) l → (b || has p l) ≡ choose b true (seek p false (λ _. true) l)
      by true h = refl
      by false h = h

  first_seek : (d : A) (l : List A) → get_or l (find_ix p l) d ≡ seek p d (λ x. x) l
  unfolding seek find_ix
  first_seek d [] = refl
  first_seek d (x ∷ l) = by (p x) (first_seek d l)
    where
      by : (b : Bool) → get_or l (find_ix p l) d ≡ seek p d (λ x. x) l → get_or (x ∷ l) (choose b 0 (suc (find_ix p l))) d ≡ choose b x (seek p d (λ x. x) l)
      by true h = refl
      by false h = h

  -- two lists in which a search comes to the same: whether a row is found, and which
  pub record Same (l r : List A) : Type 0 where
    pub has : has p l ≡ has p r
    pub first : (d : A) → get_or l (find_ix p l) d ≡ get_or r (find_ix p r) d

  both : (l r : List A) → ((C : Type 0) (no : C) (some : A → C) → seek p no some l ≡ seek p no some r) → Same l r
  both l r f = record {
    has = has_seek l ∙ f Bool false (λ _. true) ∙ sym (has_seek r);
    first = λ d. first_seek d l ∙ f A d (λ x. x) ∙ sym (first_seek d r);
  }

  pub same_self : (l : List A) → Same l l
  same_self l = record { has = refl; first = λ d. refl }

  -- a row that does not pass put in, or taken out
  pub same_inserted : (i : ℕ) (x : A) (l : List A) → p x ≡ false → Same (inserted_at i x l) l
  unfolding inserted_at
  same_inserted i x l e =
      both (take i l ++ (x ∷ drop i l)) l
      (λ C no some. seek_among p no some (take i l) x (drop i l) e ∙ ap (seek p no some) (take-append-drop i l))

  pub same_removed : (i : ℕ) (l : List A) (d : A) → i < length l → p (get_or l i d) ≡ false → Same (removed_at i l) l
  unfolding removed_at
  same_removed i l d h e =
      both (take i l ++ drop (suc i) l) l
      (λ C no some. sym (ap (seek p no some) (split_at l i d h) ∙ seek_among p no some (take i l) (get_or l i d) (drop (suc i) l) e))

  -- only what the test says of each row matters
  find_tests : (l : List A) → find_ix p l ≡ find_ix (λ b. b) (map p l)
  unfolding find_ix
  find_tests [] = refl
  find_tests (x ∷ l) = ap (λ (n : ℕ). choose (p x) 0 (suc n)) (find_tests l)

  -- a row replaced by one of which the test says the same
  pub find_set : (l : List A) (i : ℕ) (x d : A) → p x ≡ p (get_or l i d) → find_ix p (set l i x) ≡ find_ix p l
  find_set l i x d e = find_tests (set l i x) ∙ ap (find_ix (λ b. b)) (map-set_same p l i x d e) ∙ sym (find_tests l)

  pub has_set : (l : List A) (i : ℕ) (x d : A) → p x ≡ p (get_or l i d) → has p (set l i x) ≡ has p l
  has_set l i x d e = rw (find_set l i x d e, length-set)

  -- where none is found, none passes
  pub has_none : (l : List A) → has p l ≡ false → All (λ x. p x ≡ false) l
  has_none [] e = none
  has_none (x ∷ l) e =
      let f = sym (has_cons p x l) ∙ e in
      more (or_left (p x) (has p l) f) (has_none l (or_right (p x) (has p l) f))

  -- the row that is found passes
  pub has_first : (l : List A) (d : A) → has p l ≡ true → p (get_or l (find_ix p l) d) ≡ true
  unfolding find_ix
  has_first [] d e = absurd (clash e (has_nil p))
  has_first (x ∷ l) d e = by (p x) refl (sym (has_cons p x l) ∙ e) (has_first l d)
    where
      by : (b : Bool) → p x ≡ b → (b || has p l) ≡ true → (has p l ≡ true → p (get_or l (find_ix p l) d) ≡ true) → p (get_or (x ∷ l) (choose b 0 (suc (find_ix p l))) d) ≡ true
      by true q f h = q
      by false q f h = h f

  -- a search that comes to the end finds none
  pub absent : (l : List A) → find_ix p l ≡ length l → has p l ≡ false
  absent l e = le-ltb (find_ix p l) (length l) (omega arith)

-- tests that agree on every row
pub find_same : {A : Type 0} (p q : A → Bool) (l : List A) → All (λ x. p x ≡ q x) l → find_ix p l ≡ find_ix q l
unfolding find_ix
find_same p q [] none = refl
find_same p q (x ∷ l) (more e r) = rw e (ap (λ (n : ℕ). choose (q x) 0 (suc n)) (find_same p q l r))
