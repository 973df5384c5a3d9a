-- Rows put in, taken out and kept: their members, and facts of every row. Assumes nothing.
use Prim.Native.Nat.{ℕ, zero, suc, ◌<◌}
use native.Mathlib.Nat.{not-suc-le-zero, le_of_suc-le-suc}
use mathlib.Core.Path.{◌≡◌, refl, sym, ap, ◌∙◌}
use mathlib.Core.Bool.{Bool, true, false, ◌||◌}
use mathlib.Core.Logic.{⊎_elim}
use mathlib.Core.List.{List, [], ◌∷◌, ◌++◌}
use lib.ListN.{length, get_or, take, drop, take-append-drop}
use lib.Seq.{split_at}
use borrow.Author.Tests.{ltb-true}
use Rattle.lists.specs.Rows.{choose, find_ix}
use Rattle.lists.proofs.All.{All, none, more, all_append, all_take, all_drop}
use Rattle.lists.proofs.Member.{In, here, is_here, there, member, nowhere, all_in, all_of, in_at, in_left, in_right, in_either}
use Rattle.lists.proofs.Pairs.{Pairs, before}
use Rattle.areas.proofs.Tests.{clash, or_true}
use Rattle.areas.proofs.Has.{has, has_nil, has_cons}
use Rattle.mapping.specs.Mapped.{kept, inserted_at, removed_at}

module _ {A : Type 0} where
  -- a row put in
  pub in_inserted : {x : A} (i : ℕ) (y : A) (l : List A) → In x l → In x (inserted_at i y l)
  unfolding inserted_at
  in_inserted {x} i y l m =
      let n : In x (take i l ++ drop i l) = rw take-append-drop m in
      ⊎_elim (λ a. in_left (y ∷ drop i l) a) (λ b. in_right (take i l) (there b)) (in_either (take i l) n)

  pub inserted_in : (i : ℕ) (y : A) (l : List A) → In y (inserted_at i y l)
  unfolding inserted_at
  inserted_in i y l = in_right (take i l) here

  pub all_inserted : {P : A → Type 0} (i : ℕ) (x : A) (l : List A) → P x → All P l → All P (inserted_at i x l)
  unfolding inserted_at
  all_inserted i x l p r = all_append (take i l) (all_take i l r) (more p (all_drop i l r))

  -- the rows that pass a test
  module _ (p : A → Bool) where
    pub in_kept : {x : A} (l : List A) → In x l → p x ≡ true → In x (kept p l)
    unfolding kept
    in_kept [] m e = absurd (nowhere m)
    in_kept {x} (y ∷ l) m e = ⊎_elim
        (λ q. let f : p y ≡ true = rw q at e in rw f (is_here q))
        (λ n. by (p y) (in_kept l n e))
        (member m)
      where
        by : (b : Bool) → In x (kept p l) → In x (choose b (y ∷ kept p l) (kept p l))
        by true n = there n
        by false n = n

    pub all_kept : {P : A → Type 0} (l : List A) → All P l → All P (kept p l)
    unfolding kept
    all_kept [] none = none
    all_kept {P} (x ∷ l) (more q r) = by (p x) (all_kept l r)
      where
        by : (b : Bool) → All P (kept p l) → All P (choose b (x ∷ kept p l) (kept p l))
        by true s = more q s
        by false s = s

    pub kept_pass : (l : List A) → All (λ x. p x ≡ true) (kept p l)
    unfolding kept
    kept_pass [] = none
    kept_pass (x ∷ l) = by (p x) refl (kept_pass l)
      where
        by : (b : Bool) → p x ≡ b → All (λ y. p y ≡ true) (kept p l) → All (λ y. p y ≡ true) (choose b (x ∷ kept p l) (kept p l))
        by true e s = more e s
        by false e s = s

    pub kept_append : (l r : List A) → kept p (l ++ r) ≡ kept p l ++ kept p r
    unfolding kept
    kept_append [] r = refl
    kept_append (x ∷ l) r = by (p x) (kept_append l r)
      where
        by : (b : Bool) → kept p (l ++ r) ≡ kept p l ++ kept p r → choose b (x ∷ kept p (l ++ r)) (kept p (l ++ r)) ≡ choose b (x ∷ kept p l) (kept p l) ++ kept p r
        by true e = ap (λ (s : List A). x ∷ s) e
        by false e = e

    pub kept_whole : (l : List A) → All (λ x. p x ≡ true) l → kept p l ≡ l
    unfolding kept
    kept_whole [] none = refl
    kept_whole (x ∷ l) (more e r) = rw e (ap (λ (s : List A). x ∷ s) (kept_whole l r))

    pub kept_none : (l : List A) → All (λ x. p x ≡ false) l → kept p l ≡ []
    unfolding kept
    kept_none [] none = refl
    kept_none (x ∷ l) (more e r) = rw e (kept_none l r)

  -- a row taken out
  pub in_removed : {x : A} (i : ℕ) (l : List A) → In x (removed_at i l) → In x l
  unfolding removed_at
  in_removed {x} i l m = rw take-append-drop at n
    where
      behind : (j : ℕ) (r : List A) → In x (drop (suc j) r) → In x (drop j r)
      behind j [] q = absurd (nowhere q)
      behind zero (y ∷ r) q = there q
      behind (suc j) (y ∷ r) q = behind j r q

      n : In x (take i l ++ drop i l)
      n = ⊎_elim (λ a. in_left (drop i l) a) (λ b. in_right (take i l) (behind i l b)) (in_either (take i l) m)

  pub still_in : {x : A} (i : ℕ) (l : List A) (d : A) → i < length l → In x l → (x ≡ get_or l i d → ⊥) → In x (removed_at i l)
  unfolding removed_at
  still_in {x} i l d h m f =
      let n : In x (take i l ++ (get_or l i d ∷ drop (suc i) l)) = rw (← split_at l i d h) m in
      ⊎_elim
      (λ a. in_left (drop (suc i) l) a)
      (λ b. ⊎_elim (λ e. absurd (f e)) (λ c. in_right (take i l) c) (member b))
      (in_either (take i l) n)

  -- where no two rows have one name, no row has that of the row that was taken out
  module _ {B : Type 0} {R : A → A → Type 0} (name : A → B) (differ : (x y : A) → R x y → name x ≡ name y → ⊥) where
    pub gone : {x : A} (i : ℕ) (l : List A) (d : A) → Pairs R l → i < length l → In x (removed_at i l) → name x ≡ name (get_or l i d) → ⊥
    unfolding removed_at
    gone i [] d p h m e = not-suc-le-zero h
    gone {x} zero (y ∷ l) d (before a p) h m e = differ y x (all_in l a m) (sym e)
    gone {x} (suc i) (y ∷ l) d (before a p) h m e = ⊎_elim
        (λ q. differ y (get_or l i d) (all_in l a (in_at l i d (le_of_suc-le-suc h))) (let s = ap name q in cc))
        (λ n. gone i l d p (le_of_suc-le-suc h) n e)
        (member m)

-- the rows of which P does not hold, and no other
pub record Without {A : Type 0} (P : A → Type 0) (l r : List A) : Type 0 where
  pub gone : (x : A) → In x r → P x → ⊥
  pub stays : (x : A) → In x l → (P x → ⊥) → In x r
  pub old : (x : A) → In x r → In x l

-- a search: what is found passes, and the only row that passes is found
module _ {A : Type 0} (p : A → Bool) where
  pub first_found : (l : List A) (d : A) → has p l ≡ true → In (get_or l (find_ix p l) d) l × (p (get_or l (find_ix p l) d) ≡ true)
  unfolding find_ix
  first_found [] d e = absurd (clash e (has_nil p))
  first_found (y ∷ l) d e = by (p y) refl (sym (has_cons p y l) ∙ e) (first_found l d)
    where
      Found : Bool → Type 0
      Found b = In (get_or (y ∷ l) (choose b 0 (suc (find_ix p l))) d) (y ∷ l) × (p (get_or (y ∷ l) (choose b 0 (suc (find_ix p l))) d) ≡ true)

      by : (b : Bool) → p y ≡ b → (b || has p l) ≡ true → (has p l ≡ true → In (get_or l (find_ix p l) d) l × (p (get_or l (find_ix p l) d) ≡ true)) → Found b
      by true q h r = (here, q)
      by false q h r = let s = r h in (there s.0, s.1)

  pub found : {x : A} (l : List A) (d : A) → In x l → p x ≡ true → ((y : A) → In y l → p y ≡ true → y ≡ x) → (has p l ≡ true) × (get_or l (find_ix p l) d ≡ x)
  unfolding find_ix
  found [] d m e u = absurd (nowhere m)
  found {x} (y ∷ l) d m e u = by (p y) refl (λ n. found l d n e (λ z k. u z (there k)))
    where
      by : (b : Bool) → p y ≡ b → (In x l → (has p l ≡ true) × (get_or l (find_ix p l) d ≡ x))
          → (has p (y ∷ l) ≡ true) × (get_or (y ∷ l) (choose b 0 (suc (find_ix p l))) d ≡ x)
      by true q r = (has_cons p y l ∙ rw q, u y here q)
      by false q r = ⊎_elim
          (λ s. absurd (clash (rw s at e) q))
          (λ n. (has_cons p y l ∙ rw q (r n).0, (r n).1))
          (member m)

  pub has_in : {x : A} (l : List A) → In x l → p x ≡ true → has p l ≡ true
  has_in [] m e = absurd (nowhere m)
  has_in {x} (y ∷ l) m e = ⊎_elim
      (λ q. has_cons p y l ∙ rw (rw q at e))
      (λ n. has_cons p y l ∙ rw (has_in l n e) (or_true (p y)))
      (member m)

  -- the rows that pass
  pub kept_without : (P : A → Type 0) → ((x : A) → p x ≡ true → P x → ⊥) → ((x : A) → (P x → ⊥) → p x ≡ true) → (l : List A) → Without P l (kept p l)
  kept_without P fails passes l = record {
    gone = λ x m q. fails x (all_in (kept p l) (kept_pass p l) m) q;
    stays = λ x m f. in_kept p l m (passes x f);
    old = λ x m. all_in (kept p l) (all_kept p l (all_of l (λ y n. n))) m;
  }

  -- all but the one that is found, where no two rows have one name
  module _ {B : Type 0} {R : A → A → Type 0} (name : A → B) (differ : (x y : A) → R x y → name x ≡ name y → ⊥) where
    pub removed_without : (P : A → Type 0) (d : A) → ((x : A) → p x ≡ true → P x) → ((x y : A) → P x → P y → name x ≡ name y)
        → (l : List A) → Pairs R l → has p l ≡ true → Without P l (removed_at (find_ix p l) l)
    removed_without P d says same l r h =
        let i = find_ix p l in
        let f = first_found l d h in
        let j : i < length l = ltb-true i (length l) h in
        record {
          gone = λ x m q. gone name differ i l d r j m (same x (get_or l i d) q (says (get_or l i d) f.1));
          stays = λ x m n. still_in i l d j m (λ e. n (rw e (says (get_or l i d) f.1)));
          old = λ x m. in_removed i l m;
        }
