-- Rows that rise by a key: one more, joined, mapped, kept, put in; found by their key; and told by their members.
use Prim.Native.Nat.{ℕ, suc, ◌≤◌, ◌<◌}
use native.Mathlib.Omega.{arith}
use mathlib.Core.Path.{◌≡◌, refl, sym, ap}
use mathlib.Core.Bool.{Bool, true, false}
use mathlib.Core.Logic.{⊎_elim}
use mathlib.Core.List.{List, [], ◌∷◌, ◌++◌, map}
use lib.ListN.{get_or, take, drop}
use lib.Dec.{ltb, leb, eqb}
use borrow.Author.Tests.{lt-ltb, ltb-true, leb-true, leb-false, eq-eqb, ne_eqb, eqb-true, eqb-false}
use Rattle.lists.specs.Rows.{choose, find_ix}
use Rattle.lists.proofs.All.{All, none, more, all_append}
use Rattle.lists.proofs.Member.{In, here, there, member, nowhere, all_in, all_weaker}
use Rattle.lists.proofs.Pairs.{Pairs, alone, before, named_once}
use Rattle.areas.proofs.Tests.{and_left, and_right}
use Rattle.areas.proofs.Has.{has, has_none, none_has}
use Rattle.mapping.specs.Mapped.{find_key, place_of, inserted_at, kept, rising}
use Rattle.mapping.proofs.Edits.{all_inserted, all_kept, found, first_found}

module _ {A : Type 0} (key : A → ℕ) where
  -- every key of a list is above n
  abbrev pub Above : ℕ → List A → Type 0
  Above n l = All (λ y. n < key y) l

  pub rising_more : (x : A) (l : List A) → Above (key x) l → rising key l ≡ true → rising key (x ∷ l) ≡ true
  unfolding rising
  rising_more x [] none r = refl
  rising_more x (y ∷ l) (more p a) r = rw (lt-ltb (key x) (key y) p) r

  pub rising_nil : rising key [] ≡ true
  unfolding rising
  rising_nil = refl

  pub rising_rest : (x : A) (l : List A) → rising key (x ∷ l) ≡ true → rising key l ≡ true
  unfolding rising
  rising_rest x [] e = refl
  rising_rest x (y ∷ l) e = and_right (ltb (key x) (key y)) _ e

  pub rising_above : (x : A) (l : List A) → rising key (x ∷ l) ≡ true → Above (key x) l
  unfolding rising
  rising_above x [] e = none
  rising_above x (y ∷ l) e =
      let p : key x < key y = ltb-true (key x) (key y) (and_left _ _ e) in
      more p (all_weaker (λ z q. omega arith) l (rising_above y l (and_right (ltb (key x) (key y)) _ e)))

  -- the test says that each key is below every later one
  abbrev pub Rises : List A → Type 0
  Rises l = Pairs (λ x y. key x < key y) l

  pub rises : (l : List A) → rising key l ≡ true → Rises l
  rises [] e = alone
  rises (x ∷ l) e = before (rising_above x l e) (rises l (rising_rest x l e))

  pub risen : (l : List A) → Rises l → rising key l ≡ true
  risen [] alone = rising_nil
  risen (x ∷ l) (before a r) = rising_more x l a (risen l r)

  -- so a key names one row
  pub one_of_key : {x y : A} (l : List A) → Rises l → In x l → In y l → key x ≡ key y → x ≡ y
  one_of_key l r m n e = named_once key (λ x y h q. omega arith) l r m n e

  pub rising_append : (l r : List A) → rising key l ≡ true → rising key r ≡ true → All (λ x. Above (key x) r) l → rising key (l ++ r) ≡ true
  rising_append [] r a b none = b
  rising_append (x ∷ l) r a b (more p c) =
      rising_more x (l ++ r) (all_append l (rising_above x l a) p) (rising_append l r (rising_rest x l a) b c)

  pub rising_one : (x : A) → rising key (x ∷ []) ≡ true
  rising_one x = rising_more x [] none rising_nil

  pub rising_kept : (p : A → Bool) (l : List A) → rising key l ≡ true → rising key (kept p l) ≡ true
  unfolding kept
  rising_kept p [] e = e
  rising_kept p (x ∷ l) e = by (p x) (rising_kept p l (rising_rest x l e))
    where
      by : (b : Bool) → rising key (kept p l) ≡ true → rising key (choose b (x ∷ kept p l) (kept p l)) ≡ true
      by true r = rising_more x (kept p l) (all_kept p l (rising_above x l e)) r
      by false r = r

  -- two rising lists with the same members are equal
  pub rising_same : (l r : List A) → rising key l ≡ true → rising key r ≡ true → ((x : A) → In x l → In x r) → ((x : A) → In x r → In x l) → l ≡ r
  rising_same [] [] a b f g = refl
  rising_same [] (y ∷ r) a b f g = absurd (nowhere (g y here))
  rising_same (x ∷ l) [] a b f g = absurd (nowhere (f x here))
  rising_same (x ∷ l) (y ∷ r) a b f g =
      let u = rising_above x l a in
      let v = rising_above y r b in
      let e : x ≡ y = ⊎_elim (λ q. q) (λ m. ⊎_elim (λ q. sym q)
      (λ n. let i = all_in r v m in let j = all_in l u n in absurd (omega arith)) (member (g y here))) (member (f x here)) in
      let k : key x ≡ key y = ap key e in
      let t : l ≡ r = rising_same l r (rising_rest x l a) (rising_rest y r b)
      (λ z m. ⊎_elim (λ q. let i = all_in l u m in let j = ap key q in absurd (omega arith)) (λ n. n) (member (f z (there m))))
      (λ z m. ⊎_elim (λ q. let i = all_in r v m in let j = ap key q in absurd (omega arith)) (λ n. n) (member (g z (there m)))) in
      cc

  -- a row put in at its place
  pub rising_inserted : (x : A) (l : List A) → rising key l ≡ true → All (λ y. key y ≡ key x → ⊥) l → rising key (inserted_at (place_of key (key x) l) x l) ≡ true
  unfolding inserted_at find_ix
  rising_inserted x [] a none = rising_one x
  rising_inserted x (y ∷ l) a (more p q) = by (leb (key x) (key y)) refl (rising_inserted x l (rising_rest y l a) q)
    where
      at : Bool → ℕ
      at b = choose b 0 (suc (place_of key (key x) l))

      by : (b : Bool) → leb (key x) (key y) ≡ b → rising key (inserted_at (place_of key (key x) l) x l) ≡ true → rising key (take (at b) (y ∷ l) ++ (x ∷ drop (at b) (y ∷ l))) ≡ true
      by true e r =
          let h : key x ≤ key y = leb-true (key x) (key y) e in
          let i : key x < key y = omega (arith, p) in
          rising_more x (y ∷ l) (more i (all_weaker (λ z k. omega arith) l (rising_above y l a))) a
      by false e r =
          rising_more y (inserted_at (place_of key (key x) l) x l)
          (all_inserted (place_of key (key x) l) x l (leb-false (key x) (key y) e) (rising_above y l a)) r

  -- the row of a key
  abbrev pub is_key : ℕ → A → Bool
  is_key n x = eqb (key x) n

  pub no_key : (n : ℕ) (l : List A) → has (is_key n) l ≡ false → All (λ y. key y ≡ n → ⊥) l
  no_key n l e = all_weaker (λ y q. eqb-false (key y) n q) l (has_none (is_key n) l e)

  pub key_none : (n : ℕ) (l : List A) → All (λ y. key y ≡ n → ⊥) l → has (is_key n) l ≡ false
  key_none n l r = none_has (is_key n) l (all_weaker (λ y f. ne_eqb (key y) n f) l r)

  pub found_key : (n : ℕ) (l : List A) (d : A) → has (is_key n) l ≡ true → In (get_or l (find_key key n l) d) l × (key (get_or l (find_key key n l) d) ≡ n)
  found_key n l d e = let r = first_found (is_key n) l d e in (r.0, eqb-true (key (get_or l (find_key key n l) d)) n r.1)

  pub key_found : {x : A} (l : List A) (d : A) → Rises l → In x l → (has (is_key (key x)) l ≡ true) × (get_or l (find_key key (key x) l) d ≡ x)
  key_found {x} l d r m = found (is_key (key x)) l d m (eq-eqb (key x) (key x) refl) (λ y n e. one_of_key l r n m (eqb-true (key y) (key x) e))

-- a mapped list rises where the mapped keys do
pub rising_map : {A B : Type 0} (f : A → B) (key : A → ℕ) (key' : B → ℕ) → ((x y : A) → key x < key y → key' (f x) < key' (f y)) → (l : List A) → rising key l ≡ true → rising key' (map f l) ≡ true
unfolding rising
rising_map f key key' h [] e = refl
rising_map f key key' h (x ∷ []) e = refl
rising_map f key key' h (x ∷ y ∷ l) e =
    rw (lt-ltb (key' (f x)) (key' (f y)) (h x y (ltb-true (key x) (key y) (and_left _ _ e))))
    (rising_map f key key' h (y ∷ l) (and_right (ltb (key x) (key y)) _ e))
