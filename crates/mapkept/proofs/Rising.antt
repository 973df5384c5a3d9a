-- Lists whose keys rise: edits keep them so, and a search for a row's key finds the row.
use Prim.Native.Nat.{ℕ, zero, suc, ◌<◌}
use native.Mathlib.Nat.{not-suc-le-zero, le_of_suc-le-suc}
use native.Mathlib.Omega.{arith}
use mathlib.Core.Path.{◌≡◌, refl, sym, ap, ◌∙◌}
use mathlib.Core.Bool.{Bool, true, false, ◌&&◌}
use mathlib.Core.List.{List, [], ◌∷◌, map}
use lib.ListN.{length, get_or, set}
use lib.Seq.{map-set_same}
use lib.Dec.{ltb, leb, eqb}
use borrow.Author.Tests.{ltb-true, lt-ltb, leb-true, leb-false, eqb-true, eqb-false, eq-eqb, ne_eqb}
use Rattle.lists.specs.Rows.{choose, find_ix}
use Rattle.lists.proofs.All.{All, none, more, all_at}
use Rattle.areas.proofs.Tests.{clash, and_left, and_right}
use Rattle.areas.proofs.Has.{has}
use Rattle.kept.proofs.Choice.{and_both}
use Rattle.mapping.specs.Mapped.{find_key, place_of, inserted_at, removed_at, kept, rising}
use Rattle.mapkept.proofs.Edits.{all_weaker, all_inserted, all_removed, all_kept, Same, same_inserted, same_removed, has_none, has_first}

module _ {A : Type 0} (key : A → ℕ) where
  -- whether a row has a key
  abbrev pub keyed : ℕ → A → Bool
  keyed k x = eqb (key x) k

  -- every key after a row is above its own
  abbrev Rises : List A → Type 0
  Rises [] = Unit {0}
  Rises (x ∷ l) = All (λ y. key x < key y) l × Rises l

  rises : (l : List A) → rising key l ≡ true → Rises l
  unfolding rising
  rises [] e = tt
  rises (x ∷ []) e = (none, tt)
  rises (x ∷ y ∷ l) e =
      let h = ltb-true (key x) (key y) (and_left (ltb (key x) (key y)) (rising key (y ∷ l)) e) in
      let r = rises (y ∷ l) (and_right (ltb (key x) (key y)) (rising key (y ∷ l)) e) in
      (more h (all_weaker (λ z g. omega arith) l r.0), r)

  risen : (l : List A) → Rises l → rising key l ≡ true
  unfolding rising
  risen [] r = refl
  risen (x ∷ []) r = refl
  risen (x ∷ y ∷ l) r = and_both (lt-ltb (key x) (key y) (all_at (y ∷ l) 0 x r.0 (omega arith))) (risen (y ∷ l) r.1)

  -- one row less
  rises_removed : (i : ℕ) (l : List A) → Rises l → Rises (removed_at i l)
  unfolding removed_at
  rises_removed zero [] r = tt
  rises_removed (suc i) [] r = tt
  rises_removed zero (x ∷ l) r = r.1
  rises_removed (suc i) (x ∷ l) r = (all_removed i l r.0, rises_removed i l r.1)

  rises_kept : (q : A → Bool) (l : List A) → Rises l → Rises (kept q l)
  unfolding kept
  rises_kept q [] r = tt
  rises_kept q (x ∷ l) r = by (q x) (rises_kept q l r.1)
    where
      by : (b : Bool) → Rises (kept q l) → Rises (choose b (x ∷ kept q l) (kept q l))
      by true s = (all_kept q (λ y g _. g) l r.0, s)
      by false s = s

  -- one row more, at its place
  rises_inserted : (x : A) (l : List A) → Rises l → All (λ y. keyed (key x) y ≡ false) l → Rises (inserted_at (place_of key (key x) l) x l)
  unfolding inserted_at find_ix
  rises_inserted x [] r n = (none, tt)
  rises_inserted x (y ∷ l) r (more e n) = by (leb (key x) (key y)) refl (rises_inserted x l r.1 n)
    where
      by : (b : Bool) → leb (key x) (key y) ≡ b → Rises (inserted_at (place_of key (key x) l) x l) → Rises (inserted_at (choose b 0 (suc (place_of key (key x) l))) x (y ∷ l))
      by true q s =
          let h = leb-true (key x) (key y) q in
          let d = eqb-false (key y) (key x) e in
          let g : key x < key y = omega arith in
          (more g (all_weaker (λ z k. omega arith) l r.0), r)
      by false q s = (all_inserted (place_of key (key x) l) x l (leb-false (key x) (key y) q) r.0, s)

  -- a row and its key
  found_row : (l : List A) (i : ℕ) (d : A) → Rises l → i < length l → find_key key (key (get_or l i d)) l ≡ i
  unfolding find_ix
  found_row [] i d r h = absurd (not-suc-le-zero h)
  found_row (x ∷ l) zero d r h = rw (eq-eqb (key x) (key x) refl)
  found_row (x ∷ l) (suc i) d r h =
      let g = le_of_suc-le-suc h in
      let a : key x < key (get_or l i d) = all_at l i d r.0 g in
      rw (ne_eqb (key x) (key (get_or l i d)) (omega arith)) (ap suc (found_row l i d r.1 g))

  -- only the keys matter
  rising_keys : (l : List A) → rising key l ≡ rising (λ n. n) (map key l)
  unfolding rising
  rising_keys [] = refl
  rising_keys (x ∷ []) = refl
  rising_keys (x ∷ y ∷ l) = ap (λ (b : Bool). ltb (key x) (key y) && b) (rising_keys (y ∷ l))

  pub rising_inserted : (x : A) (l : List A) → has (keyed (key x)) l ≡ false → rising key l ≡ true → rising key (inserted_at (place_of key (key x) l) x l) ≡ true
  rising_inserted x l n e = risen _ (rises_inserted x l (rises l e) (has_none (keyed (key x)) l n))

  pub rising_removed : (i : ℕ) (l : List A) → rising key l ≡ true → rising key (removed_at i l) ≡ true
  rising_removed i l e = risen _ (rises_removed i l (rises l e))

  pub rising_kept : (q : A → Bool) (l : List A) → rising key l ≡ true → rising key (kept q l) ≡ true
  rising_kept q l e = risen _ (rises_kept q l (rises l e))

  -- another row with the same key
  pub rising_set : (l : List A) (i : ℕ) (x d : A) → key x ≡ key (get_or l i d) → rising key (set l i x) ≡ rising key l
  rising_set l i x d e = rising_keys (set l i x) ∙ ap (rising (λ n. n)) (map-set_same key l i x d e) ∙ sym (rising_keys l)

  -- a search for the key of a row finds the row
  pub find_row : (l : List A) (i : ℕ) (d : A) → rising key l ≡ true → i < length l → find_key key (key (get_or l i d)) l ≡ i
  find_row l i d e h = found_row l i d (rises l e) h

  -- the row that is found has the key that is sought
  pub found_key : (k : ℕ) (l : List A) (d : A) → has (keyed k) l ≡ true → key (get_or l (find_key key k l) d) ≡ k
  found_key k l d h = eqb-true (key (get_or l (find_key key k l) d)) k (has_first (keyed k) l d h)

  -- a search for another key comes to the same once a row is put in, or taken out
  pub same_with : (i : ℕ) (x : A) (k : ℕ) (l : List A) → has (keyed (key x)) l ≡ false → has (keyed k) l ≡ true → Same (keyed k) (inserted_at i x l) l
  same_with i x k l n h = same_inserted (keyed k) i x l (ne_eqb (key x) k (λ e. clash h (ap (λ (j : ℕ). has (keyed j) l) (sym e) ∙ n)))

  pub same_without : (j k : ℕ) (l : List A) (d : A) → has (keyed j) l ≡ true → (k ≡ j → ⊥) → Same (keyed k) (removed_at (find_key key j l) l) l
  same_without j k l d h n =
      let i = find_key key j l in
      same_removed (keyed k) i l d (ltb-true i (length l) h) (ne_eqb (key (get_or l i d)) k (λ e. n (sym e ∙ found_key j l d h)))
