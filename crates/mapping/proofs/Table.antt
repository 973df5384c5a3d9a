-- The rows of a table after an edit of its array, at any type of row. Assumes nothing.
use Prim.Native.Nat.{ℕ, suc, ◌+◌, ◌-◌, ◌≤◌, ◌<◌}
use native.Mathlib.Nat.{not-suc-le-zero}
use native.Mathlib.Numerals.{add-one}
use native.Mathlib.Omega.{arith}
use mathlib.Core.Path.{◌≡◌, refl, sym, ap, ◌∙◌}
use mathlib.Core.Bool.{Bool, true, false}
use mathlib.Core.List.{List, [], ◌∷◌, ◌++◌, append-nil}
use lib.ListN.{length, get_or, set, take, drop, length-append, length-drop}
use lib.Seq.{
  take-suc,
  take-take,
  take-add,
  take_at,
  paste,
  take-paste,
  take-set-lt,
  drop_at,
  drop-cons,
  set_at,
  get_or-drop,
  get_or-append-add,
  append_snoc,
  length-take-le,
}
use borrow.Author.Count.{below_more}
use Rattle.lists.specs.Rows.{find_ix}
use Rattle.lists.proofs.Find.{row_here, row_none}
use Rattle.mapping.specs.Mapped.{inserted_at, removed_at, kept}
use Rattle.mapping.proofs.Edits.{kept_append}

module _ {A : Type 0} where
  drop_take : (n i : ℕ) (l : List A) → i ≤ n → n ≤ length l → drop i (take n l) ≡ take (n - i) (drop i l)
  drop_take n i l h f =
      let e : i + (n - i) ≡ n = omega arith in
      ap (drop i) (ap (λ (k : ℕ). take k l) (sym e) ∙ take-add i (n - i) l)
      ∙ drop_at (take i l) (take (n - i) (drop i l)) i (length-take-le i l (omega arith))

  -- another row
  pub rows_set : (n : ℕ) (l : List A) (i : ℕ) (x : A) → i < n → take n (set l i x) ≡ set (take n l) i x
  rows_set = take-set-lt

  -- the rows from i on copied one up, and a row written at i
  pub rows_moved_up : (n i : ℕ) (x : A) (l : List A) {b : List A} → b ≡ paste l (i + 1) (drop i l) (n - i) → i ≤ n → n < length l
      → take (n + 1) (set b i x) ≡ inserted_at i x (take n l)
  unfolding inserted_at
  rows_moved_up n i x l {b} e h g =
      let f : i + 1 + (n - i) ≡ n + 1 = omega arith in
      let m = length-drop i l in
      let t : take (n + 1) b ≡ take (i + 1) l ++ take (n - i) (drop i l) =
      rw (e, ← f) (take-paste l (i + 1) (drop i l) (n - i) (omega arith) (omega arith)) in
      take-set-lt (n + 1) b i x (omega arith)
      ∙ rw (t, add-one, take-suc l i x (omega arith), append_snoc (take i l) (get_or l i x) (take (n - i) (drop i l)))
      (set_at (take i l) (get_or l i x) (take (n - i) (drop i l)) x i (length-take-le i l (omega arith))
      ∙ rw (take-take i n l h, drop_take n i l h (omega arith)))

  -- the rows past i copied one down
  pub rows_moved_down : (n i : ℕ) (l : List A) {b : List A} → b ≡ paste l i (drop (i + 1) l) (n - (i + 1)) → i < n → n ≤ length l
      → take (n - 1) b ≡ removed_at i (take n l)
  unfolding removed_at
  rows_moved_down n i l {b} e h g =
      let e' : b ≡ paste l i (drop (suc i) l) (n - suc i) = rw add-one at e in
      let f : i + (n - suc i) ≡ n - 1 = omega arith in
      let m = length-drop (suc i) l in
      rw (e', ← f)
      (take-paste l i (drop (suc i) l) (n - suc i) (omega arith) (omega arith)
      ∙ rw (take-take i n l (omega arith), drop_take n (suc i) l h g))

-- a search among the first n: no row before i passes
module _ {A : Type 0} (p : A → Bool) (d : A) (n : ℕ) (l : List A) where
  pub record Seeking (i : ℕ) : Type 0 where
    pub room : n ≤ length l
    pub end : i ≤ n
    pub none : (j : ℕ) → j < i → p (get_or l j d) ≡ false

  pub seek_start : n ≤ length l → Seeking 0
  seek_start r = record { room = r; end = omega arith; none = λ j h. absurd (not-suc-le-zero h) }

  module _ (i : ℕ) (v : Seeking i) where
    pub seek_turn : i < n → p (get_or l i d) ≡ false → Seeking (i + 1)
    seek_turn h t = record { room = v.room; end = omega arith; none = below_more _ _ v.none t }

    pub seek_here : i < n → p (get_or l i d) ≡ true → i ≡ find_ix p (take n l)
    seek_here h t = sym (row_here p d n l i v.room h v.none t)

    pub seek_end : n ≤ i → n ≡ find_ix p (take n l)
    seek_end h = sym (row_none p d n l v.room (λ j g. v.none j (omega arith)))

-- the rows that pass a test, moved down in the array itself
module _ {A : Type 0} (p : A → Bool) where
  module _ (n : ℕ) (l : List A) where
    -- of the rows before i, those that pass stand before j; from j on the array is as it was
    pub record Keeping (b : List A) (j i : ℕ) : Type 0 where
      pub room : n ≤ length l
      pub end : i ≤ n
      pub below : j ≤ i
      pub count : length (kept p (take i l)) ≡ j
      pub rows : b ≡ kept p (take i l) ++ drop j l

    pub keep_start : n ≤ length l → Keeping l 0 0
    unfolding kept
    keep_start r = record { room = r; end = omega arith; below = omega arith; count = refl; rows = refl }

    -- the row at i has not been written over
    keep_same : (d : A) (b : List A) (j i : ℕ) → Keeping b j i → get_or b i d ≡ get_or l i d
    keep_same d b j i v =
        let w = v.below in
        let c = v.count in
        let e : length (kept p (take i l)) + (i - j) ≡ i = omega arith in
        let f : j + (i - j) ≡ i = omega arith in
        rw v.rows
        (ap (λ (m : ℕ). get_or (kept p (take i l) ++ drop j l) m d) (sym e)
        ∙ get_or-append-add (kept p (take i l)) (drop j l) (i - j) d
        ∙ get_or-drop j l (i - j) d
        ∙ ap (λ (m : ℕ). get_or l m d) f)

    module _ (d : A) (b : List A) (j i : ℕ) (h : i < n) (v : Keeping b j i) where
      pub keep_yes : p (get_or b i d) ≡ true → Keeping (set b j (get_or b i d)) (j + 1) (i + 1)
      unfolding kept
      keep_yes t =
          let w = v.below in
          let r = v.room in
          let c = v.count in
          let s = keep_same d b j i v in
          let e : p (get_or l i d) ≡ true = rw s at t in
          let m : kept p (take (i + 1) l) ≡ kept p (take i l) ++ (get_or l i d ∷ []) =
          rw (add-one, take-suc l i d (omega arith), kept_append p (take i l) (get_or l i d ∷ []), e) in
          record {
            room = r;
            end = omega arith;
            below = omega arith;
            count = rw (m, length-append, c);
            rows =
                rw (s, v.rows, m, drop-cons l j d (omega arith), add-one)
                (set_at (kept p (take i l)) (get_or l j d) (drop (suc j) l) (get_or l i d) j c
                ∙ sym (append_snoc (kept p (take i l)) (get_or l i d) (drop (suc j) l)));
          }

      pub keep_no : p (get_or b i d) ≡ false → Keeping b j (i + 1)
      unfolding kept
      keep_no t =
          let w = v.below in
          let r = v.room in
          let e : p (get_or l i d) ≡ false = rw (keep_same d b j i v) at t in
          let m : kept p (take (i + 1) l) ≡ kept p (take i l) =
          rw (add-one, take-suc l i d (omega arith), kept_append p (take i l) (get_or l i d ∷ []), e) (append-nil (kept p (take i l))) in
          record { room = r; end = omega arith; below = omega arith; count = rw m v.count; rows = rw m v.rows }

    pub keep_end : (b : List A) (j i : ℕ) → n ≤ i → Keeping b j i → take j b ≡ kept p (take n l)
    keep_end b j i h v =
        let f = v.end in
        let e : i ≡ n = omega arith in
        rw (v.rows, ← e) (take_at (kept p (take i l)) (drop j l) j v.count)
