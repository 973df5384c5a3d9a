-- The loops over the rows of a table: those that ask whether keys rise, and those that test each row. `n` is the number that the code
-- read, and `l` the rows that the bytes stand for. Assumes nothing.
use Prim.Native.Nat.{ℕ, zero, suc, ◌+◌, ◌-◌, ◌≤◌, ◌<◌}
use native.Mathlib.Nat.{not-suc-le-zero}
use native.Mathlib.Numerals.{add-one}
use native.Mathlib.Omega.{arith}
use mathlib.Core.Path.{◌≡◌, sym, ap, ◌∙◌}
use mathlib.Core.Bool.{Bool, true, false}
use mathlib.Core.List.{List, ◌∷◌}
use lib.ListN.{length, get_or, take, drop, drop_of_length-le}
use lib.Seq.{drop-cons, take_all}
use lib.Dec.{ltb, eqb}
use Rattle.std.specs.List.{list_all, range_with_len}
use borrow.Author.Count.{below_more}
use borrow.Author.Tests.{eq-eqb, ne_eqb}
use Rattle.lists.specs.Rows.{all}
use Rattle.lists.proofs.Find.{all_fails, all_hold}
use Rattle.mapping.specs.Mapped.{find_key, rising}
use Rattle.mapping.proofs.Table.{Seeking, seek_turn, seek_here, seek_end}

-- what is left from the row at i on
pub left_from : {A : Type 0} (d : A) (l : List A) (i : ℕ) → i < length l → drop i l ≡ get_or l i d ∷ drop (i + 1) l
left_from d l i h = rw add-one (drop-cons l i d h)

-- a search by key among as many rows as there are
module _ {A : Type 0} (key : A → ℕ) (k : ℕ) (d : A) (n : ℕ) (l : List A) where
  abbrev pub SeekingKey : ℕ → Type 0
  SeekingKey i = Seeking (λ x. eqb (key x) k) d n l i

  whole : {at : ℕ} → n ≡ length l → at ≡ find_key key k (take n l) → at ≡ find_key key k l
  whole e q = q ∙ ap (find_key key k) (take_all n l (omega arith))

  module _ (i : ℕ) (v : SeekingKey i) where
    pub key_here : {x : A} → n ≡ length l → x ≡ get_or l i d → i < n → key x ≡ k → i ≡ find_key key k l
    key_here e r h t = whole e (seek_here (λ x. eqb (key x) k) d n l i v h (eq-eqb (key (get_or l i d)) k (ap key (sym r) ∙ t)))

    pub key_turn : {x : A} → x ≡ get_or l i d → i < n → (key x ≡ k → ⊥) → SeekingKey (i + 1)
    key_turn r h t = seek_turn (λ x. eqb (key x) k) d n l i v h (ne_eqb (key (get_or l i d)) k (λ e. t (ap key r ∙ e)))

    pub key_end : n ≡ length l → n ≤ i → n ≡ find_key key k l
    key_end e h = whole e (seek_end (λ x. eqb (key x) k) d n l i v h)

-- a test of each index, where it is the test of the row there
module _ {A : Type 0} (p : A → Bool) (d : A) (l : List A) where
  abbrev at : ℕ → Bool
  at j = p (get_or l j d)

  all_from : (n i : ℕ) → i + n ≡ length l → list_all at (range_with_len i n) ≡ all p (drop i l)
  unfolding all
  all_from zero i h = rw (drop_of_length-le l {i = i} (omega arith))
  all_from (suc n) i h = rw (left_from d l i (omega arith), all_from n (i + 1) (omega arith))

  pub all_rows : {n : ℕ} → n ≡ length l → list_all at (range_with_len 0 (n - 0)) ≡ all p l
  all_rows {n} e = all_from (n - 0) 0 (omega arith)

-- keys rise where each is above the one before
module _ {A : Type 0} (key : A → ℕ) (d : A) (l : List A) where
  abbrev above : ℕ → Bool
  above j = ltb (key (get_or l (j - 1) d)) (key (get_or l j d))

  rise_from : (n i : ℕ) → i + 1 + n ≡ length l → list_all above (range_with_len (i + 1) n) ≡ rising key (drop i l)
  unfolding rising
  rise_from zero i h = rw (left_from d l i (omega arith), drop_of_length-le l {i = i + 1} (omega arith))
  rise_from (suc n) i h =
      let f : i + 1 - 1 ≡ i = omega arith in
      let r : list_all above (range_with_len (i + 1 + 1) n) ≡ rising key (drop (i + 1) l) = rise_from n (i + 1) (omega arith) in
      rw (f, r, left_from d l i (omega arith), left_from d l (i + 1) (omega arith))

  pub keys_above : {n : ℕ} → n ≡ length l → list_all above (range_with_len 1 (n - 1)) ≡ rising key l
  unfolding rising
  keys_above {n = zero} e = rw (drop_of_length-le l {i = 0} (omega arith))
  keys_above {n = suc n} e = let f : suc n - 1 ≡ n = omega arith in rw f (rise_from n 0 (omega arith))

-- every row before i passes
module _ {A : Type 0} (p : A → Bool) (d : A) (n : ℕ) (l : List A) where
  pub record Passing (i : ℕ) : Type 0 where
    pub count : n ≡ length l
    pub end : i ≤ n
    pub each : (j : ℕ) → j < i → p (get_or l j d) ≡ true

  pub pass_start : n ≡ length l → Passing 0
  pass_start e = record { count = e; end = omega arith; each = λ j h. absurd (not-suc-le-zero h) }

  module _ (i : ℕ) (v : Passing i) {x : A} (e : x ≡ get_or l i d) where
    pub pass_turn : i < n → p x ≡ true → Passing (i + 1)
    pass_turn h t = record { count = v.count; end = omega arith; each = below_more _ _ v.each (ap p (sym e) ∙ t) }

    pub pass_fail : i < n → p x ≡ false → false ≡ all p l
    pass_fail h t = sym (all_fails p d l i (omega (arith, v.count)) (ap p (sym e) ∙ t))

  pub pass_end : (i : ℕ) → Passing i → n ≤ i → true ≡ all p l
  pass_end i v h = sym (all_hold p d l (λ j g. v.each j (omega (arith, v.count))))
