-- What stands in the bytes after a word was put, a row added or reworded: that, and in every other place what stood there. Assumes nothing.
use Prim.Native.Nat.{ℕ, zero, suc, ◌+◌, ◌*◌, ◌^◌, ◌<◌, ◌≤◌}
use native.Mathlib.Nat.{not-suc-le-zero}
use native.Mathlib.Omega.{arith}
use mathlib.Core.Path.{◌≡◌, refl, sym, ap, ap₂, ◌∙◌, subst}
use mathlib.Core.Logic.{◌⊎◌, inl, inr, ⊎_elim}
use mathlib.Core.Bool.{true}
use mathlib.Core.List.{List, [], ◌∷◌, ◌++◌}
use lib.ListN.{length, get_or, set, take, drop, length-append, length-set, get_or-append}
use lib.Seq.{get_or-append_seam, get_or-set_same, get_or-set_other}
use borrow.Author.Tests.{le-leb}
use Rattle.lists.proofs.All.{all_append, all_take, all_drop}
use Rattle.areas.proofs.Tests.{lt_or_ge}
use Rattle.words.specs.Words.{le, le_at, bytes_of, put_at}
use Rattle.words.proofs.Laws.{length-bytes_of, length-put_at, drop-put_at-here, drop-put_at-past}
use Rattle.words.proofs.Back.{word_here}
use Rattle.words.proofs.Alike.{take-put_at-before, le_at-alike, le_at-alike-past}
use Rattle.words.proofs.Bytes.{Bytes, bytes_of-bytes}
use Rattle.xicsrows.specs.XicsLayout.{size, server, source, count_at, rows_at, Row, table, put_word, added, worded, cleared, counts_ok}
use Rattle.xicsrows.specs.Registered.{no_row}
use Rattle.xicsrows.proofs.Numbers.{same_or_not}
use Rattle.xicsrows.proofs.InPlace.{row_at, count_is, row_is, table_by}

-- one word: it is read again, every other one is what it was, and no byte comes or goes
module _ (s : List ℕ) (at w : ℕ) (f : at + 8 ≤ length s) where
  pub length_put : length (put_word s at w) ≡ length s
  unfolding put_word
  length_put = let l = length-bytes_of 8 w in length-put_at s at (bytes_of 8 w) (omega arith)

  pub bytes_put : Bytes s → Bytes (put_word s at w)
  unfolding put_word put_at
  bytes_put b = all_append (take at s ++ bytes_of 8 w) (all_append (take at s) (all_take at s b) (bytes_of-bytes 8 w)) (all_drop (at + length (bytes_of 8 w)) s b)

  pub word_same : w < 256 ^ 8 → le_at (put_word s at w) at 8 ≡ w
  unfolding put_word le_at
  word_same h =
      ap (λ (x : List ℕ). le (take 8 x)) (drop-put_at-here s at (bytes_of 8 w) (omega arith))
      ∙ word_here 8 w (drop (at + length (bytes_of 8 w)) s) h

  pub word_else : (q : ℕ) → (q + 8 ≤ at) ⊎ (at + 8 ≤ q) → le_at (put_word s at w) q 8 ≡ le_at s q 8
  unfolding put_word
  word_else q e =
      let l = length-bytes_of 8 w in
      ⊎_elim
      (λ h. le_at-alike (put_at s at (bytes_of 8 w)) s at (take-put_at-before s at (bytes_of 8 w) at (omega arith) (omega arith)) q 8 h)
      (λ h. le_at-alike-past (put_at s at (bytes_of 8 w)) s (at + 8) (drop-put_at-past s at (bytes_of 8 w) (at + 8) (omega arith) f) q 8 h)
      e

-- a place of a word that is neither the number of rows of table u nor in its rows
pub record Apart (u at : ℕ) : Type 0 where
  pub count : (count_at u + 8 ≤ at) ⊎ (at + 8 ≤ count_at u)
  pub rows : (rows_at u + 1024 ≤ at) ⊎ (at + 8 ≤ rows_at u)

-- a word put elsewhere leaves a table
pub table_else : (u : ℕ) (s : List ℕ) (at w : ℕ) → length (table u s) ≤ 64 → at + 8 ≤ length s → Apart u at → table u (put_word s at w) ≡ table u s
table_else u s at w few f a =
    table_by u (put_word s at w) (table u s) (word_else s at w f (count_at u) a.count ∙ count_is u s)
    (λ i h. ap₂ (λ (n v : ℕ). record { number = n; word = v })
    (word_else s at w f (rows_at u + i * 16) (⊎_elim (λ p. inl (omega arith)) (λ p. inr (omega arith)) a.rows))
    (word_else s at w f (rows_at u + i * 16 + 8) (⊎_elim (λ p. inl (omega arith)) (λ p. inr (omega arith)) a.rows))
    ∙ sym (row_is u s i h))

-- the places of one table are apart from the other
pub apart_count : (t u : ℕ) → t ≤ 1 → u ≤ 1 → (t ≡ u → ⊥) → Apart u (count_at t)
apart_count zero zero a b d = absurd (d refl)
apart_count zero (suc zero) a b d = record { count = inr (omega arith); rows = inr (omega arith) }
apart_count (suc zero) zero a b d = record { count = inl (omega arith); rows = inr (omega arith) }
apart_count (suc zero) (suc zero) a b d = absurd (d refl)
apart_count zero (suc (suc u)) a b d = absurd (omega arith)
apart_count (suc zero) (suc (suc u)) a b d = absurd (omega arith)
apart_count (suc (suc t)) u a b d = absurd (omega arith)

pub apart_row : (t u at : ℕ) → t ≤ 1 → u ≤ 1 → (t ≡ u → ⊥) → rows_at t ≤ at → at + 8 ≤ rows_at t + 1024 → Apart u at
apart_row zero zero at a b d h g = absurd (d refl)
apart_row zero (suc zero) at a b d h g = record { count = inl (omega arith); rows = inr (omega arith) }
apart_row (suc zero) zero at a b d h g = record { count = inl (omega arith); rows = inl (omega arith) }
apart_row (suc zero) (suc zero) at a b d h g = absurd (d refl)
apart_row zero (suc (suc u)) at a b d h g = absurd (omega arith)
apart_row (suc zero) (suc (suc u)) at a b d h g = absurd (omega arith)
apart_row (suc (suc t)) u at a b d h g = absurd (omega arith)

ne_lt : (a b : ℕ) → a ≤ b → (a ≡ b → ⊥) → a < b
ne_lt a b p e = ⊎_elim (λ q. q) (λ q. absurd (e (omega arith))) (lt_or_ge a b)

-- one of the tables, with the bytes of the right length and few rows in it
module _ (t : ℕ) (s : List ℕ) (low : t ≤ 1) (long : length s ≡ size) (few : length (table t s) ≤ 64) where
  -- another word in a row
  module _ (i w : ℕ) (h : i < length (table t s)) where
    place : ℕ
    place = rows_at t + i * 16 + 8

    inside : place + 8 ≤ length s
    unfolding place
    inside = omega arith

    pub length_worded : length (worded t i w s) ≡ length s
    unfolding worded place
    length_worded = length_put s place w inside

    pub bytes_worded : Bytes s → Bytes (worded t i w s)
    unfolding worded place
    bytes_worded b = bytes_put s place w inside b

    abbrev pub reworded : Row
    reworded = record { number = (get_or (table t s) i no_row).number; word = w }

    number_else : (k : ℕ) → k < length (table t s) → le_at (put_word s place w) (rows_at t + k * 16) 8 ≡ le_at s (rows_at t + k * 16) 8
    unfolding place
    number_else k g = word_else s place w inside (rows_at t + k * 16) (⊎_elim (λ p. inr (omega arith)) (λ p. inl (omega arith)) (lt_or_ge i k))

    same : w < 256 ^ 8 → row_at t i (put_word s place w) ≡ get_or (set (table t s) i reworded) i no_row
    unfolding place
    same b =
        ap₂ (λ (n v : ℕ). record { number = n; word = v })
        (number_else i h ∙ sym (ap (λ (x : Row). x.number) (row_is t s i h)))
        (word_same s place w inside b)
        ∙ sym (get_or-set_same (table t s) i reworded no_row h)

    other : (k : ℕ) → k < length (table t s) → (k ≡ i → ⊥) → row_at t k (put_word s place w) ≡ get_or (set (table t s) i reworded) k no_row
    unfolding place
    other k g d =
        ap₂ (λ (n v : ℕ). record { number = n; word = v })
        (number_else k g)
        (word_else s place w inside (rows_at t + k * 16 + 8) (⊎_elim (λ p. inr (omega arith)) (λ p. inl (below p)) (lt_or_ge i k)))
        ∙ sym (row_is t s k g) ∙ sym (get_or-set_other (table t s) i k reworded no_row d)
      where
        below : k ≤ i → rows_at t + k * 16 + 8 + 8 ≤ rows_at t + i * 16 + 8
        below p = let q = ne_lt k i p d in omega arith

    pub table_worded : w < 256 ^ 8 → table t (worded t i w s) ≡ set (table t s) i reworded
    unfolding worded place
    table_worded b =
        table_by t (put_word s place w) (set (table t s) i reworded)
        (word_else s place w inside (count_at t) (inl (omega arith)) ∙ count_is t s ∙ sym (length-set (table t s) i reworded))
        (λ k g. let g' : k < length (table t s) = subst (λ (n : ℕ). k < n) (length-set (table t s) i reworded) g in
        ⊎_elim
        (λ e. subst (λ (n : ℕ). row_at t n (put_word s place w) ≡ get_or (set (table t s) i reworded) n no_row) (sym e) (same b))
        (λ d. other k g' d)
        (same_or_not k i))

    pub worded_else : (u : ℕ) → u ≤ 1 → (t ≡ u → ⊥) → length (table u s) ≤ 64 → table u (worded t i w s) ≡ table u s
    unfolding worded place
    worded_else u low' d few' = table_else u s place w few' inside (apart_row t u place low low' d (omega arith) (omega arith))

  -- one row more
  module _ (number word : ℕ) (room : length (table t s) < 64) where
    n : ℕ
    n = length (table t s)

    row : ℕ
    row = rows_at t + n * 16

    s₁ : List ℕ
    s₁ = put_word s row number

    s₂ : List ℕ
    s₂ = put_word s₁ (row + 8) word

    in₁ : row + 8 ≤ length s
    unfolding row n
    in₁ = omega arith

    long₁ : length s₁ ≡ length s
    unfolding s₁
    long₁ = length_put s row number in₁

    in₂ : row + 8 + 8 ≤ length s₁
    unfolding row n
    in₂ = let l = long₁ in omega arith

    long₂ : length s₂ ≡ length s₁
    unfolding s₂
    long₂ = length_put s₁ (row + 8) word in₂

    in₃ : count_at t + 8 ≤ length s₂
    in₃ = let l = long₁ in let m = long₂ in omega arith

    is_added : added t number word s ≡ put_word s₂ (count_at t) (n + 1)
    unfolding added s₂ s₁ row n
    is_added = refl

    pub length_added : length (added t number word s) ≡ length s
    length_added = ap length is_added ∙ length_put s₂ (count_at t) (n + 1) in₃ ∙ long₂ ∙ long₁

    pub bytes_added : Bytes s → Bytes (added t number word s)
    unfolding s₁ s₂
    bytes_added b = subst Bytes (sym is_added) (bytes_put s₂ (count_at t) (n + 1) in₃ (bytes_put s₁ (row + 8) word in₂ (bytes_put s row number in₁ b)))

    abbrev pub one : Row
    one = record { number = number; word = word }

    -- a word of the rows, by what the second store leaves
    past : (q : ℕ) → 16 ≤ q → le_at (put_word s₂ (count_at t) (n + 1)) q 8 ≡ le_at s₂ q 8
    past q h = word_else s₂ (count_at t) (n + 1) in₃ q (inr (omega arith))

    older : (k : ℕ) → k < n → row_at t k (put_word s₂ (count_at t) (n + 1)) ≡ get_or (table t s ++ (one ∷ [])) k no_row
    unfolding s₁ s₂ row n
    older k g =
        ap₂ (λ (a b : ℕ). record { number = a; word = b })
        (past (rows_at t + k * 16) (omega arith)
        ∙ word_else s₁ (row + 8) word in₂ (rows_at t + k * 16) (inl (omega arith))
        ∙ word_else s row number in₁ (rows_at t + k * 16) (inl (omega arith)))
        (past (rows_at t + k * 16 + 8) (omega arith)
        ∙ word_else s₁ (row + 8) word in₂ (rows_at t + k * 16 + 8) (inl (omega arith))
        ∙ word_else s row number in₁ (rows_at t + k * 16 + 8) (inl (omega arith)))
        ∙ sym (row_is t s k g) ∙ sym (get_or-append (table t s) (one ∷ []) no_row k g)

    newest : number < 256 ^ 8 → word < 256 ^ 8 → row_at t n (put_word s₂ (count_at t) (n + 1)) ≡ get_or (table t s ++ (one ∷ [])) n no_row
    unfolding s₁ s₂ row n
    newest a b =
        ap₂ (λ (x y : ℕ). record { number = x; word = y })
        (past row (omega arith)
        ∙ word_else s₁ (row + 8) word in₂ row (inl (omega arith))
        ∙ word_same s row number in₁ a)
        (past (row + 8) (omega arith) ∙ word_same s₁ (row + 8) word in₂ b)
        ∙ sym (get_or-append_seam (table t s) one [] no_row)

    pub table_added : number < 256 ^ 8 → word < 256 ^ 8 → table t (added t number word s) ≡ table t s ++ (one ∷ [])
    unfolding n
    table_added a b =
        let m : length (table t s ++ (one ∷ [])) ≡ n + 1 = length-append (table t s) (one ∷ []) in
        ap (table t) is_added
        ∙ table_by t (put_word s₂ (count_at t) (n + 1)) (table t s ++ (one ∷ []))
        (word_same s₂ (count_at t) (n + 1) in₃ (omega arith) ∙ sym m)
        (λ k g. ⊎_elim
        (λ h. older k h)
        (λ h. let e : n ≡ k = omega arith in
        subst (λ (x : ℕ). row_at t x (put_word s₂ (count_at t) (n + 1)) ≡ get_or (table t s ++ (one ∷ [])) x no_row) e (newest a b))
        (lt_or_ge k n))

    pub added_else : (u : ℕ) → u ≤ 1 → (t ≡ u → ⊥) → length (table u s) ≤ 64 → table u (added t number word s) ≡ table u s
    unfolding s₁ s₂ row n
    added_else u low' d few' =
        let e₁ : table u s₁ ≡ table u s = table_else u s row number few' in₁ (apart_row t u row low low' d (omega arith) (omega arith)) in
        let e₂ : table u s₂ ≡ table u s₁ =
        table_else u s₁ (row + 8) word (rw e₁ few') in₂ (apart_row t u (row + 8) low low' d (omega arith) (omega arith)) in
        ap (table u) is_added ∙ table_else u s₂ (count_at t) (n + 1) (rw (e₂, e₁) few') in₃ (apart_count t u low low' d) ∙ e₂ ∙ e₁

-- no row
module _ (s : List ℕ) (long : length s ≡ size) where
  s₀ : List ℕ
  s₀ = put_word s (count_at server) 0

  long₀ : length s₀ ≡ length s
  unfolding s₀
  long₀ = length_put s (count_at server) 0 (omega arith)

  is_cleared : cleared s ≡ put_word s₀ (count_at source) 0
  unfolding cleared s₀
  is_cleared = refl

  in₀ : count_at source + 8 ≤ length s₀
  in₀ = let l = long₀ in omega arith

  pub length_cleared : length (cleared s) ≡ length s
  length_cleared = ap length is_cleared ∙ length_put s₀ (count_at source) 0 in₀ ∙ long₀

  pub bytes_cleared : Bytes s → Bytes (cleared s)
  unfolding s₀
  bytes_cleared b = subst Bytes (sym is_cleared) (bytes_put s₀ (count_at source) 0 in₀ (bytes_put s (count_at server) 0 (omega arith) b))

  pub servers_cleared : table server (cleared s) ≡ []
  unfolding s₀
  servers_cleared =
      table_by server (cleared s) []
      (ap (λ (x : List ℕ). le_at x (count_at server) 8) is_cleared
      ∙ word_else s₀ (count_at source) 0 in₀ (count_at server) (inl (omega arith))
      ∙ word_same s (count_at server) 0 (omega arith) (omega arith))
      (λ i h. absurd (not-suc-le-zero h))

  pub sources_cleared : table source (cleared s) ≡ []
  sources_cleared =
      table_by source (cleared s) []
      (ap (λ (x : List ℕ). le_at x (count_at source) 8) is_cleared ∙ word_same s₀ (count_at source) 0 in₀ (omega arith))
      (λ i h. absurd (not-suc-le-zero h))

-- tables with few rows each pass the test of their numbers
pub counts_few : (s : List ℕ) → length (table server s) ≤ 64 → length (table source s) ≤ 64 → counts_ok s ≡ true
unfolding counts_ok
counts_few s a b = rw (count_is server s, count_is source s, le-leb _ _ a, le-leb _ _ b)
