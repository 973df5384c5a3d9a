-- Little endian words in a list of bytes, and tables of rows of equal size.
use Rattle.std.specs.Prelude.{ℕ, zero, suc, ◌+◌, ◌*◌, ◌/◌, ◌%◌, ◌^◌, ◌<◌, ◌≡◌, List, [], ◌∷◌, ◌++◌, take, drop, length}

-- §1.7, §2.8, §6.1: little endian: the number whose bytes these are, lowest first
unfoldable pub le : List ℕ → ℕ
le [] = 0
le (b ∷ bs) = b + le bs * 256

-- §1.7, §2.8, §6.1: the way back: the n lowest bytes of v, lowest first
unfoldable pub bytes_of : ℕ → ℕ → List ℕ
bytes_of zero v = []
bytes_of (suc n) v = v % 256 ∷ bytes_of n (v / 256)

-- Notation: the number of n bytes from index at
unfoldable pub le_at : List ℕ → ℕ → ℕ → ℕ
le_at s at n = le (take n (drop at s))

-- Inner: r is that number, and fits in n bytes
pub record Read (s : List ℕ) (at n r : ℕ) : Type 0 where
  pub is : r ≡ le_at s at n
  pub fits : r < 256 ^ n

-- Notation: s with the bytes bs at index at; no other byte changes
unfoldable pub put_at : List ℕ → ℕ → List ℕ → List ℕ
put_at s at bs = take at s ++ bs ++ drop (at + length bs) s

module _ {A : Type 0} where
  -- Notation: the rows that n runs of z bytes stand for, one after the other
  unfoldable pub rows_of : (List ℕ → A) → ℕ → ℕ → List ℕ → List A
  rows_of p z zero s = []
  rows_of p z (suc n) s = p (take z s) ∷ rows_of p z n (drop z s)

  -- Notation: the bytes of all rows, one after the other
  unfoldable pub bytes_all : (A → List ℕ) → List A → List ℕ
  bytes_all b [] = []
  bytes_all b (x ∷ xs) = b x ++ bytes_all b xs
