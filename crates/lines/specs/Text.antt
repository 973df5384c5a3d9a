-- Text as the list of its bytes, and numbers as text.
use Rattle.std.specs.Prelude.{ℕ, zero, suc, ◌+◌, ◌/◌, ◌%◌, ◌≤◌, ◌≡◌, List, [], ◌∷◌, ◌++◌, length, ltb}
use Prim.Native.Char.{code}
use Prim.Native.String.{String, [] as none, ◌∷◌ as ◌then◌}
use Rattle.lists.specs.Rows.{choose}
use Rattle.io.specs.Digits.{hex_digit_ascii}

-- Notation: the ASCII codes of a text
abbrev pub ascii : String → List ℕ
ascii none = []
ascii (c then s) = code c ∷ ascii s

-- §11.2: n in base b, at most so many digits: the last digit, after those of n / b unless n is below b, so that none leads with 0. A
-- digit is 0 to 9, then a to f.
unfoldable pub spelled : ℕ → ℕ → ℕ → List ℕ
spelled b zero n = []
spelled b (suc left) n =
    let front = spelled b left (n / b) in
    choose (ltb n b) [] front ++ (hex_digit_ascii (n % b) ∷ [])

-- §11.2: decimal, and hexadecimal without 0x; no number n has more than n + 1 digits
abbrev pub decimal : ℕ → List ℕ
decimal n = spelled 10 (suc n) n

abbrev pub hexadecimal : ℕ → List ℕ
hexadecimal n = spelled 16 (suc n) n

module _ {A : Type 0} where
  -- Notation: a line for each row
  unfoldable pub lines : (A → List ℕ) → List A → List ℕ
  lines line [] = []
  lines line (x ∷ xs) = line x ++ lines line xs

-- Inner: the promise of the code that puts text: it stands behind what was there before, and takes at most so much room
pub record Adds (before text : List ℕ) (room : ℕ) (after : List ℕ) : Type 0 where
  pub is : after ≡ before ++ text
  pub most : length after ≤ length before + room
