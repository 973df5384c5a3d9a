-- Which numbers are registered among the rows of a table, and the word of each.
use Rattle.std.specs.Prelude.{ℕ, Bool, true, ◌&&◌, not, List, [], ◌∷◌, length, get_or, ltb, eqb, Option, Some, None}
use Rattle.lists.specs.Rows.{find_ix, choose}
use Rattle.xicsrows.specs.XicsLayout.{Row}

-- Notation: what stands past the last row
abbrev pub no_row : Row
no_row = record { number = 0; word = 0 }

-- Notation: a row has the number
abbrev pub has_number : ℕ → Row → Bool
has_number n r = eqb r.number n

-- §14.1: the index of the row with the number, or how many rows there are
unfoldable pub index_of : ℕ → List Row → ℕ
index_of n l = find_ix (has_number n) l

-- §14.1: the number is registered
unfoldable pub registered : ℕ → List Row → Bool
registered n l = ltb (index_of n l) (length l)

-- Inner: the index of the row with the number, if there is one
abbrev pub row_with : ℕ → List Row → Option ℕ
row_with n l = choose (registered n l) (Some (index_of n l)) None

-- §14.1: the word of the source or the server with the number
unfoldable pub word_of : ℕ → List Row → ℕ
word_of n l = (get_or l (index_of n l) no_row).word

-- §14.12: no number occurs twice
unfoldable pub distinct : List Row → Bool
distinct [] = true
distinct (r ∷ l) = not (registered r.number l) && distinct l
