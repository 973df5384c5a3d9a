-- Rows that a closure reads by their index, as a list.
use Rattle.std.specs.Prelude.{ℕ, ◌≡◌, List, length, get_or}

-- Inner: n rows, as many as the list has; what a call answers at an index is the list's row there. d stands for a row that is not there
pub record Reads {A : Type 0} (gives : ℕ → A → Type 0) (n : ℕ) (l : List A) (d : A) : Type 0 where
  pub count : n ≡ length l
  pub row : (i : ℕ) (x : A) → gives i x → x ≡ get_or l i d
