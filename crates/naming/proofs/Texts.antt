-- Pieces of text in a row. Assumes nothing.
use Prim.Native.Nat.{ℕ}
use mathlib.Core.Path.{◌≡◌}
use mathlib.Core.List.{List, ◌++◌, append_assoc}

-- a word, a number and its end, twice
pub itt_pieces : (a d b e i f : List ℕ) → (a ++ d ++ b) ++ (e ++ i ++ f) ≡ (a ++ d ++ (b ++ e) ++ i) ++ f
itt_pieces a d b e i f = simp append_assoc
