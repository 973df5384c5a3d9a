-- The search of a number among the rows. Assumes nothing.
use Prim.Native.Nat.{ℕ, ◌+◌, ◌≤◌, ◌<◌}
use native.Mathlib.Omega.{arith}
use mathlib.Core.Path.{◌≡◌, refl, sym, ap, ap₂}
use mathlib.Core.Bool.{Bool, true, false}
use mathlib.Core.List.{List}
use lib.ListN.{length, get_or}
use borrow.Author.Count.{below_more}
use borrow.Author.Tests.{eq-eqb, ne_eqb}
use Rattle.std.specs.Prelude.{Some, None}
use Rattle.lists.specs.Rows.{choose}
use Rattle.lists.proofs.Find.{find_here, find_none}
use Rattle.xicsrows.specs.XicsLayout.{Row}
use Rattle.xicsrows.specs.Registered.{no_row, has_number, index_of, registered, row_with}
use Rattle.xicsrows.proofs.Numbers.{is_registered, not_registered}

-- no row before i has the number
abbrev pub NoneBefore : ℕ → List Row → ℕ → Type 0
NoneBefore number l i = (k : ℕ) → k < i → has_number number (get_or l k no_row) ≡ false

module _ (number : ℕ) (l : List Row) where
  pub seek_here : (i : ℕ) → NoneBefore number l i → i < length l → (get_or l i no_row).number ≡ number → Some i ≡ row_with number l
  unfolding index_of
  seek_here i v h q =
      let e : index_of number l ≡ i = find_here (has_number number) no_row l i h v (eq-eqb _ number q) in
      sym (ap₂ (λ (b : Bool) (k : ℕ). choose b (Some k) None) (is_registered number l (rw e h)) e)

  pub seek_turn : (i : ℕ) → NoneBefore number l i → ((get_or l i no_row).number ≡ number → ⊥) → NoneBefore number l (i + 1)
  seek_turn i v q = below_more _ i v (ne_eqb _ number q)

  pub seek_end : (i : ℕ) → NoneBefore number l i → length l ≤ i → None ≡ row_with number l
  unfolding index_of
  seek_end i v h =
      let e : index_of number l ≡ length l = find_none (has_number number) no_row l (λ k g. v k (omega arith)) in
      sym (ap (λ (b : Bool). choose b (Some (index_of number l)) None) (not_registered number l (omega arith)))

-- what the proof of the loop reads
pub ruleset seeking = (seek_here, seek_turn, seek_end)

-- the row that is found
pub found_at : (n i : ℕ) (l : List Row) → Some i ≡ row_with n l → (registered n l ≡ true) × (i ≡ index_of n l)
found_at n i l = by (registered n l) refl
  where
    by : (b : Bool) → registered n l ≡ b → Some i ≡ choose b (Some (index_of n l)) None → (registered n l ≡ true) × (i ≡ index_of n l)
    by true e q = (e, cc)
    by false e q = cc
