-- A number that is registered has a row, and where no number occurs twice that row is the only one with it. Assumes nothing.
use Prim.Native.Nat.{ℕ}
use mathlib.Core.Path.{◌≡◌, sym, ap, ◌∙◌, subst}
use mathlib.Core.Bool.{true}
use mathlib.Core.List.{List}
use lib.ListN.{get_or}
use Rattle.lists.proofs.Member.{In, in_at, at_in}
use Rattle.xicsrows.specs.XicsLayout.{Row}
use Rattle.xicsrows.specs.Registered.{no_row, index_of, registered, word_of, distinct}
use Rattle.xicsrows.proofs.Numbers.{found, registered_is, row_registered}
use Rattle.xicsrows.proofs.Numbers.{once_at}

module _ (n : ℕ) (l : List Row) where
  -- what is registered has a row, with its word
  pub row_in : registered n l ≡ true → In (record { number = n; word = word_of n l }) l
  unfolding word_of
  row_in h =
      let i = registered_is n l h in
      subst (λ (k : ℕ). In (record { number = k; word = (get_or l (index_of n l) no_row).word }) l) (found n l i) (in_at l (index_of n l) no_row i)

  -- what has a row is registered
  pub in_registered : (r : Row) → In r l → r.number ≡ n → registered n l ≡ true
  in_registered r m e = let x = at_in l no_row m in row_registered n l x.0 x.1 (ap (λ (y : Row). y.number) x.2 ∙ e)

  -- with that word, where no number occurs twice
  pub in_word : (w : ℕ) → distinct l ≡ true → In (record { number = n; word = w }) l → word_of n l ≡ w
  unfolding word_of
  in_word w d m =
      let x = at_in l no_row m in
      let e : (get_or l x.0 no_row).number ≡ n = ap (λ (y : Row). y.number) x.2 in
      let i : index_of n l ≡ x.0 = ap (λ (k : ℕ). index_of k l) (sym e) ∙ once_at l x.0 d x.1 in
      ap (λ (k : ℕ). (get_or l k no_row).word) i ∙ ap (λ (y : Row). y.word) x.2
