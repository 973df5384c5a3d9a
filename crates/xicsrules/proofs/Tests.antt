-- The loop over a table's rows: every row passed keeps its rule, and is the one that is found by its number. Assumes nothing.
use Prim.Native.Nat.{ℕ, ◌+◌, ◌≤◌, ◌<◌}
use native.Mathlib.Nat.{not-suc-le-zero}
use native.Mathlib.Omega.{arith}
use mathlib.Core.Path.{◌≡◌, refl, sym, ap, ap₂, ◌∙◌}
use mathlib.Core.Logic.{⊎_elim}
use mathlib.Core.Bool.{Bool, true, false, ◌&&◌}
use mathlib.Core.List.{List}
use lib.ListN.{length, get_or}
use borrow.Author.Count.{below_more}
use Rattle.std.specs.Prelude.{Some, None}
use Rattle.lists.specs.Rows.{all, choose}
use Rattle.lists.proofs.Find.{all_fails, all_hold}
use Rattle.areas.proofs.Tests.{lt_or_ge, and_false}
use Rattle.xicsrows.specs.XicsLayout.{Row}
use Rattle.xicsrows.specs.Registered.{no_row, index_of, row_with, distinct}
use Rattle.xicsrows.proofs.Numbers.{found_first, row_registered, distinct_fails, distinct_holds}
use Rattle.xicsrows.proofs.Search.{found_at}

module _ (p : Row → Bool) (l : List Row) where
  pub record Testing (i : ℕ) : Type 0 where
    pub each : (k : ℕ) → k < i → p (get_or l k no_row) ≡ true
    pub once : (k : ℕ) → k < i → k ≤ index_of (get_or l k no_row).number l

  pub test_start : Testing 0
  test_start = record { each = λ k h. absurd (not-suc-le-zero h); once = λ k h. absurd (not-suc-le-zero h) }

  module _ (i : ℕ) (h : i < length l) where
    pub test_fails : p (get_or l i no_row) ≡ false → false ≡ (all p l && distinct l)
    test_fails e = sym (ap (λ (x : Bool). x && distinct l) (all_fails p no_row l i h e))

    -- the row's number is found at another row, which is an earlier one
    pub test_twice : (row_with (get_or l i no_row).number l ≡ Some i → ⊥) → false ≡ (all p l && distinct l)
    test_twice g =
        let m : ℕ = (get_or l i no_row).number in
        let q = found_first m l i h refl in
        let r = row_registered m l i h refl in
        let z : index_of m l < i = ⊎_elim (λ y. y) (λ y. absurd (g (ap₂ (λ (b : Bool) (k : ℕ). choose b (Some k) None) r (omega arith)))) (lt_or_ge (index_of m l) i) in
        sym (ap (λ (x : Bool). all p l && x) (distinct_fails l i h z) ∙ and_false (all p l))

    pub test_turn : Testing i → p (get_or l i no_row) ≡ true → row_with (get_or l i no_row).number l ≡ Some i → Testing (i + 1)
    test_turn v t g =
        let q = found_at (get_or l i no_row).number i l (sym g) in
        record { each = below_more _ i v.each t; once = below_more _ i v.once (omega (arith, q.1)) }

  pub test_end : (i : ℕ) → Testing i → length l ≤ i → true ≡ (all p l && distinct l)
  test_end i v h =
      sym (ap₂ ◌&&◌ (all_hold p no_row l (λ k g. v.each k (omega arith))) (distinct_holds l (λ k g. v.once k (omega arith))))

-- what the proof of the loop reads
pub ruleset testing = (test_start, test_fails, test_twice, test_turn, test_end)
