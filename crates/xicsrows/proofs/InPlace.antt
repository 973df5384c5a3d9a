-- Rows read where they lie in the bytes are the rows that the bytes stand for. Assumes nothing.
use Prim.Native.Nat.{ℕ, zero, suc, ◌+◌, ◌*◌, ◌<◌, ◌≤◌}
use native.Mathlib.Omega.{arith}
use mathlib.Core.Path.{◌≡◌, sym, ap, ap₂, ◌∙◌, subst}
use mathlib.Core.Bool.{true, and-eq-true_iff}
use mathlib.Core.List.{List}
use lib.ListN.{length, get_or, take, drop}
use lib.Seq.{drop-drop, ext_get_or}
use lib.Dec.{leb}
use borrow.Author.Tests.{leb-true}
use Rattle.words.specs.Words.{le_at}
use Rattle.words.proofs.Laws.{le_at-in}
use Rattle.words.proofs.Rows.{length-rows_of, get_d-rows_of}
use Rattle.xicsrows.specs.XicsLayout.{count_at, rows_at, Row, row_of, table, counts_ok, Counted}
use Rattle.xicsrows.specs.Registered.{no_row}
use Rattle.xicsrows.specs.declared.Table.{Table}
use Rattle.xicsrows.specs.declared.Table.TheVariants.{Servers, Sources}
use Rattle.xicsrows.specs.Tables.{number_of}

-- row i of table t, by the places of its two words
abbrev pub row_at : ℕ → ℕ → List ℕ → Row
row_at t i s = record { number = le_at s (rows_at t + i * 16) 8; word = le_at s (rows_at t + i * 16 + 8) 8 }

module _ (t : ℕ) (s : List ℕ) where
  pub count_is : le_at s (count_at t) 8 ≡ length (table t s)
  unfolding table
  count_is = sym (length-rows_of row_of 16 (le_at s (count_at t) 8) (drop (rows_at t) s))

  pub at_count : {at n : ℕ} → at ≡ count_at t → n ≡ le_at s at 8 → n ≡ length (table t s)
  at_count e q = q ∙ ap (λ (k : ℕ). le_at s k 8) e ∙ count_is

  row_of_lem : (at : ℕ) → row_of (take 16 (drop at s)) ≡ record { number = le_at s at 8; word = le_at s (at + 8) 8 }
  unfolding row_of
  row_of_lem at =
      let z : at + 0 ≡ at = omega arith in
      ap₂ (λ (n w : ℕ). record { number = n; word = w })
      (le_at-in s at 16 0 8 (omega arith) ∙ ap (λ (k : ℕ). le_at s k 8) z)
      (le_at-in s at 16 8 8 (omega arith))

  pub row_is : (i : ℕ) → i < length (table t s) → get_or (table t s) i no_row ≡ row_at t i s
  unfolding table
  row_is i h =
      let n = le_at s (count_at t) 8 in
      let h' : i < n = subst (λ (k : ℕ). i < k) (sym count_is) h in
      get_d-rows_of row_of 16 n (drop (rows_at t) s) i no_row h'
      ∙ ap (λ (x : List ℕ). row_of (take 16 x)) (drop-drop (i * 16) (rows_at t) s)
      ∙ row_of_lem (rows_at t + i * 16)

  -- the two words read at a row's place are the row
  pub row_read : (i at n w : ℕ) → i < length (table t s) → at ≡ rows_at t + i * 16 → n ≡ le_at s at 8 → w ≡ le_at s (at + 8) 8
      → record { number = n; word = w } ≡ get_or (table t s) i no_row
  row_read i at n w h e p q =
      ap₂ (λ (x y : ℕ). record { number = x; word = y }) (p ∙ ap (λ (k : ℕ). le_at s k 8) e) (q ∙ ap (λ (k : ℕ). le_at s (k + 8) 8) e) ∙ sym (row_is i h)

  -- rows that have these numbers and words are the table
  pub table_by : (l : List Row) → le_at s (count_at t) 8 ≡ length l → ((i : ℕ) → i < length l → row_at t i s ≡ get_or l i no_row) → table t s ≡ l
  table_by l e f =
      let n : length (table t s) ≡ length l = sym count_is ∙ e in
      ext_get_or no_row (table t s) l n (λ i h. row_is i h ∙ f i (subst (λ (k : ℕ). i < k) n h))

-- what the test of the numbers of rows says
pub few : (t : ℕ) (s : List ℕ) → counts_ok s ≡ true → t ≤ 1 → length (table t s) ≤ 64
unfolding counts_ok
few zero s c h = subst (λ (k : ℕ). k ≤ 64) (count_is 0 s) (leb-true _ _ ((and-eq-true_iff (leb (le_at s 0 8) 64) (leb (le_at s 8 8) 64)).0 c).0)
few (suc zero) s c h = subst (λ (k : ℕ). k ≤ 64) (count_is 1 s) (leb-true _ _ ((and-eq-true_iff (leb (le_at s 0 8) 64) (leb (le_at s 8 8) 64)).0 c).1)
few (suc (suc t)) s c h = absurd (omega arith)

-- and of either table of the code
pub few_rows : (t : Table) (s : List ℕ) → Counted s → length (table (number_of t) s) ≤ 64
few_rows Servers s c = few 0 s c.counts (omega arith)
few_rows Sources s c = few 1 s c.counts (omega arith)

pub low : (t : Table) → number_of t ≤ 1
low Servers = omega arith
low Sources = omega arith

-- what the proofs of the functions on a row read
pub ruleset lying = (few_rows, low, row_read)
