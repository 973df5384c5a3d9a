-- A table of n entries as bytes: its length, that it is bytes, and that entry i is the word at i.
use Prim.Native.Nat.{ℕ, zero, suc, ◌*◌, ◌^◌, ◌≤◌, ◌<◌}
use native.Mathlib.Nat.{add-zero, not-suc-le-zero}
use native.Mathlib.Omega.{arith}
use mathlib.Core.Path.{◌≡◌, refl, sym, ap, ◌∙◌}
use mathlib.Core.Logic.{⊎_elim}
use mathlib.Core.List.{List, [], ◌++◌, append_assoc, append-nil}
use lib.ListN.{length, length-append}
use Rattle.lists.proofs.All.{none, all_append}
use Rattle.words.specs.Words.{le_at, bytes_of}
use Rattle.words.proofs.Bytes.{Bytes, bytes_of-bytes}
use Rattle.words.proofs.Laws.{length-bytes_of}
use Rattle.words.proofs.Back.{word_here, word_past}
use Rattle.areas.proofs.Tests.{lt_or_ge}
use Rattle.tables.specs.Bytes.{entry_at}
use Rattle.tables.specs.Saved.{table_of}

pub length-table_of : (w : ℕ → ℕ) (n : ℕ) → length (table_of w n) ≡ n * 8
unfolding table_of
length-table_of w zero = refl
length-table_of w (suc n) = simp (length-append, length-bytes_of, length-table_of w n) (omega arith)

pub bytes-table_of : (w : ℕ → ℕ) (n : ℕ) → Bytes (table_of w n)
unfolding table_of
bytes-table_of w zero = none
bytes-table_of w (suc n) = all_append (table_of w n) (bytes-table_of w n) (bytes_of-bytes 8 (w n))

-- with more bytes behind it
word_of : (w : ℕ → ℕ) (n i : ℕ) (rest : List ℕ) → i < n → w i < 2 ^ 64 → le_at (table_of w n ++ rest) (i * 8) 8 ≡ w i
unfolding table_of
word_of w zero i rest h b = absurd (not-suc-le-zero h)
word_of w (suc n) i rest h b =
    ap (λ (x : List ℕ). le_at x (i * 8) 8) (append_assoc (table_of w n) (bytes_of 8 (w n)) rest)
    ∙ ⊎_elim
    (λ (l : i < n). word_of w n i (bytes_of 8 (w n) ++ rest) l b)
    (λ (l : n ≤ i).
    let e : n ≡ i = omega arith in
    ap (λ (j : ℕ). le_at (table_of w n ++ (bytes_of 8 (w n) ++ rest)) (j * 8) 8) (sym e)
    ∙ ap (λ (j : ℕ). le_at (table_of w n ++ (bytes_of 8 (w n) ++ rest)) j 8) (sym (add-zero (n * 8)))
    ∙ word_past (n * 8) 0 8 (table_of w n) (bytes_of 8 (w n) ++ rest) (length-table_of w n)
    ∙ word_here 8 (w n) rest (rw e b) ∙ ap w e)
    (lt_or_ge i n)

pub entry-table_of : (w : ℕ → ℕ) (n i : ℕ) → i < n → w i < 2 ^ 64 → entry_at (table_of w n) i ≡ w i
unfolding entry_at
entry-table_of w n i h b = ap (λ (t : List ℕ). le_at t (i * 8) 8) (sym (append-nil (table_of w n))) ∙ word_of w n i [] h b
