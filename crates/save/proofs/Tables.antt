-- A table's bytes, run by run: what is written after written entries. Assumes nothing.
use Prim.Native.Nat.{ℕ, zero, suc, ◌+◌, ◌-◌, ◌*◌, ◌/◌, ◌^◌, ◌≤◌, ◌<◌}
use native.Mathlib.Nat.{add-zero, add-suc, zero-div}
use native.Mathlib.Omega.{arith}
use mathlib.Core.Path.{◌≡◌, refl, sym, ap, ◌∙◌}
use mathlib.Core.List.{List, ◌∷◌, ◌++◌, append-nil, append_assoc}
use lib.ListN.{length, take, drop, replicate, length-append, length-drop, length-replicate}
use lib.Seq.{drop-drop, length-take-le}
use borrow.Rule.Slice.PartMut.{mid_of, put_mid}
use Rattle.words.specs.Words.{bytes_of, put_at}
use Rattle.words.proofs.Laws.{length-bytes_of, bytes_of-add, put_at-none, put_next}
use Rattle.tables.specs.Saved.{table_of}
use Rattle.save.specs.Saving.{blank}

pub length-table_of : (w : ℕ → ℕ) (n : ℕ) → length (table_of w n) ≡ n * 8
unfolding table_of
length-table_of w zero = refl
length-table_of w (suc n) = simp (length-append, length-bytes_of, length-table_of w n) (omega arith)

-- only the words of the entries matter
pub table_same : (w v : ℕ → ℕ) (n : ℕ) → ((x : ℕ) → x < n → w x ≡ v x) → table_of w n ≡ table_of v n
unfolding table_of
table_same w v zero e = refl
table_same w v (suc n) e = rw (table_same w v n (λ x h. e x (omega arith)), e n (omega arith))

table_add : (w : ℕ → ℕ) (i m : ℕ) → table_of w (i + m) ≡ table_of w i ++ table_of (λ x. w (i + x)) m
unfolding table_of
table_add w i zero = rw add-zero (sym (append-nil (table_of w i)))
table_add w i (suc m) = rw (add-suc, table_add w i m) (append_assoc (table_of w i) (table_of (λ x. w (i + x)) m) (bytes_of 8 (w (i + m))))

-- m entries after i that are written
pub table_more : (w v : ℕ → ℕ) (i m : ℕ) (s₀ s t : List ℕ) (at : ℕ) → at + i * 8 ≤ length s₀ → ((x : ℕ) → x < m → w (i + x) ≡ v x)
    → s ≡ put_at s₀ at (table_of w i) → t ≡ put_at s (at + i * 8) (table_of v m) → t ≡ put_at s₀ at (table_of w (i + m))
table_more w v i m s₀ s t at h e p q =
    put_next s₀ s t at (i * 8) (table_of w i) (table_of v m) (length-table_of w i) h p q
    ∙ ap (put_at s₀ at) (ap (λ (b : List ℕ). table_of w i ++ b) (sym (table_same (λ x. w (i + x)) v m e)) ∙ sym (table_add w i m))

-- one entry as a table
pub one_entry : (v : ℕ) → table_of (λ _. v) 1 ≡ bytes_of 8 v
unfolding table_of
one_entry v = refl

pub entry_more : (w : ℕ → ℕ) (v i : ℕ) (s₀ s t : List ℕ) (at : ℕ) → at + i * 8 ≤ length s₀ → w i ≡ v
    → s ≡ put_at s₀ at (table_of w i) → t ≡ put_at s (at + i * 8) (bytes_of 8 v) → t ≡ put_at s₀ at (table_of w (i + 1))
entry_more w v i s₀ s t at h e p q =
    table_more w (λ _. v) i 1 s₀ s t at h (λ x g. let z : i + x ≡ i = omega arith in ap w z ∙ e) p (rw (one_entry v) q)

pub table_none : (w : ℕ → ℕ) (s : List ℕ) (at : ℕ) → s ≡ put_at s at (table_of w 0)
unfolding table_of
table_none w s at = sym (put_at-none s at)

-- blank entries are zeros, of which a number 0 has as many as are asked for
zero_rest : (n : ℕ) → 0 / 256 ^ n ≡ 0
zero_rest n = zero-div (256 ^ n)

blanks_zeros : (n : ℕ) → table_of blank n ≡ bytes_of (n * 8) 0
unfolding table_of bytes_of
blanks_zeros zero = refl
blanks_zeros (suc n) =
    let e : suc n * 8 ≡ n * 8 + 8 = omega arith in
    rw (e, bytes_of-add (n * 8) 8 0, zero_rest (n * 8), blanks_zeros n)

zeros : (n : ℕ) → bytes_of n 0 ≡ replicate n 0
unfolding bytes_of
zeros zero = refl
zeros (suc n) = ap (λ (r : List ℕ). 0 ∷ r) (zeros n)

-- bytes put over a part that they are as long as
put_part : (s ys : List ℕ) (a k : ℕ) → length ys ≡ k → put_mid a k s ys ≡ put_at s a ys
unfolding put_at
put_part s ys a k l =
    ap (λ (r : List ℕ). take a s ++ (ys ++ r)) (drop-drop k a s ∙ ap (λ (m : ℕ). drop (a + m) s) (sym l)) ∙ sym (append_assoc (take a s) ys _)

-- zeros put over the part from entry from up to entry to
pub blank_filled : (s ys : List ℕ) (at from to : ℕ) → from ≤ to → at + to * 8 ≤ length s
    → ys ≡ replicate (length (mid_of (at + from * 8) (at + to * 8 - (at + from * 8)) s)) 0
    → put_mid (at + from * 8) (at + to * 8 - (at + from * 8)) s ys ≡ put_at s (at + from * 8) (table_of blank (to - from))
blank_filled s ys at from to h fits e =
    let a = at + from * 8 in
    let k = at + to * 8 - a in
    let d = length-drop a s in
    let l : length (mid_of a k s) ≡ k = length-take-le k (drop a s) (omega arith) in
    let n : k ≡ (to - from) * 8 = omega arith in
    let m : length ys ≡ k = ap length e ∙ length-replicate _ 0 ∙ l in
    let blanks : table_of blank (to - from) ≡ replicate ((to - from) * 8) 0 = blanks_zeros (to - from) ∙ zeros ((to - from) * 8) in
    rw (put_part s ys a k m, blanks, ← n, ← l) (ap (put_at s a) e)

-- blank entries, and a word after them
pub blanks_word : (s t u : List ℕ) (at from id word : ℕ) → from ≤ id → at + id * 8 ≤ length s
    → t ≡ put_at s (at + from * 8) (table_of blank (id - from)) → u ≡ put_at t (at + id * 8) (bytes_of 8 word)
    → u ≡ put_at s (at + from * 8) (table_of blank (id - from) ++ bytes_of 8 word)
blanks_word s t u at from id word h f p q =
    let a : at + id * 8 ≡ at + from * 8 + (id - from) * 8 = omega arith in
    put_next s t u (at + from * 8) ((id - from) * 8) (table_of blank (id - from)) (bytes_of 8 word) (length-table_of blank (id - from)) (omega arith) p (rw a at q)
