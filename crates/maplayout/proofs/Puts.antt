-- Bytes put over bytes that were put: at another place, over the end of a run, and inside a run. Assumes nothing.
use Prim.Native.Nat.{ℕ, ◌+◌, ◌-◌, ◌≤◌}
use native.Mathlib.Omega.{arith}
use mathlib.Core.Path.{◌≡◌, sym, ap, ap₂, ◌∙◌}
use mathlib.Core.List.{List, ◌++◌, append_assoc}
use lib.ListN.{length, take, drop, length-append, length-take}
use lib.Seq.{take-add, drop_at, drop-append-le, take-append-add, length-take-le}
use Rattle.words.specs.Words.{put_at}
use Rattle.words.proofs.Laws.{length-put_at, put_at-two, drop-put_at-past}
use Rattle.words.proofs.Alike.{take-put_at-before}

-- two places that share no byte: the order does not matter
module _ (s : List ℕ) (a : ℕ) (xs : List ℕ) (b : ℕ) (ys : List ℕ) (h : a + length xs ≤ b) (f : b + length ys ≤ length s) where
  abbrev between : List ℕ
  between = take (b - (a + length xs)) (drop (a + length xs) s)

  gap : a + length xs + (b - (a + length xs)) ≡ b
  gap = omega arith

  late : drop (a + length xs) (put_at s b ys) ≡ between ++ ys ++ drop (b + length ys) s
  unfolding put_at
  late =
      let l = length-take-le b s (omega arith) in
      let m = length-append (take b s) ys in
      drop-append-le (a + length xs) (take b s ++ ys) (drop (b + length ys) s) (omega arith)
      ∙ ap (λ (x : List ℕ). x ++ drop (b + length ys) s)
      (drop-append-le (a + length xs) (take b s) ys (omega arith)
      ∙ ap (λ (x : List ℕ). x ++ ys)
      (ap (λ (k : ℕ). drop (a + length xs) (take k s)) (sym gap)
      ∙ ap (drop (a + length xs)) (take-add (a + length xs) (b - (a + length xs)) s)
      ∙ drop_at (take (a + length xs) s) between (a + length xs) (length-take-le (a + length xs) s (omega arith))))

  early : take b (put_at s a xs) ≡ take a s ++ xs ++ between
  unfolding put_at
  early =
      let l : length (take a s ++ xs) ≡ a + length xs = simp (length-append, length-take) (omega arith) in
      let e : b ≡ length (take a s ++ xs) + (b - (a + length xs)) = omega arith in
      ap (λ (k : ℕ). take k (take a s ++ xs ++ drop (a + length xs) s)) e
      ∙ take-append-add (take a s ++ xs) (drop (a + length xs) s) (b - (a + length xs))

  pub put_at-swap : put_at (put_at s b ys) a xs ≡ put_at (put_at s a xs) b ys
  unfolding put_at
  put_at-swap =
      let p = take a s ++ xs in
      let d = drop (b + length ys) s in
      ap₂ (λ (x : List ℕ) (y : List ℕ). x ++ xs ++ y) (take-put_at-before s b ys a (omega arith) (omega arith)) late
      ∙ sym (append_assoc p (between ++ ys) d)
      ∙ ap (λ (x : List ℕ). x ++ d) (sym (append_assoc p between ys))
      ∙ sym (ap₂ (λ (x : List ℕ) (y : List ℕ). x ++ ys ++ y) early (drop-put_at-past s a xs (b + length ys) (omega arith) f))

-- at the same place, at least as many
put_at-over : (s : List ℕ) (at : ℕ) (xs ys : List ℕ) → length xs ≤ length ys → at + length ys ≤ length s → put_at (put_at s at xs) at ys ≡ put_at s at ys
unfolding put_at
put_at-over s at xs ys h f =
    ap₂ (λ (x : List ℕ) (y : List ℕ). x ++ ys ++ y)
    (take-put_at-before s at xs at (omega arith) (omega arith))
    (drop-put_at-past s at xs (at + length ys) (omega arith) f)

-- over the end of a run, at least as many
pub put_at-end : (s : List ℕ) (at : ℕ) (xs ys zs : List ℕ) → length ys ≤ length zs → at + length xs + length zs ≤ length s
    → put_at (put_at s at (xs ++ ys)) (at + length xs) zs ≡ put_at s at (xs ++ zs)
put_at-end s at xs ys zs h f =
    let l = length-put_at s at xs (omega arith) in
    ap (λ (x : List ℕ). put_at x (at + length xs) zs) (sym (put_at-two s at xs ys (omega arith)))
    ∙ put_at-over (put_at s at xs) (at + length xs) ys zs h (omega arith)
    ∙ put_at-two s at xs zs (omega arith)

-- inside a run, as many
pub put_at-inside : (s : List ℕ) (at : ℕ) (xs ys zs ws : List ℕ) → length ys ≡ length zs → at + length xs + length ys + length ws ≤ length s
    → put_at (put_at s at (xs ++ ys ++ ws)) (at + length xs) zs ≡ put_at s at (xs ++ zs ++ ws)
put_at-inside s at xs ys zs ws h f =
    let m = length-append xs ys in
    let n = length-append xs zs in
    let l = length-put_at s at (xs ++ ys) (omega arith) in
    let e : at + length (xs ++ ys) ≡ at + length (xs ++ zs) = omega arith in
    ap (λ (x : List ℕ). put_at x (at + length xs) zs) (sym (put_at-two s at (xs ++ ys) ws (omega arith)))
    ∙ put_at-swap (put_at s at (xs ++ ys)) (at + length xs) zs (at + length (xs ++ ys)) ws (omega arith) (omega arith)
    ∙ ap₂ (λ (x : List ℕ) (k : ℕ). put_at x k ws) (put_at-end s at xs ys zs (omega arith) (omega arith)) e
    ∙ put_at-two s at (xs ++ zs) ws (omega arith)
