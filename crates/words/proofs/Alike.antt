-- Bytes that agree before an index, or from one on, are read alike there.
use Prim.Native.Nat.{ℕ, zero, suc, ◌+◌, ◌-◌, ◌*◌, ◌≤◌}
use native.Mathlib.Nat.{suc-mul, add_comm}
use native.Mathlib.Omega.{arith}
use mathlib.Core.Path.{◌≡◌, refl, sym, ap, ap₂, ◌∙◌}
use mathlib.Core.List.{List, ◌∷◌, ◌++◌, append_assoc}
use lib.ListN.{length, take, drop}
use lib.Seq.{take-take, drop-drop, take-append-le, length-take-le}
use Rattle.std.proofs.lemmas.List.{drop-take}
use Rattle.words.specs.Words.{le, le_at, put_at, rows_of}

-- before the bytes that were put: as it was
pub take-put_at-before : (s : List ℕ) (at : ℕ) (bs : List ℕ) (k : ℕ) → k ≤ at → at ≤ length s → take k (put_at s at bs) ≡ take k s
unfolding put_at
take-put_at-before s at bs k h g =
    let l = length-take-le at s g in
    rw (append_assoc (take at s) bs (drop (at + length bs) s))
    (take-append-le k (take at s) (bs ++ drop (at + length bs) s) (omega arith) ∙ take-take k at s h)

module _ {A : Type 0} (p : List ℕ → A) (z : ℕ) where
  -- n rows are read from the first n * z bytes
  pub rows_of-front : (n : ℕ) (s : List ℕ) → rows_of p z n (take (n * z) s) ≡ rows_of p z n s
  unfolding rows_of
  rows_of-front zero s = refl
  rows_of-front (suc n) s =
      let e : suc n * z ≡ z + n * z = suc-mul n z ∙ add_comm (n * z) z in
      ap₂ (λ (t : List ℕ) (u : List ℕ). p t ∷ rows_of p z n u)
      (take-take z (suc n * z) s (omega arith))
      (ap (λ (m : ℕ). drop z (take m s)) e ∙ drop-take z (n * z) s)
      ∙ ap (λ (r : List A). p (take z s) ∷ r) (rows_of-front n (drop z s))

-- two lists of bytes that agree before index b
module _ (s t : List ℕ) (b : ℕ) (same : take b s ≡ take b t) where
  part_alike : (at n : ℕ) → at + n ≤ b → take n (drop at s) ≡ take n (drop at t)
  part_alike at n h = sym (inside s) ∙ ap (λ (x : List ℕ). drop at (take (at + n) x)) same ∙ inside t
    where
      inside : (l : List ℕ) → drop at (take (at + n) (take b l)) ≡ take n (drop at l)
      inside l = ap (drop at) (take-take (at + n) b l h) ∙ drop-take at n l

  pub le_at-alike : (at n : ℕ) → at + n ≤ b → le_at s at n ≡ le_at t at n
  unfolding le_at
  le_at-alike at n h = ap le (part_alike at n h)

  pub rows_alike : {A : Type 0} (p : List ℕ → A) (z n m at : ℕ) → n ≡ m → at + n * z ≤ b → rows_of p z n (drop at s) ≡ rows_of p z m (drop at t)
  rows_alike p z n m at e h =
      sym (rows_of-front p z n (drop at s)) ∙ ap (rows_of p z n) (part_alike at (n * z) h) ∙ rows_of-front p z n (drop at t)
      ∙ ap (λ (i : ℕ). rows_of p z i (drop at t)) e

-- two lists of bytes that agree from index b on
module _ (s t : List ℕ) (b : ℕ) (same : drop b s ≡ drop b t) where
  pub drop_alike : (at : ℕ) → b ≤ at → drop at s ≡ drop at t
  drop_alike at h = sym (further s) ∙ ap (drop (at - b)) same ∙ further t
    where
      further : (l : List ℕ) → drop (at - b) (drop b l) ≡ drop at l
      further l = let e : b + (at - b) ≡ at = omega arith in drop-drop (at - b) b l ∙ ap (λ (i : ℕ). drop i l) e

  pub le_at-alike-past : (at n : ℕ) → b ≤ at → le_at s at n ≡ le_at t at n
  unfolding le_at
  le_at-alike-past at n h = ap (λ (x : List ℕ). le (take n x)) (drop_alike at h)
