-- Bytes are below 256, and the words read from bytes are words.
use Prim.Native.Nat.{ℕ, zero, suc, ◌/◌, ◌^◌, ◌≤◌, ◌<◌}
use native.Mathlib.Nat.{pow-suc, not-suc-le-zero, le_of_suc-le-suc, mod-lt}
use native.Mathlib.Omega.{arith}
use mathlib.Core.List.{List, [], ◌∷◌}
use lib.ListN.{length, take, drop, length-take}
use lib.Dec.{lit<}
use Rattle.lists.proofs.All.{All, none, more, all_append, all_take, all_drop}
use Rattle.words.specs.Words.{le, le_at, bytes_of, rows_of, bytes_all}

abbrev pub Bytes : List ℕ → Type 0
Bytes = All (λ b. b < 256)

pub le_bound : (n : ℕ) (l : List ℕ) → Bytes l → length l ≤ n → le l < 256 ^ n
unfolding le
le_bound zero [] r h = lit< tt
le_bound zero (x ∷ xs) r h = absurd (not-suc-le-zero h)
le_bound (suc n) [] r h = let z = le_bound n [] none (omega arith) in rw (pow-suc 256 n) (omega arith)
le_bound (suc n) (x ∷ xs) (more a r) h = let z = le_bound n xs r (le_of_suc-le-suc h) in rw (pow-suc 256 n) (omega arith)

pub le_at-bound : (s : List ℕ) (at n : ℕ) → Bytes s → le_at s at n < 256 ^ n
unfolding le_at
le_at-bound s at n r = le_bound n (take n (drop at s)) (all_take n (drop at s) (all_drop at s r)) (simp length-take (omega arith))

pub bytes_of-bytes : (n v : ℕ) → Bytes (bytes_of n v)
unfolding bytes_of
bytes_of-bytes zero v = none
bytes_of-bytes (suc n) v = more (mod-lt v (lit< tt)) (bytes_of-bytes n (v / 256))

module _ {A : Type 0} where
  pub bytes_all-bytes : (b : A → List ℕ) → ((x : A) → Bytes (b x)) → (l : List A) → Bytes (bytes_all b l)
  unfolding bytes_all
  bytes_all-bytes b h [] = none
  bytes_all-bytes b h (x ∷ xs) = all_append (b x) (h x) (bytes_all-bytes b h xs)

  pub rows_of-all : (P : A → Type 0) (p : List ℕ → A) → ((t : List ℕ) → Bytes t → P (p t)) → (z n : ℕ) (s : List ℕ) → Bytes s → All P (rows_of p z n s)
  unfolding rows_of
  rows_of-all P p h z zero s r = none
  rows_of-all P p h z (suc n) s r = more (h (take z s) (all_take z s r)) (rows_of-all P p h z n (drop z s) (all_drop z s r))
