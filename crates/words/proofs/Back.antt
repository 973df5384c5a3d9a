-- Words that were stored are read again.
use Prim.Native.Nat.{ℕ, zero, suc, ◌+◌, ◌*◌, ◌^◌, ◌<◌}
use native.Mathlib.Nat.{not-suc-le-zero, le_of_suc-le-suc, suc-mul, zero-mul, add_comm}
use mathlib.Core.Path.{◌≡◌, ◌∙◌}
use mathlib.Core.List.{List, [], ◌∷◌, ◌++◌, append_assoc}
use lib.ListN.{length, get_or}
use lib.Seq.{take_at, drop-append-add}
use Rattle.lists.proofs.All.{All, more}
use Rattle.words.specs.Words.{le_at, bytes_of, bytes_all}
use Rattle.words.proofs.Laws.{length-bytes_of, le-bytes_of}

pub word_here : (n v : ℕ) (t : List ℕ) → v < 256 ^ n → le_at (bytes_of n v ++ t) 0 n ≡ v
unfolding le_at
word_here n v t h = rw (take_at (bytes_of n v) t n (length-bytes_of n v)) (le-bytes_of n v h)

-- past n bytes
pub word_past : (n k m : ℕ) (xs t : List ℕ) → length xs ≡ n → le_at (xs ++ t) (n + k) m ≡ le_at t k m
unfolding le_at
word_past n k m xs t l = rw (← l) (rw (drop-append-add xs t k))

-- number k of a run of numbers of n bytes each
pub words_back : (n : ℕ) (ws t : List ℕ) (k : ℕ) → All (λ w. w < 256 ^ n) ws → k < length ws
    → le_at (bytes_all (bytes_of n) ws ++ t) (k * n) n ≡ get_or ws k 0
unfolding bytes_all
words_back n [] t k w h = absurd (not-suc-le-zero h)
words_back n (x ∷ ws) t zero (more a w) h =
    rw (append_assoc (bytes_of n x) (bytes_all (bytes_of n) ws) t, zero-mul) (word_here n x (bytes_all (bytes_of n) ws ++ t) a)
words_back n (x ∷ ws) t (suc k) (more a w) h =
    rw (append_assoc (bytes_of n x) (bytes_all (bytes_of n) ws) t, suc-mul, add_comm (k * n) n)
    (word_past n (k * n) n (bytes_of n x) (bytes_all (bytes_of n) ws ++ t) (length-bytes_of n x)
    ∙ words_back n ws t k w (le_of_suc-le-suc h))
