-- Laws of little endian numbers and of tables of rows.
use Prim.Native.Nat.{ℕ, zero, suc, ◌+◌, ◌-◌, ◌*◌, ◌/◌, ◌%◌, ◌^◌, ◌≤◌, ◌<◌}
use native.Mathlib.Nat.{zero-add, suc-add, add-zero, mul_assoc, add-mul, add_assoc, add_comm, mul-le-mul_right, mod-add-div', pow-suc, pow-succ', div-div-eq-div-mul, div-one, div-lt_iff_lt-mul}
use native.Mathlib.Numerals.{add-one}
use native.Mathlib.Omega.{arith}
use mathlib.Core.Path.{◌≡◌, refl, sym, ap, ◌∙◌}
use mathlib.Core.List.{List, [], ◌∷◌, ◌++◌, append_assoc, append-nil}
use lib.ListN.{length, get_or, set, take, drop, length-append, length-take, length-drop, take-append-drop}
use lib.Seq.{take_all, take-suc-set, take-take, set_split, take-add, drop-drop, drop-cons, length-take-le, take_at, drop_at, drop-append-add}
use lib.Dec.{lit<}
use Rattle.std.proofs.lemmas.List.{drop-take}
use Rattle.std.proofs.lemmas.Nat.{pow-add, or_comm, or_shifted}
use Rattle.std.specs.Int.Bits.{bit_or}
use lib.Pow.{shl_exact}
use borrow.Rule.Slice.PartMut.{put_mid}
use Rattle.words.specs.Words.{le, le_at, bytes_of, put_at, Read}

-- ---- one number

pub le_append : (a b : List ℕ) → le (a ++ b) ≡ le a + le b * 256 ^ length a
unfolding le
le_append [] b = omega arith
le_append (x ∷ xs) b =
    rw (le_append xs b, add-mul, mul_assoc)
    (ap (λ (k : ℕ). x + (le xs * 256 + le b * k)) (sym (pow-suc 256 (length xs))) ∙ sym (add_assoc x (le xs * 256) (le b * 256 ^ suc (length xs))))

pub le_at-two : (s : List ℕ) (at n m : ℕ) → at + n ≤ length s → le_at s at (n + m) ≡ le_at s at n + le_at s (at + n) m * 256 ^ n
unfolding le_at
le_at-two s at n m h =
    let l : length (take n (drop at s)) ≡ n = length-take-le n (drop at s) (simp length-drop (omega arith)) in
    rw (take-add n m (drop at s), le_append, l, drop-drop)

pub read_two : (s : List ℕ) (at n m lo hi : ℕ) → at + n ≤ length s → Read s at n lo → Read s (at + n) m hi → lo + hi * 256 ^ n < 256 ^ (n + m) → Read s at (n + m) (lo + hi * 256 ^ n)
read_two s at n m lo hi h a b f = record { is = rw (le_at-two s at n m h, a.is, b.is); fits = f }

pub length-bytes_of : (n v : ℕ) → length (bytes_of n v) ≡ n
unfolding bytes_of
length-bytes_of zero v = refl
length-bytes_of (suc n) v = ap suc (length-bytes_of n (v / 256))

pub bytes_of-add : (n m v : ℕ) → bytes_of (n + m) v ≡ bytes_of n v ++ bytes_of m (v / 256 ^ n)
unfolding bytes_of
bytes_of-add zero m v = rw (zero-add, div-one)
bytes_of-add (suc n) m v =
    rw (suc-add, pow-succ' 256 n, ← div-div-eq-div-mul)
    (ap (λ (r : List ℕ). v % 256 ∷ r) (bytes_of-add n m (v / 256)))

-- the number of its bytes is the number again
pub le-bytes_of : (n v : ℕ) → v < 256 ^ n → le (bytes_of n v) ≡ v
unfolding bytes_of le
le-bytes_of zero v h = omega arith
le-bytes_of (suc n) v h =
    rw (le-bytes_of n (v / 256) ((div-lt_iff_lt-mul (lit< tt)).1 (rw (← pow-suc 256 n) h))) (mod-add-div' v 256)

pub read_one : (s : List ℕ) (at : ℕ) → at + 1 ≤ length s → get_or s at 0 < 256 → Read s at 1 (get_or s at 0)
unfolding le_at le
read_one s at h f = let l : at < length s = omega arith in record { is = rw (drop-cons s at 0 l) (omega arith); fits = f }

-- a loop that reads a number: no byte, and one byte more
pub read_none : (s : List ℕ) (at : ℕ) → Read s at 0 0
unfolding le_at le
read_none s at = record { is = refl; fits = lit< tt }

bytes_bits : (i : ℕ) → 2 ^ (8 * i) ≡ 256 ^ i
bytes_bits zero = refl
bytes_bits (suc i) =
    let e : 8 * suc i ≡ 8 * i + 8 = omega arith in
    ap (λ (k : ℕ). 2 ^ k) e ∙ pow-add 2 (8 * i) 8 ∙ ap (λ (k : ℕ). k * 256) (bytes_bits i) ∙ sym (pow-suc 256 i)

pub read_more : (s : List ℕ) (at i v : ℕ) → at + i < length s → get_or s (at + i) 0 < 256 → i < 8 → Read s at i v
    → Read s at (i + 1) (bit_or v (get_or s (at + i) 0 * 2 ^ (8 * i) % 2 ^ 64))
read_more s at i v h f w r =
    let b = get_or s (at + i) 0 in
    let e = bytes_bits i in
    let low : v < 2 ^ (8 * i) = rw e r.fits in
    let m : b * 256 ^ i ≤ 255 * 256 ^ i = mul-le-mul_right (256 ^ i) (omega (arith, f)) in
    let top : v + b * 256 ^ i < 256 ^ (i + 1) = rw (add-one, pow-suc 256 i) (omega (arith, m, r.fits)) in
    let q : bit_or v (b * 2 ^ (8 * i) % 2 ^ 64) ≡ v + b * 256 ^ i =
    ap (bit_or v) (shl_exact 8 (8 * i) 64 f (omega (arith, w))) ∙ or_comm v (b * 2 ^ (8 * i)) ∙ or_shifted b (8 * i) v low
    ∙ ap (λ (k : ℕ). b * k + v) e ∙ add_comm (b * 256 ^ i) v in
    rw q (read_two s at i 1 v b (omega (arith, h)) r (read_one s (at + i) (omega (arith, h)) f) top)

-- ---- stores

pub length-put_at : (s : List ℕ) (at : ℕ) (bs : List ℕ) → at + length bs ≤ length s → length (put_at s at bs) ≡ length s
unfolding put_at
length-put_at s at bs h = simp (length-append, length-take, length-drop) (omega arith)

pub put_at-two : (s : List ℕ) (at : ℕ) (xs ys : List ℕ) → at + length xs ≤ length s → put_at (put_at s at xs) (at + length xs) ys ≡ put_at s at (xs ++ ys)
unfolding put_at
put_at-two s at xs ys h =
    let l : length (take at s ++ xs) ≡ at + length xs = simp (length-append, length-take) (omega arith) in
    let e : drop (at + length xs + length ys) (take at s ++ xs ++ drop (at + length xs) s) ≡ drop (at + length xs + length ys) s =
    ap (λ (k : ℕ). drop (k + length ys) (take at s ++ xs ++ drop (at + length xs) s)) (sym l)
    ∙ drop-append-add (take at s ++ xs) (drop (at + length xs) s) (length ys)
    ∙ drop-drop (length ys) (at + length xs) s in
    rw (e, take_at (take at s ++ xs) (drop (at + length xs) s) (at + length xs) l, length-append, add_assoc, append_assoc (take at s) xs ys)

pub put_one : (s : List ℕ) (at v : ℕ) → at + 1 ≤ length s → set s at (v % 256) ≡ put_at s at (bytes_of 1 v)
unfolding put_at bytes_of
put_one s at v h =
    let l : at < length s = omega arith in
    rw (set_split s at (v % 256) l, add-one) (sym (append_assoc (take at s) (v % 256 ∷ []) (drop (suc at) s)))

pub put_two : (s t u : List ℕ) (at n m v : ℕ) → at + n ≤ length s → t ≡ put_at s at (bytes_of n v) → u ≡ put_at t (at + n) (bytes_of m (v / 256 ^ n)) → u ≡ put_at s at (bytes_of (n + m) v)
put_two s t u at n m v h p q =
    let l : length (bytes_of n v) ≡ n = length-bytes_of n v in
    let g : at + length (bytes_of n v) ≤ length s = omega arith in
    q ∙ ap (λ (x : List ℕ). put_at x (at + n) (bytes_of m (v / 256 ^ n))) p
    ∙ ap (λ (k : ℕ). put_at (put_at s at (bytes_of n v)) (at + k) (bytes_of m (v / 256 ^ n))) (sym l)
    ∙ put_at-two s at (bytes_of n v) (bytes_of m (v / 256 ^ n)) g
    ∙ ap (put_at s at) (sym (bytes_of-add n m v))

pub le_at-drop : (s : List ℕ) (at k n : ℕ) → le_at (drop at s) k n ≡ le_at s (at + k) n
unfolding le_at
le_at-drop s at k n = rw drop-drop

-- a part of a list of bytes that was filled with the bytes of a number
pub put_part : (s ys : List ℕ) (at n k m v : ℕ) → ys ≡ bytes_of m v → m ≡ n → k ≡ n → put_mid at k s ys ≡ put_at s at (bytes_of n v)
unfolding put_at
put_part s ys at n k m v e hm hk =
    ap (λ (x : List ℕ). take at s ++ (x ++ drop k (drop at s))) (e ∙ ap (λ (j : ℕ). bytes_of j v) hm)
    ∙ sym (append_assoc (take at s) (bytes_of n v) (drop k (drop at s)))
    ∙ ap (λ (x : List ℕ). take at s ++ bytes_of n v ++ x) (drop-drop k at s ∙ ap (λ (j : ℕ). drop (at + j) s) (hk ∙ sym (length-bytes_of n v)))

-- one store right after another
pub put_next : (s t u : List ℕ) (at n : ℕ) (xs ys : List ℕ) → length xs ≡ n → at + n ≤ length s → t ≡ put_at s at xs → u ≡ put_at t (at + n) ys → u ≡ put_at s at (xs ++ ys)
put_next s t u at n xs ys l h p q =
    q ∙ ap (λ (x : List ℕ). put_at x (at + n) ys) p
    ∙ ap (λ (k : ℕ). put_at (put_at s at xs) (at + k) ys) (sym l)
    ∙ put_at-two s at xs ys (omega arith)

pub put_at-none : (s : List ℕ) (at : ℕ) → put_at s at [] ≡ s
unfolding put_at
put_at-none s at = rw (add-zero, append-nil) (take-append-drop at s)

-- a number inside a part
pub le_at-in : (s : List ℕ) (at z off n : ℕ) → off + n ≤ z → le_at (take z (drop at s)) off n ≡ le_at s (at + off) n
unfolding le_at
le_at-in s at z off n h =
    let e : off + (z - off) ≡ z = omega arith in
    ap (λ (k : ℕ). le (take n (drop off (take k (drop at s))))) (sym e)
    ∙ ap (λ (t : List ℕ). le (take n t)) (drop-take off (z - off) (drop at s))
    ∙ ap le (take-take n (z - off) (drop off (drop at s)) (omega arith) ∙ ap (take n) (drop-drop off at s))

-- from where the bytes were put: they, and what follows them
pub drop-put_at-here : (s : List ℕ) (at : ℕ) (bs : List ℕ) → at ≤ length s → drop at (put_at s at bs) ≡ bs ++ drop (at + length bs) s
unfolding put_at
drop-put_at-here s at bs h =
    rw (append_assoc (take at s) bs (drop (at + length bs) s)) (drop_at (take at s) (bs ++ drop (at + length bs) s) at (length-take-le at s h))

-- past the bytes that were put: as it was
pub drop-put_at-past : (s : List ℕ) (at : ℕ) (bs : List ℕ) (k : ℕ) → at + length bs ≤ k → k ≤ length s → drop k (put_at s at bs) ≡ drop k s
unfolding put_at
drop-put_at-past s at bs k h g =
    let l : length (take at s ++ bs) ≡ at + length bs = simp (length-append, length-take) (omega arith) in
    let e : at + length bs + (k - (at + length bs)) ≡ k = omega arith in
    ap (λ (i : ℕ). drop i (take at s ++ bs ++ drop (at + length bs) s)) (sym e ∙ ap (λ (i : ℕ). i + (k - (at + length bs))) (sym l))
    ∙ drop-append-add (take at s ++ bs) (drop (at + length bs) s) (k - (at + length bs))
    ∙ drop-drop (k - (at + length bs)) (at + length bs) s
    ∙ ap (λ (i : ℕ). drop i s) e

-- a number that was read is a number of the part that holds it
pub read_in : (s : List ℕ) (at z off n k r : ℕ) → Read s k n r → k ≡ at + off → off + n ≤ z → r ≡ le_at (take z (drop at s)) off n
read_in s at z off n k r h e f = h.is ∙ ap (λ (i : ℕ). le_at s i n) e ∙ sym (le_at-in s at z off n f)

-- a loop that fills a slice: one byte more
pub fill_turn : (s : List ℕ) (n i rest : ℕ) → i < n → length s ≡ n
    → take (i + 1) (set s i (rest % 256)) ++ bytes_of (n - (i + 1)) (rest / 256) ≡ take i s ++ bytes_of (n - i) rest
unfolding bytes_of
fill_turn s n i rest h l =
    let e : n - i ≡ suc (n - (i + 1)) = omega arith in
    let g : i < length s = omega arith in
    rw (e, add-one, take-suc-set s i (rest % 256) g) (append_assoc (take i s) (rest % 256 ∷ []) (bytes_of (n - suc i) (rest / 256)))

pub fill_end : (s : List ℕ) (n i rest v : ℕ) → n ≤ i → length s ≡ n → take i s ++ bytes_of (n - i) rest ≡ bytes_of n v → s ≡ bytes_of n v
unfolding bytes_of
fill_end s n i rest v h l p =
    let z : n - i ≡ 0 = omega arith in
    let q : take i s ++ [] ≡ bytes_of n v = rw z at p in
    sym (take_all i s (omega arith)) ∙ sym (append-nil (take i s)) ∙ q
