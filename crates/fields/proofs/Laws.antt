-- The laws of a field: reading back what was put, other fields kept, a word put together again. Assumes nothing.
use mathlib.Core.Path.{◌≡◌, sym, ap, ◌∙◌}
use Prim.Native.Nat.{ℕ, ◌+◌, ◌-◌, ◌*◌, ◌/◌, ◌%◌, ◌^◌, ◌≤◌, ◌<◌}
use native.Mathlib.Nat.{mul_comm, div-eq_of_lt, zero-mul, zero-add, mod-lt, mod-eq_of_lt, add_comm, mul_assoc, lt_of_lt_of_le, add-mul}
use native.Mathlib.Omega.{arith}
use lib.Pow.{mod-pow-add, pow_pos, pow_mono, pow-add, high, low, split, shr_lt, shr-shr, field, mod-mod-pow}
use lib.Arith.{digits_lt}
use Rattle.fields.specs.Field.{get_field, put_field}

pub get_lt : (w p n : ℕ) → get_field w p n < 2 ^ n
unfolding get_field
get_lt w p n = mod-lt (w / 2 ^ p) (pow_pos n)

-- the put word as a number above the field's place, and what is below
put_form : (w p n v : ℕ) → put_field w p n v ≡ (w / 2 ^ (p + n) * 2 ^ n + v) * 2 ^ p + w % 2 ^ p
unfolding put_field
put_form w p n v =
    omega (
      arith,
      ap (λ (x : ℕ). w / 2 ^ (p + n) * x) (pow-add 2 p n),
      mul_assoc (w / 2 ^ (p + n)) (2 ^ n) (2 ^ p),
      ap (λ (x : ℕ). w / 2 ^ (p + n) * x) (mul_comm (2 ^ p) (2 ^ n)),
      add-mul (w / 2 ^ (p + n) * 2 ^ n) v (2 ^ p),
    )

pub get_put : (w p n v : ℕ) → v < 2 ^ n → get_field (put_field w p n v) p n ≡ v
unfolding get_field
get_put w p n v h =
    ap (λ (x : ℕ). x / 2 ^ p % 2 ^ n) (put_form w p n v)
    ∙ ap (λ (x : ℕ). x % 2 ^ n) (high (w / 2 ^ (p + n) * 2 ^ n + v) p (mod-lt w (pow_pos p)))
    ∙ low (w / 2 ^ (p + n)) n h

put_low : (w p n v : ℕ) → put_field w p n v % 2 ^ p ≡ w % 2 ^ p
put_low w p n v =
    ap (λ (x : ℕ). x % 2 ^ p) (put_form w p n v) ∙ low (w / 2 ^ (p + n) * 2 ^ n + v) p (mod-lt w (pow_pos p))

-- the put word below the field's end
put_rest_lt : (w p n v : ℕ) → v < 2 ^ n → v * 2 ^ p + w % 2 ^ p < 2 ^ (p + n)
put_rest_lt w p n v h = rw (add_comm p n, pow-add 2 n p) (digits_lt h (mod-lt w (pow_pos p)))

put_high : (w p n v : ℕ) → v < 2 ^ n → put_field w p n v / 2 ^ (p + n) ≡ w / 2 ^ (p + n)
unfolding put_field
put_high w p n v h = high (w / 2 ^ (p + n)) (p + n) (put_rest_lt w p n v h)

pub get_above : (w p n v p' n' : ℕ) → v < 2 ^ n → p + n ≤ p' → get_field (put_field w p n v) p' n' ≡ get_field w p' n'
unfolding get_field
get_above w p n v p' n' h l =
    let k = p' - (p + n) in
    let e : p + n + k ≡ p' = omega arith in
    ap (λ (x : ℕ). x % 2 ^ n')
    (rw (← e) (sym (shr-shr (put_field w p n v) (p + n) k) ∙ ap (λ (x : ℕ). x / 2 ^ k) (put_high w p n v h) ∙ shr-shr w (p + n) k))

-- a field lies below `p`: it is the same in two words with the same low bits
below : (a b p p' n' : ℕ) → p' + n' ≤ p → a % 2 ^ p ≡ b % 2 ^ p → get_field a p' n' ≡ get_field b p' n'
unfolding get_field
below a b p p' n' l e =
    let k = p - (n' + p') in
    let q : k + (n' + p') ≡ p = omega arith in
    let e' : a % 2 ^ (k + (n' + p')) ≡ b % 2 ^ (k + (n' + p')) = rw q e in
    sym (field a n' p')
    ∙ ap (λ (x : ℕ). x / 2 ^ p') (sym (mod-mod-pow a k (n' + p')) ∙ ap (λ (x : ℕ). x % 2 ^ (n' + p')) e' ∙ mod-mod-pow b k (n' + p'))
    ∙ field b n' p'

pub get_below : (w p n v p' n' : ℕ) → p' + n' ≤ p → get_field (put_field w p n v) p' n' ≡ get_field w p' n'
get_below w p n v p' n' l = below (put_field w p n v) w p p' n' l (put_low w p n v)

pub put_get : (w p n : ℕ) → put_field w p n (get_field w p n) ≡ w
unfolding get_field put_field
put_get w p n =
    rw (add_comm p n)
    (ap (λ (x : ℕ). w / 2 ^ (n + p) * 2 ^ (n + p) + x) (sym (mod-pow-add w n p)) ∙ split w (n + p))

-- a word is built from its low end: the next field, put above the `p` low bits
pub put_build : (w p n : ℕ) → put_field (w % 2 ^ p) p n (get_field w p n) ≡ w % 2 ^ (p + n)
unfolding get_field put_field
put_build w p n =
    let lo : w % 2 ^ p < 2 ^ p = mod-lt w (pow_pos p) in
    let z : w % 2 ^ p / 2 ^ (p + n) ≡ 0 = div-eq_of_lt (lt_of_lt_of_le lo (pow_mono (omega arith))) in
    rw (z, mod-eq_of_lt lo, zero-mul, zero-add, add_comm p n) (sym (mod-pow-add w n p))

-- a put keeps a word's bound
pub put_keeps : (w p n v k : ℕ) → w < 2 ^ k → p + n ≤ k → v < 2 ^ n → put_field w p n v < 2 ^ k
unfolding put_field
put_keeps w p n v k hw l hv =
    let j = k - (p + n) in
    let e : j + (p + n) ≡ k = omega arith in
    let hi : w / 2 ^ (p + n) < 2 ^ j = shr_lt j (p + n) (rw e hw) in
    rw (← e, pow-add 2 j (p + n)) (digits_lt hi (put_rest_lt w p n v hv))

-- a field put above what a word has: the bound grows by its width
pub put_grows : (w p n v : ℕ) → w < 2 ^ p → v < 2 ^ n → put_field w p n v < 2 ^ (p + n)
put_grows w p n v hw hv = put_keeps w p n v (p + n) (lt_of_lt_of_le hw (pow_mono (omega arith))) (omega arith) hv
