-- The code's shifts and masks, as plain arithmetic. Each law is over the field's width `n`, its place `p` and the bits above it, `j`.
-- Assumes nothing.
use mathlib.Core.Path.{◌≡◌, sym, ap, ap₂, ◌∙◌}
use Prim.Native.Nat.{ℕ, zero, ◌+◌, ◌-◌, ◌*◌, ◌/◌, ◌%◌, ◌^◌, ◌≤◌, ◌<◌}
use native.Mathlib.Nat.{mod-lt, mod-eq_of_lt, lt_of_lt_of_le, add_comm, zero-mul, zero-add}
use native.Mathlib.Omega.{arith}
use lib.Pow.{pow_pos, pow_mono, shl_exact, ones_split, ones_lt, high, split, shl_lt, shr_lt, mod-mod-pow}
use lib.Bits.{bit_and, bit_or, and_block, or_block, and_mask, or_zero_r, or_shifted_r}
use Rattle.fields.specs.Field.{put_field}

-- all ones, shifted right
pub ones_shr : (j k : ℕ) → (2 ^ (j + k) - 1) / 2 ^ k ≡ 2 ^ j - 1
ones_shr j k = ap (λ (x : ℕ). x / 2 ^ k) (ones_split j k) ∙ high (2 ^ j - 1) k (ones_lt k)

-- `!(ones(n) << p)` of a word of `j + (n + p)` bits
not_field : (j n p : ℕ) → (2 ^ (j + (n + p)) - 1) - (2 ^ n - 1) * 2 ^ p ≡ (2 ^ j - 1) * 2 ^ (n + p) + (2 ^ p - 1)
not_field j n p = omega (arith, ones_split j (n + p), ones_split n p)

-- `w & !(ones(n) << p)`
pub cleared : (j n p w : ℕ) → w < 2 ^ (j + (n + p)) → bit_and w ((2 ^ (j + (n + p)) - 1) - (2 ^ n - 1) * 2 ^ p) ≡ w / 2 ^ (n + p) * 2 ^ (n + p) + w % 2 ^ p
cleared j n p w h =
    let q = n + p in
    let lo : 2 ^ p - 1 < 2 ^ (n + p) = lt_of_lt_of_le (ones_lt p) (pow_mono (omega arith)) in
    ap₂ bit_and (sym (split w q)) (not_field j n p)
    ∙ and_block q (w / 2 ^ q) (2 ^ j - 1) (w % 2 ^ q) (2 ^ p - 1) (mod-lt w (pow_pos q)) lo
    ∙ ap₂ (λ (x y : ℕ). x * 2 ^ q + y)
    (and_mask (w / 2 ^ q) j ∙ mod-eq_of_lt (shr_lt j q h))
    (and_mask (w % 2 ^ q) p ∙ mod-mod-pow w n p)

-- the whole of `(w & !(ones(n) << p)) | (v << p)`
pub placed : (n p h l v : ℕ) → l < 2 ^ p → v < 2 ^ n → bit_or (h * 2 ^ (n + p) + l) (v * 2 ^ p) ≡ h * 2 ^ (n + p) + (v * 2 ^ p + l)
placed n p h l v hl hv =
    let q = n + p in
    ap (bit_or (h * 2 ^ q + l)) (sym (zero-add (v * 2 ^ p)) ∙ ap (λ (x : ℕ). x + v * 2 ^ p) (sym (zero-mul (2 ^ q))))
    ∙ or_block q h zero l (v * 2 ^ p) (lt_of_lt_of_le hl (pow_mono (omega arith))) (shl_lt n p hv)
    ∙ ap₂ (λ (x y : ℕ). x * 2 ^ q + y) (or_zero_r h) (or_shifted_r v p l hl)

-- `field_put`, of a word of `j + (n + p)` bits, with the mask `m`
pub put_word_lem : (j n p w v m : ℕ) → w < 2 ^ (j + (n + p)) → v < 2 ^ n → m ≡ 2 ^ n - 1
    → bit_or (bit_and w ((2 ^ (j + (n + p)) - 1) - (m * 2 ^ p) % 2 ^ (j + (n + p)))) ((v * 2 ^ p) % 2 ^ (j + (n + p))) ≡ put_field w p n v
unfolding put_field
put_word_lem j n p w v m hw hv e =
    let f : n + p ≤ j + (n + p) = omega arith in
    rw (e, shl_exact n p (j + (n + p)) (ones_lt n) f, shl_exact n p (j + (n + p)) hv f, cleared j n p w hw, add_comm p n)
    (placed n p (w / 2 ^ (n + p)) (w % 2 ^ p) v (mod-lt w (pow_pos p)) hv)
