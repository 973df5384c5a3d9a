-- A word of three fields, one above the other from bit 0, and such a word with one bit set above them. `a`, `b` and `c` are the
-- widths. Assumes nothing.
use mathlib.Core.Path.{◌≡◌, sym, ap, ◌∙◌}
use Prim.Native.Nat.{ℕ, ◌+◌, ◌%◌, ◌^◌, ◌≤◌, ◌<◌}
use native.Mathlib.Omega.{arith}
use native.Mathlib.Nat.{mod-eq_of_lt, zero-add}
use Rattle.fields.specs.Field.{get_field, put_field}
use Rattle.fields.proofs.Laws.{get_put, get_below, put_build, put_grows}

abbrev pub packed : ℕ → ℕ → ℕ → ℕ → ℕ → ℕ → ℕ
packed a b c x y z = put_field (put_field (put_field 0 0 a x) a b y) (a + b) c z

abbrev pub marked : ℕ → ℕ → ℕ → ℕ → ℕ → ℕ → ℕ
marked a b c x y z = put_field (packed a b c x y z) (a + b + c) 1 1

module _ (a b c x y z : ℕ) where
  pub packed_low : x < 2 ^ a → get_field (packed a b c x y z) 0 a ≡ x
  packed_low h = get_below _ (a + b) c z 0 a (omega arith) ∙ get_below _ a b y 0 a (omega arith) ∙ get_put 0 0 a x h

  pub packed_mid : y < 2 ^ b → get_field (packed a b c x y z) a b ≡ y
  packed_mid h = get_below _ (a + b) c z a b (omega arith) ∙ get_put _ a b y h

  pub packed_high : z < 2 ^ c → get_field (packed a b c x y z) (a + b) c ≡ z
  packed_high h = get_put _ (a + b) c z h

  pub packed_lt : x < 2 ^ a → y < 2 ^ b → z < 2 ^ c → packed a b c x y z < 2 ^ (a + b + c)
  packed_lt hx hy hz = put_grows _ (a + b) c z (put_grows _ a b y (rw zero-add at (put_grows 0 0 a x (omega arith) hx)) hy) hz

  -- the bit above leaves the fields as they are
  kept : (p n : ℕ) → p + n ≤ a + b + c → get_field (marked a b c x y z) p n ≡ get_field (packed a b c x y z) p n
  kept p n l = get_below _ (a + b + c) 1 1 p n l

  pub marked_low : x < 2 ^ a → get_field (marked a b c x y z) 0 a ≡ x
  marked_low h = kept 0 a (omega arith) ∙ packed_low h

  pub marked_mid : y < 2 ^ b → get_field (marked a b c x y z) a b ≡ y
  marked_mid h = kept a b (omega arith) ∙ packed_mid h

  pub marked_high : z < 2 ^ c → get_field (marked a b c x y z) (a + b) c ≡ z
  marked_high h = kept (a + b) c (omega arith) ∙ packed_high h

  pub marked_bit : get_field (marked a b c x y z) (a + b + c) 1 ≡ 1
  marked_bit = get_put _ (a + b + c) 1 1 (omega arith)

  pub marked_lt : x < 2 ^ a → y < 2 ^ b → z < 2 ^ c → marked a b c x y z < 2 ^ (a + b + c + 1)
  marked_lt hx hy hz = put_grows _ (a + b + c) 1 1 (packed_lt hx hy hz) (omega arith)

-- a word's own fields, packed again, are its low bits
pub packed_of : (a b c w : ℕ) → packed a b c (get_field w 0 a) (get_field w a b) (get_field w (a + b) c) ≡ w % 2 ^ (a + b + c)
packed_of a b c w =
    let zero : 0 ≡ w % 2 ^ 0 = omega arith in
    let base : put_field 0 0 a (get_field w 0 a) ≡ w % 2 ^ a = ap (λ (x : ℕ). put_field x 0 a (get_field w 0 a)) zero ∙ rw zero-add at (put_build w 0 a) in
    rw (base, put_build w a b, put_build w (a + b) c)

-- a word that has the bit is its own fields with the bit
pub marked_of : (a b c w : ℕ) → w < 2 ^ (a + b + c + 1) → get_field w (a + b + c) 1 ≡ 1
    → marked a b c (get_field w 0 a) (get_field w a b) (get_field w (a + b) c) ≡ w
marked_of a b c w h v =
    ap (λ (x : ℕ). put_field x (a + b + c) 1 1) (packed_of a b c w)
    ∙ ap (put_field (w % 2 ^ (a + b + c)) (a + b + c) 1) (sym v)
    ∙ put_build w (a + b + c) 1
    ∙ mod-eq_of_lt h
