-- The fewest digits that hold a number are the number as `spelled` has it. Assumes nothing.
use Prim.Native.Nat.{ℕ, zero, suc, ◌+◌, ◌-◌, ◌*◌, ◌/◌, ◌%◌, ◌^◌, ◌≤◌, ◌<◌}
use native.Mathlib.Nat.{not-suc-le-zero, not-le_of_lt, lt_of_not-le, pow-le-pow_right, pow-suc, pow-zero, one-mul, one-le-pow, div-lt_self, div-lt_iff_lt-mul, le-div_iff_mul-le, mul-le-mul_right, le_trans, le_of_eq}
use native.Mathlib.Omega.{arith}
use mathlib.Core.Path.{◌≡◌, sym, ap, ◌∙◌}
use mathlib.Core.List.{List, [], ◌∷◌, ◌++◌}
use lib.ListN.{length, take}
use borrow.Author.Tests.{lt-ltb, le-ltb}
use Rattle.io.specs.Digits.{hex_digit_ascii, last_digits, IsDigitCount}
use Rattle.lines.specs.Text.{spelled, Adds}

module _ (b : ℕ) (two : 1 < b) where
  -- a number of two digits or more: its first digits are not all 0
  high : (n j : ℕ) → IsDigitCount b 1 n (suc (suc j)) → b ^ j * b ≤ n
  high n j f =
      let e : suc (suc j) - 1 ≡ suc j = omega arith in
      rw (e, pow-suc) at (f.2 (omega arith))

  -- n / b has one digit less
  fewer : (n j : ℕ) → IsDigitCount b 1 n (suc (suc j)) → IsDigitCount b 1 (n / b) (suc j)
  fewer n j f =
      let p : 0 < b = omega arith in
      let e : suc j - 1 ≡ j = omega arith in
      (omega arith, (div-lt_iff_lt-mul p).1 (rw pow-suc at f.1), λ h. rw e ((le-div_iff_mul-le p).1 (high n j f)))

  pub digits_spelled : (left k n : ℕ) → n < left → IsDigitCount b 1 n k → last_digits b k n ≡ spelled b left n
  unfolding spelled
  digits_spelled zero k n h f = absurd (not-suc-le-zero h)
  digits_spelled (suc left) zero n h f = absurd (not-suc-le-zero f.0)
  digits_spelled (suc left) (suc zero) n h f =
      let small : n < b = rw (pow-suc, pow-zero, one-mul) at f.1 in
      rw (lt-ltb n b small)
  digits_spelled (suc left) (suc (suc j)) n h f =
      let p : 0 < b ^ j = one-le-pow j b (omega arith) in
      let q = high n j f in
      let large : b ≤ n = le_trans (le_of_eq (sym (one-mul b))) (le_trans (mul-le-mul_right b p) q) in
      let less : n / b < n = div-lt_self (omega arith) two in
      rw (le-ltb n b large) (ap (λ (l : List ℕ). l ++ (hex_digit_ascii (n % b) ∷ [])) (digits_spelled left (suc j) (n / b) (omega arith) (fewer n j f)))

  -- a number below b ^ m has at most m digits
  pub digits_few : (n k m : ℕ) → 0 < m → n < b ^ m → IsDigitCount b 1 n k → k ≤ m
  digits_few n k m p h f =
      let g : k < suc m =
      lt_of_not-le (λ g. not-le_of_lt h (le_trans (pow-le-pow_right (omega arith) (omega arith)) (f.2 (omega arith)))) in
      omega arith

  -- its digits and the byte that ends them, behind a text
  pub number_added : (n k m : ℕ) (l before after : List ℕ) (end : ℕ) → 0 < m → n < b ^ m → IsDigitCount b 1 n k
      → k ≡ length (take k l) → take k l ≡ last_digits b k n
      → Adds before (take k l ++ (end ∷ [])) (length (take k l) + 1) after
      → Adds before (spelled b (suc n) n ++ (end ∷ [])) (m + 1) after
  number_added n k m l before after end p h f count is a =
      let few = digits_few n k m p h f in
      let most = a.most in
      record {
        is = a.is ∙ ap (λ (t : List ℕ). before ++ (t ++ (end ∷ []))) (is ∙ digits_spelled (suc n) k n (omega arith) f);
        most = omega arith;
      }
