-- A bank that has fewer interrupts than a word has bits (§4.17): what is stored fits, what fits is stored as it is, a change of one of its
-- interrupts fits, and a change past them is none. Assumes nothing.
use Prim.Native.Nat.{ℕ, ◌%◌, ◌^◌, ◌≤◌, ◌<◌}
use native.Mathlib.Nat.{div-one, div-eq_of_lt, lt_of_lt_of_le, mod-eq_of_lt}
use native.Mathlib.Omega.{arith}
use mathlib.Core.Path.{◌≡◌, ap, ◌∙◌}
use mathlib.Core.Bool.{Bool, true, false}
use lib.Pow.{pow_mono}
use Rattle.lists.specs.Rows.{choose}
use Rattle.fields.specs.Field.{get_field, put_field}
use Rattle.fields.proofs.Laws.{get_lt, get_below, put_keeps}
use Rattle.guest.specs.declared.Bank.{Bank}
use Rattle.guest.specs.Words.{BankFits}
use Rattle.guest.proofs.Anchors.{bit_at}
use Rattle.banks.specs.Bank.{pending, raised, lowered, rises, lined, with_level, with_trigger, trimmed}
use Rattle.banks.proofs.Anchors.{level_quiet}

-- what fits into fewer bits fits into more
pub fits_more : {bits most : ℕ} (b : Bank) → bits ≤ most → BankFits bits b → BankFits most b
fits_more b h f = record {
  latch = lt_of_lt_of_le f.latch (pow_mono h);
  level = lt_of_lt_of_le f.level (pow_mono h);
  trigger = lt_of_lt_of_le f.trigger (pow_mono h);
}

module _ (bits : ℕ) where
  -- the lowest bits of a word are its remainder, and the word itself where it has no others
  word_low : (w : ℕ) → get_field w 0 bits ≡ w % 2 ^ bits
  unfolding get_field
  word_low w = ap (λ (n : ℕ). n % 2 ^ bits) (div-one w)

  word_same : (w : ℕ) → w < 2 ^ bits → get_field w 0 bits ≡ w
  word_same w h = word_low w ∙ mod-eq_of_lt h

  pub trimmed_fits : (b : Bank) → BankFits bits (trimmed bits b)
  unfolding trimmed
  trimmed_fits b = record { latch = get_lt b.latch 0 bits; level = get_lt b.level 0 bits; trigger = get_lt b.trigger 0 bits }

  pub trimmed_same : (b : Bank) → BankFits bits b → trimmed bits b ≡ b
  unfolding trimmed
  trimmed_same b f = rw (word_same b.latch f.latch, word_same b.level f.level, word_same b.trigger f.trigger)

  -- a trigger word keeps that many bits, whatever the bank held
  pub trimmed_trigger : (w : ℕ) (b : Bank) → BankFits bits b → trimmed bits (with_trigger w b) ≡ with_trigger (w % 2 ^ bits) b
  unfolding trimmed
  trimmed_trigger w b f = rw (word_same b.latch f.latch, word_same b.level f.level, word_low w)

  -- a change of an interrupt that the bank has
  module _ (b : Bank) (f : BankFits bits b) (i : ℕ) (h : i < bits) where
    pub raised_fits : BankFits bits (raised i b)
    unfolding raised
    raised_fits = record { latch = put_keeps b.latch i 1 1 bits f.latch (omega arith) (omega arith); level = f.level; trigger = f.trigger }

    pub lowered_fits : BankFits bits (lowered i b)
    unfolding lowered
    lowered_fits = record { latch = put_keeps b.latch i 1 0 bits f.latch (omega arith) (omega arith); level = f.level; trigger = f.trigger }

    pub lined_fits : (v : ℕ) → v ≤ 1 → BankFits bits (lined i v b)
    unfolding lined
    lined_fits v l = by (rises i v b)
      where
        level : put_field b.level i 1 v < 2 ^ bits
        level = put_keeps b.level i 1 v bits f.level (omega arith) (omega arith)

        by : (q : Bool) → BankFits bits (with_level (put_field b.level i 1 v) (choose q (raised i b) b))
        by true = record { latch = raised_fits.latch; level = level; trigger = raised_fits.trigger }
        by false = record { latch = f.latch; level = level; trigger = f.trigger }

  -- past its interrupts a bank holds nothing: pending is 0, and a change is not stored
  module _ (b : Bank) (f : BankFits bits b) (i : ℕ) (h : bits ≤ i) where
    bit_past : (w : ℕ) → w < 2 ^ bits → bit_at w i ≡ 0
    bit_past w l = ap (λ (n : ℕ). n % 2) (div-eq_of_lt (lt_of_lt_of_le l (pow_mono h)))

    pub pending_past : pending b i ≡ 0
    pending_past = level_quiet b i (bit_past b.trigger f.trigger) (bit_past b.latch f.latch) (bit_past b.level f.level)

    put_past : (w v : ℕ) → w < 2 ^ bits → get_field (put_field w i 1 v) 0 bits ≡ w
    put_past w v l = get_below w i 1 v 0 bits (omega arith) ∙ word_same w l

    pub raised_past : trimmed bits (raised i b) ≡ b
    unfolding trimmed raised
    raised_past = rw (put_past b.latch 1 f.latch, word_same b.level f.level, word_same b.trigger f.trigger)

    pub lowered_past : trimmed bits (lowered i b) ≡ b
    unfolding trimmed lowered
    lowered_past = rw (put_past b.latch 0 f.latch, word_same b.level f.level, word_same b.trigger f.trigger)

    pub lined_past : (v : ℕ) → trimmed bits (lined i v b) ≡ b
    unfolding trimmed lined raised
    lined_past v = by (rises i v b)
      where
        by : (q : Bool) → trimmed bits (with_level (put_field b.level i 1 v) (choose q (raised i b) b)) ≡ b
        by true = rw (put_past b.latch 1 f.latch, put_past b.level v f.level, word_same b.trigger f.trigger)
        by false = rw (word_same b.latch f.latch, put_past b.level v f.level, word_same b.trigger f.trigger)
