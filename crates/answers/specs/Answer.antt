-- The numbers that calls hand back, and what each means.
use Rattle.std.specs.Prelude.{ℕ, suc, ℤ, pos, negsuc, neg_ℤ}

-- §2.1: refused: the errno with its sign turned
abbrev pub refusal : ℕ → ℤ
refusal e = neg_ℤ (pos e)

-- §2.1, §2.3: done: the number that was asked for, or 0
abbrev pub done : ℕ → ℤ
done n = pos n

-- §2.1: a number handed back, read on either side of zero; used by the proofs that no number means both
pub data Meaning : Type 0 where
  Done : ℕ → Meaning
  Refused : ℕ → Meaning

abbrev pub meaning_of : ℤ → Meaning
meaning_of (pos n) = Done n
meaning_of (negsuc n) = Refused (suc n)
