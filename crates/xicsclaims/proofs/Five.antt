-- The five errnos of the calls on an XICS. Assumes nothing.
use Prim.Native.Nat.{ℕ}
use mathlib.Core.Path.{◌≡◌}
use mathlib.Core.Bool.{true}
use mathlib.Core.List.{List, [], ◌∷◌}
use borrow.Author.Tests.{ne_eqb}
use Rattle.answers.specs.Errno.{among}

-- §14.14: the five, and one of them or none
abbrev pub five : List ℕ
five = 2 ∷ 12 ∷ 14 ∷ 17 ∷ 22 ∷ []

abbrev pub Known : ℕ → Type 0
Known e = among (0 ∷ five) e ≡ true

-- one that is not none is one of the five
pub of_five : (e : ℕ) → Known e → (e ≡ 0 → ⊥) → among five e ≡ true
of_five e h d = rw (ne_eqb e 0 d) at h
