-- What a number handed back means on either side of zero, and the bounds of the errnos. Assumes nothing.
use mathlib.Core.Path.{◌≡◌, refl, sym, ap, ◌∙◌}
use mathlib.Core.Bool.{Bool, true, false, ◌&&◌, ◌||◌, and-eq-true_iff, false≢true}
use mathlib.Core.List.{List, [], ◌∷◌}
use Prim.Native.Nat.{ℕ, zero, suc, ◌<◌}
use native.Mathlib.Omega.{arith}
use lib.Dec.{ltb, eqb, leb-zero}
use lib.IntN.{pos, nat_abs}
use lib.Signed.{◌≤ℤ◌, ◌<ℤ◌, le_z_yes, lt_z_yes, clash_ℤ}
use borrow.Author.Tests.{ltb-true, eqb-true}
use Rattle.answers.specs.Errno.{errnos, among, listed}
use Rattle.answers.specs.Answer.{refusal, done, Done, Refused, meaning_of}

-- Success.

pub done_not_negative : (n : ℕ) → pos 0 ≤ℤ done n
done_not_negative n = le_z_yes (rw leb-zero tt)

pub done_means : (n : ℕ) → meaning_of (done n) ≡ Done n
done_means n = refl

-- A refusal. No errno is 0, which would read as success.

pub refusal_negative : (e : ℕ) → 0 < e → refusal e <ℤ pos 0
refusal_negative zero h = absurd (omega arith)
refusal_negative (suc e) h = lt_z_yes tt

pub refusal_means : (e : ℕ) → 0 < e → meaning_of (refusal e) ≡ Refused e
refusal_means zero h = absurd (omega arith)
refusal_means (suc e) h = refl

size : (e : ℕ) → nat_abs (refusal e) ≡ e
size zero = refl
size (suc e) = refl

-- two errnos give two numbers
pub refusal_once : (a b : ℕ) → refusal a ≡ refusal b → a ≡ b
refusal_once a b h = sym (size a) ∙ ap nat_abs h ∙ size b

-- no number is both
pub refusal_not_done : (e n : ℕ) → 0 < e → refusal e ≡ done n → ⊥
refusal_not_done e n h p = clash_ℤ (rw p at (refusal_negative e h)) (done_not_negative n)

-- The errnos.

abbrev every : (ℕ → Bool) → List ℕ → Bool
every p [] = true
every p (x ∷ xs) = p x && every p xs

-- the number is the list's first, or among the rest
either : (p : ℕ → Bool) (x e : ℕ) (t rest : Bool) → eqb e x ≡ t → (t || rest) ≡ true → p x ≡ true → (rest ≡ true → p e ≡ true)
    → p e ≡ true
either p x e true rest q h here there = rw (eqb-true e x q) here
either p x e false rest q h here there = there h

-- a test that holds of each number of a list holds of any that is among them
every_among : (p : ℕ → Bool) (xs : List ℕ) (e : ℕ) → every p xs ≡ true → among xs e ≡ true → p e ≡ true
every_among p [] e a h = absurd (false≢true h)
every_among p (x ∷ xs) e a h =
    let both = (and-eq-true_iff (p x) (every p xs)).0 a in
    either p x e (eqb e x) (among xs e) refl h both.0 (every_among p xs e both.1)

abbrev small : ℕ → Bool
small e = ltb 0 e && ltb e 4096

pub listed_small : (e : ℕ) → listed e ≡ true → (0 < e) × (e < 4096)
unfolding listed
listed_small e h =
    let both = (and-eq-true_iff (ltb 0 e) (ltb e 4096)).0 (every_among small errnos e refl h) in
    (ltb-true 0 e both.0, ltb-true e 4096 both.1)

-- each of them, handed back, reads as itself
pub listed_means : (e : ℕ) → listed e ≡ true → meaning_of (refusal e) ≡ Refused e
listed_means e h = refusal_means e (listed_small e h).0
