-- The shared banks that an interrupt count has in use.
use Prim.Native.Nat.{ℕ, zero, suc, ◌/◌, ◌≤◌}
use native.Mathlib.Nat.{le_of_suc-le-suc, not-suc-le-zero}
use native.Mathlib.Omega.{arith}
use mathlib.Core.Path.{◌≡◌, refl, ap}
use mathlib.Core.Bool.{true}
use mathlib.Core.List.{◌∷◌}
use lib.ListN.{take, replicate}
use Rattle.guest.specs.Machine.{shared_count}
use Rattle.rules.specs.Rules.{irqs_ok}
use Rattle.rules.proofs.Parts.{irqs_parts}

-- the first rows of an array of one value
pub take_replicate : {A : Type 0} (n k : ℕ) (x : A) → n ≤ k → take n (replicate k x) ≡ replicate n x
take_replicate zero k x h = refl
take_replicate (suc n) zero x h = absurd (not-suc-le-zero h)
take_replicate (suc n) (suc k) x h = ap (λ l. x ∷ l) (take_replicate n k x (le_of_suc-le-suc h))

-- the shared banks of an interrupt count are 1 to 31
pub few_banks : (irqs : ℕ) → irqs_ok irqs ≡ true → (1 ≤ irqs / 32) × (shared_count irqs ≤ 31)
few_banks irqs e = let p = irqs_parts irqs e in (omega arith, omega arith)
