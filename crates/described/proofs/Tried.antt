-- The tests of one entry: all pass, or a fault is met. Assumes nothing.
use Prim.Native.Nat.{ℕ}
use native.Mathlib.Omega.{arith}
use mathlib.Core.Path.{◌≡◌, refl}
use mathlib.Core.Bool.{Bool, true, false}
use mathlib.Core.Logic.{⊎_elim}
use mathlib.Core.List.{List, [], ◌∷◌}
use Rattle.lists.specs.Rows.{choose}
use Rattle.lists.proofs.All.{All, none, more}
use Rattle.mapping.specs.Mapped.{Mapped}
use Rattle.chains.proofs.Way.{choose-cases}
use Rattle.tables.specs.Fault.{Place, Fault, at}
use Rattle.tables.specs.Restored.{Out, fault, found, Test, tried}

pub no_fault : {B : Type 0} {f : Fault} {k : Mapped} → fault f ≡ found k → B
no_fault p = let z : ◌≡◌ {A = ℕ} 0 1 = cc in absurd (omega arith)

-- no test fails
abbrev pub Passed : List Test → Type 0
Passed ts = All (λ t. t.fails ≡ false) ts

pub tried_is : (p : Place) (ts : List Test) (o : Out) → Passed ts → tried p ts o ≡ o
tried_is p [] o none = refl
tried_is p (t ∷ ts) o (more e a) = rw e (tried_is p ts o a)

pub tried_says : (p : Place) (ts : List Test) (o : Out) (k : Mapped) → tried p ts o ≡ found k → Passed ts × (o ≡ found k)
tried_says p [] o k q = (none, q)
tried_says p (t ∷ ts) o k q = ⊎_elim
    (λ x. no_fault x.1)
    (λ x. let r = tried_says p ts o k x.1 in (more x.0 r.0, r.1))
    (choose-cases t.fails q)

-- what is behind counts only where all pass
pub tried_same : (p : Place) (ts : List Test) (o r : Out) → (Passed ts → o ≡ r) → tried p ts o ≡ tried p ts r
tried_same p [] o r h = h none
tried_same p (t ∷ ts) o r h = by t.fails refl (λ e. tried_same p ts o r (λ a. h (more e a)))
  where
    by : (b : Bool) → t.fails ≡ b → (t.fails ≡ false → tried p ts o ≡ tried p ts r)
        → choose b (fault (at p t.kind)) (tried p ts o) ≡ choose b (fault (at p t.kind)) (tried p ts r)
    by true e ih = refl
    by false e ih = ih e
