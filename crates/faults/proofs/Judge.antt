-- What is read, judged by a relation on faults: its fault is there and none earlier, or there is none at all. Assumes nothing.
use Prim.Native.Nat.{ℕ, suc, ◌≤◌, ◌<◌}
use native.Mathlib.Omega.{arith}
use mathlib.Core.Path.{◌≡◌, refl, sym, ap, subst}
use mathlib.Core.Bool.{Bool, true, false}
use mathlib.Core.Logic.{◌⊎◌, inl, inr, ⊎_elim, ◌↔◌}
use mathlib.Core.List.{List, [], ◌∷◌}
use Rattle.lists.specs.Rows.{choose}
use Rattle.lists.proofs.All.{none, more}
use Rattle.areas.proofs.Tests.{clash}
use Rattle.mapping.specs.Mapped.{Mapped}
use Rattle.tables.specs.Fault.{Place, Kind, Fault, at}
use Rattle.tables.specs.Restored.{Out, fault, found, and_then, Test, tried}
use Rattle.described.proofs.Tried.{Passed, no_fault}
use Rattle.faults.specs.FaultAt.{rank, Earlier, Least}
use Rattle.faults.proofs.Order.{same_place, not_self, total}

abbrev pub None : (Fault → Type 0) → Type 0
None There = (g : Fault) → There g → ⊥

abbrev pub Judged : (Fault → Type 0) → (Mapped → Type 0) → Out → Type 0
Judged There Read (fault f) = Least There f
Judged There Read (found k) = None There × Read k

-- one part and the rest: no fault of the rest is before one of the first
pub seq : (P P1 P2 : Fault → Type 0) (Q1 Q2 : Mapped → Type 0)
    → ((g : Fault) → P1 g → P g) → ((g : Fault) → P2 g → P g) → ((g : Fault) → P g → P1 g ⊎ P2 g)
    → ((f g : Fault) → P1 f → P2 g → Earlier g f → ⊥)
    → (o : Out) (rest : Mapped → Out) → Judged P1 Q1 o → ((k : Mapped) → Q1 k → Judged P2 Q2 (rest k)) → Judged P Q2 (and_then o rest)
seq P P1 P2 Q1 Q2 u v s ord (fault f) rest j h = record {
  there = u f j.there;
  none = λ g b p. ⊎_elim (λ x. j.none g b x) (λ x. ord f g j.there x b) (s g p);
}
seq P P1 P2 Q1 Q2 u v s ord (found k) rest j h = by (rest k) (h k j.1)
  where
    by : (o : Out) → Judged P2 Q2 o → Judged P Q2 o
    by (fault f) l = record { there = v f l.there; none = λ g b p. ⊎_elim (λ x. j.0 g x) (λ x. l.none g b x) (s g p) }
    by (found r) l = (λ g p. ⊎_elim (λ x. j.0 g x) (λ x. l.0 g x) (s g p), l.1)

-- the same faults
pub same : (P R : Fault → Type 0) (Q S : Mapped → Type 0) → ((g : Fault) → P g → R g) → ((g : Fault) → R g → P g) → ((k : Mapped) → Q k → S k)
    → (o : Out) → Judged P Q o → Judged R S o
same P R Q S u v w (fault f) j = record { there = u f j.there; none = λ g b p. j.none g b (v g p) }
same P R Q S u v w (found k) j = (λ g p. j.0 g (v g p), w k j.1)

-- the tests of one entry, ranks rising, and what is behind them
abbrev pub Ranked : ℕ → List Test → Type 0
Ranked n [] = Unit {0}
Ranked n (t ∷ ts) = (n ≤ rank t.kind) × Ranked (suc (rank t.kind)) ts

abbrev pub Some : Place → (Fault → Type 0) → List Test → Fault → Type 0
Some p R [] g = R g
Some p R (t ∷ ts) g = ((g ≡ at p t.kind) × (t.fails ≡ true)) ⊎ Some p R ts g

module _ (p : Place) (R : Fault → Type 0) (Q : Mapped → Type 0) (behind : (g : Fault) (c : Kind) → R g → Earlier g (at p c) → ⊥) where
  later : (n : ℕ) (ts : List Test) → Ranked n ts → (c : Kind) → rank c < n → (g : Fault) → Some p R ts g → Earlier g (at p c) → ⊥
  later n [] r c h g s b = behind g c s b
  later n (t ∷ ts) r c h g s b = ⊎_elim
      (λ x. let l = same_place p t.kind c (rw x.0 at b) in omega (arith, r.0))
      (λ x. later (suc (rank t.kind)) ts r.1 c (omega (arith, r.0)) g x b)
      s

  pub tried_judged : (n : ℕ) (ts : List Test) → Ranked n ts → (o : Out) → (Passed ts → Judged R Q o) → Judged (Some p R ts) Q (tried p ts o)
  tried_judged n [] r o h = h none
  tried_judged n (t ∷ ts) r o h = by t.fails refl (λ e. tried_judged (suc (rank t.kind)) ts r.1 o (λ a. h (more e a)))
    where
      by : (b : Bool) → t.fails ≡ b → (t.fails ≡ false → Judged (Some p R ts) Q (tried p ts o))
          → Judged (Some p R (t ∷ ts)) Q (choose b (fault (at p t.kind)) (tried p ts o))
      by true e ih = record {
        there = inl (refl, e);
        none = λ g b s. ⊎_elim
            (λ x. not_self (at p t.kind) (rw x.0 at b))
            (λ x. later (suc (rank t.kind)) ts r.1 t.kind (omega arith) g x b)
            s;
      }
      by false e ih =
          same (Some p R ts) (Some p R (t ∷ ts)) Q Q (λ g x. inr x) (λ g s. ⊎_elim (λ x. absurd (clash x.1 e)) (λ x. x) s) (λ k q. q) (tried p ts o) (ih e)

-- what is judged has exactly the least fault
pub judged_exact : (P : Fault → Type 0) (Q : Mapped → Type 0) (o : Out) → Judged P Q o → (f : Fault) → (o ≡ fault f) ↔ Least P f
judged_exact P Q (fault x) j f = (
  λ e. let q : x ≡ f = cc in subst (Least P) q j,
  λ l. ⊎_elim
      (λ b. absurd (l.none x b j.there))
      (λ s. ⊎_elim (λ e. ap fault e) (λ b. absurd (j.none f b l.there)) s)
      (total x f),
)
judged_exact P Q (found k) j f = (λ e. no_fault (sym e), λ l. absurd (j.0 f l.there))
