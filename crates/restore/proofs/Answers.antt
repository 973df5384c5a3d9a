-- What the parts of a restore hand back, and how a fault ends what comes after it. Assumes nothing.
use Prim.Native.Nat.{ℕ}
use native.Mathlib.Omega.{arith}
use mathlib.Core.Path.{◌≡◌, refl, sym, ap, ◌∙◌}
use mathlib.Core.List.{List}
use Rattle.std.specs.Prelude.{Result, Ok, Err, ⊤}
use Rattle.std.specs.Result.{MatchResult, IsErrAnd}
use Rattle.std.proofs.lemmas.Result.{err_from_is_err_and}
use Rattle.guest.specs.Machine.{Machine}
use Rattle.mapping.specs.Mapped.{Mapped}
use Rattle.layout.specs.Layout.{decode}
use Rattle.tables.specs.Fault.{Place, Fault, at, Indexed}
use Rattle.tables.specs.Restored.{Out, fault, found, and_then}
use Rattle.codes.specs.Codes.{kind_is, place_is}
use Rattle.codes.specs.declared.Kind as kinds
use Rattle.codes.specs.declared.Place as places
use Rattle.codes.specs.declared.Fault as faults
use Rattle.restore.specs.Begun.{Over, ByFault, ByKind, Gives, Steps}

-- no answer is both
abbrev tag : {E : Type 0} → Result ⊤ E → ℕ
tag (Ok u) = 0
tag (Err e) = 1

pub not_both : {E : Type 0} {e : E} → ◌≡◌ {A = Result ⊤ E} (Err e) (Ok tt) → ⊥
not_both p = let n = ap tag p in omega arith

pub same_fault : {E : Type 0} (e x : E) → ◌≡◌ {A = Result ⊤ E} (Err e) (Err x) → e ≡ x
same_fault e x p = cc

says_same : {E : Type 0} (Says : Fault → E → Type 0) (f : Fault) (e x : E) → e ≡ x → Says f e → Says f x
says_same Says f e x p q = rw p at q

module _ {E : Type 0} {Says : Fault → E → Type 0} {s₀ : List ℕ} {out : Out} {s : List ℕ} where
  pub gives_fault : (f : Fault) (e : E) → Says f e → fault f ≡ out → Gives Says s₀ out (Err e) s
  gives_fault f e q p = record { stops = λ x y. (f, sym p, says_same Says f e x (same_fault e x y) q); reads = λ y. absurd (not_both y) }

  pub gives_found : (k : Mapped) → Over s₀ k s → found k ≡ out → Gives Says s₀ out (Ok tt) s
  gives_found k o p = record { stops = λ e y. absurd (not_both (sym y)); reads = λ y. (k, sym p, o) }

  module _ {r : Result ⊤ E} (v : Gives Says s₀ out r s) where
    pub gives_as : {to : Out} → out ≡ to → Gives Says s₀ to r s
    gives_as p = record {
      stops = λ e y. ((v.stops e y).0, sym p ∙ (v.stops e y).1, (v.stops e y).2);
      reads = λ y. ((v.reads y).0, sym p ∙ (v.reads y).1, (v.reads y).2);
    }

    -- a fault is the whole answer
    pub stopped : (e : E) → r ≡ Err e → (f : Mapped → Out) → Gives Says s₀ (and_then out f) (Err e) s
    stopped e y f =
        let a = v.stops e y in
        record { stops = λ x q. (a.0, rw a.1, says_same Says a.0 e x (same_fault e x q) a.2); reads = λ q. absurd (not_both q) }

    -- with no fault the mapping goes on
    pub went : (y : r ≡ Ok tt) (f : Mapped → Out) → and_then out f ≡ f (v.reads y).0
    went y f = rw (v.reads y).1

-- the same part in other words
pub steps_as : {s : List ℕ} {r : Result ⊤ faults.Fault} {u : List ℕ} (p q : Machine → Mapped → Out) → ((m : Machine) (k : Mapped) → p m k ≡ q m k)
    → Steps ByFault p s r u → Steps ByFault q s r u
steps_as p q e v z k o = gives_as (v z k o) (e (decode z) k)

-- a kind of fault at a place
pub gives_kind : {s₀ : List ℕ} {out : Out} {s : List ℕ} (p : Place) (c : kinds.Kind) → fault (at p (kind_is c)) ≡ out → Gives (ByKind p) s₀ out (Err c) s
gives_kind p c e = gives_fault (at p (kind_is c)) c refl e

-- a kind with its place is a fault, as a closure makes it
module _ (place : places.Place) (i : Indexed (place_is place)) (part : Machine → Mapped → Out) (s u : List ℕ) where
  pub kind_stops : (Q : kinds.Kind → faults.Fault → Type 0) → ((c : kinds.Kind) (f : faults.Fault) → Q c f → f ≡ record { kind = c; place = place })
      → (r : Result ⊤ kinds.Kind) → ((c : kinds.Kind) → r ≡ Err c → Steps (ByKind (place_is place)) part s (Err c) u) → (e : Result ⊤ faults.Fault)
      → MatchResult r (λ x. e ≡ Ok x) (λ c. IsErrAnd e (Q c)) → (f : faults.Fault) → e ≡ Err f → Steps ByFault part s (Err f) u
  kind_stops Q makes (Ok x) v e q f y z k o = absurd (not_both (sym y ∙ q))
  kind_stops Q makes (Err c) v e q f y z k o =
      let g = (v c refl z k o).stops c refl in
      let h = err_from_is_err_and e q in
      let m : f ≡ record { kind = c; place = place } = same_fault f h.0 (sym y ∙ h.1) ∙ makes c h.0 h.2 in
      gives_fault g.0 f (rw g.2 i, rw (g.2, m)) (sym g.1)

pub kind_none : (Q : kinds.Kind → faults.Fault → Type 0) (r : Result ⊤ kinds.Kind) (e : Result ⊤ faults.Fault)
    → MatchResult r (λ x. e ≡ Ok x) (λ c. IsErrAnd e (Q c)) → e ≡ Ok tt → r ≡ Ok tt
kind_none Q (Ok x) e q y = refl
kind_none Q (Err c) e q y = let h = err_from_is_err_and e q in absurd (not_both (sym h.1 ∙ y))
