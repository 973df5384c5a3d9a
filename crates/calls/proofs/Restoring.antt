-- Restore on lent bytes: the ends of the call.
use Prim.Native.Nat.{ℕ}
use native.Mathlib.Omega.{arith}
use mathlib.Core.Path.{◌≡◌, refl, sym, ap, ◌∙◌, subst}
use mathlib.Core.Bool.{true}
use mathlib.Core.Logic.{⊎_elim}
use mathlib.Core.List.{List}
use lib.ListN.{length}
use Rattle.answers.specs.Answer.{done}
use Rattle.layout.specs.Layout.{size, decode}
use Rattle.tables.specs.Fault.{kind_errno}
use Rattle.tables.specs.Restored.{Out, fault, found, restored}
use Rattle.described.proofs.Faults.{Known, number_known}
use Rattle.restore.specs.Restores.{errno_of, Restorable, Leaves, Restores}
use Rattle.std.specs.Prelude.{Result, Ok, Err}
use Rattle.answers.specs.declared.Errno.{Errno}
use Rattle.answers.specs.Number.{number}
use Rattle.guest.proofs.Returned.{number_not_0}
use Rattle.calls.specs.Commands.{memory_fault}
use Rattle.state.specs.Sound.{sound}
use Rattle.calls.specs.Signed.{signed}
use Rattle.calls.specs.Call.{guarded, refused, restores, restored_to, Gives}
use Rattle.calls.proofs.Laws.{parts, stopped, passed, gives_refused, gives_done}
use Rattle.calls.proofs.Saving.{fault_long, fault_placed, unready, unstopped}

-- no fault has the errno 0
some_known : (e : ℕ) → Known e → e ≡ 0 → ⊥
some_known e k z = ⊎_elim (λ p. omega (arith, p, z)) (⊎_elim (λ p. omega (arith, p, z)) (λ p. omega (arith, p, z))) k

-- what a restore asks of a copy of sound bytes, and what it says of them
pub restorable : (s : List ℕ) → length s ≡ size → sound s ≡ true → (len : ℕ) → memory_fault len (decode s) ≡ 0 → (t : List ℕ) → t ≡ s → Restorable t len
restorable s h q len y t e =
    let p = parts s q in
    subst (λ (x : List ℕ). Restorable x len) (sym e)
    (record {
      counted = record { long = h; counts = p.counts };
      rules = p.guest;
      placed = fault_placed len (decode s) y;
      memory = fault_long len (decode s) y;
    })

pub as_of : (mem : List ℕ) {A : Type 0} {what : Out → A} {s t left : List ℕ} {r : A} → t ≡ s
    → Leaves what t (restored (decode t) mem) r left → Leaves what s (restored (decode s) mem) r left
as_of mem {A} {what} {s} {t} {left} {r} e d = subst (λ (x : List ℕ). Leaves what x (restored (decode x) mem) r left) e d

module _ (s mem : List ℕ) where
  pub restore_refuses : (e : Errno) {o : Result Unit Errno} → o ≡ Err e → number e ≡ guarded (λ e. e) 0 s → Gives (restores s mem) (signed o) s
  unfolding restores
  restore_refuses e p q = gives_refused s e p (stopped s (refused s) _ e q)

  module _ (k : 0 ≡ guarded (λ e. e) 0 s) where
    pub restore_unready : (e : Errno) {o : Result Unit Errno} → o ≡ Err e → number e ≡ memory_fault (length mem) (decode s) → Gives (restores s mem) (signed o) s
    unfolding restores
    restore_unready e p f = gives_refused s e p (passed s (refused s) _ k ∙ unready s (length mem) (refused s) _ e f)

    module _ (f : 0 ≡ memory_fault (length mem) (decode s)) where
      restore_called : (o : Out) → restored (decode s) mem ≡ o → restores s mem ≡ restored_to s o
      unfolding restores
      restore_called o x = passed s (refused s) _ k ∙ unstopped s (length mem) (refused s) _ f ∙ ap (restored_to s) x

      pub restore_faulty : (e : Errno) {o : Result Unit Errno} {left : List ℕ} → o ≡ Err e → Restores s (restored (decode s) mem) (Err e) left → Gives (restores s mem) (signed o) s
      restore_faulty e {o = o} p d = by (restored (decode s) mem) refl
        where
          by : (x : Out) → restored (decode s) mem ≡ x → Gives (restores s mem) (signed o) s
          by (fault g) x = gives_refused s e p (restore_called (fault g) x ∙ ap (refused s) (sym (d.is ∙ ap errno_of x)))
          by (found m) x = absurd (number_not_0 e (d.is ∙ ap errno_of x))

      pub restore_done : {left : List ℕ} (w : List ℕ) → Restores s (restored (decode s) mem) (Ok tt) left → w ≡ left → Gives (restores s mem) (done 0) w
      restore_done w d p = by (restored (decode s) mem) refl
        where
          by : (x : Out) → restored (decode s) mem ≡ x → Gives (restores s mem) (done 0) w
          by (fault g) x = absurd (some_known (kind_errno g.kind) (number_known g.kind) (sym (d.is ∙ ap errno_of x)))
          by (found m) x = gives_done _ w (restore_called (found m) x) (p ∙ d.stored m x)
