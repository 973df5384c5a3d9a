-- Save on lent bytes, and what stands in the way of a save or a restore.
use Prim.Native.Nat.{ℕ}
use native.Mathlib.Omega.{arith}
use mathlib.Core.Path.{◌≡◌, refl, ◌∙◌}
use mathlib.Core.Bool.{Bool, true, false}
use mathlib.Core.List.{List, [], ◌∷◌}
use lib.ListN.{length}
use lib.Dec.{eqb}
use borrow.Author.Tests.{ne_eqb, eqb-true}
use Rattle.lists.specs.Rows.{choose}
use Rattle.areas.proofs.Tests.{split}
use Rattle.answers.specs.Answer.{done}
use Rattle.guest.specs.Machine.{Machine, is_running}
use Rattle.mapping.specs.MapRules.{is_placed}
use Rattle.layout.specs.Layout.{decode}
use Rattle.maplayout.specs.MapLayout.{decode_map}
use Rattle.tables.specs.Saved.{saved_memory}
use Rattle.calls.specs.Commands.{its_initialised, ready, memory_fault}
use Rattle.calls.specs.Signed.{signed}
use Rattle.calls.specs.Call.{guarded, refused, saves, Gives}
use Rattle.calls.proofs.Laws.{stopped, passed, gives_refused, gives_done}
use Rattle.std.specs.Prelude.{Result, Err}
use Rattle.answers.specs.declared.Errno.{Errno}
use Rattle.answers.specs.Number.{number}
use Rattle.guest.proofs.Returned.{number_not_0}

-- no fault: the ITS is ready and the length is the memory's
abbrev code : Bool → Bool → Bool → ℕ
code a b c = choose a (choose b (choose c 16 0) 6) 14

no_fault : (a b c : Bool) → code a b c ≡ 0 → (a ≡ true) × (b ≡ true)
no_fault true true c e = (refl, refl)
no_fault true false c e = absurd (omega (arith, e))
no_fault false b c e = absurd (omega (arith, e))

module _ (len : ℕ) (m : Machine) (e : memory_fault len m ≡ 0) where
  faultless : (eqb len m.memory.length ≡ true) × (ready m ≡ true)
  unfolding memory_fault
  faultless = no_fault (eqb len m.memory.length) (ready m) (is_running m) e

  pub fault_long : len ≡ m.memory.length
  fault_long = eqb-true len m.memory.length faultless.0

  pub fault_placed : is_placed m ≡ true
  fault_placed = (split (its_initialised m) (is_placed m ∷ []) faultless.1).1

-- a save or a restore that is refused by its own three, and what it says of the call
module _ (s : List ℕ) (len : ℕ) where
  pub unready : {A : Type 0} (refuse : ℕ → A) (go : A) (e : Errno) → number e ≡ memory_fault len (decode s)
      → choose (eqb (memory_fault len (decode s)) 0) go (refuse (memory_fault len (decode s))) ≡ refuse (number e)
  unready refuse go e f = rw (← f, ne_eqb (number e) 0 (number_not_0 e))

  pub unstopped : {A : Type 0} (refuse : ℕ → A) (go : A) → 0 ≡ memory_fault len (decode s)
      → choose (eqb (memory_fault len (decode s)) 0) go (refuse (memory_fault len (decode s))) ≡ go
  unstopped refuse go f = rw (← f)

module _ (s mem : List ℕ) where
  pub save_refuses : (e : Errno) {o : Result Unit Errno} → o ≡ Err e → number e ≡ guarded (λ e. e) 0 s → Gives (saves s mem) (signed o) mem
  unfolding saves
  save_refuses e p q = gives_refused mem e p (stopped s (refused mem) _ e q)

  module _ (k : 0 ≡ guarded (λ e. e) 0 s) where
    pub save_fails : (e : Errno) {o : Result Unit Errno} → o ≡ Err e → number e ≡ memory_fault (length mem) (decode s) → Gives (saves s mem) (signed o) mem
    unfolding saves
    save_fails e p f = gives_refused mem e p (passed s (refused mem) _ k ∙ unready s (length mem) (refused mem) _ e f)

    pub save_done : (w : List ℕ) → 0 ≡ memory_fault (length mem) (decode s) → w ≡ saved_memory (decode s) (decode_map s) mem → Gives (saves s mem) (done 0) w
    unfolding saves
    save_done w f p = gives_done _ w (passed s (refused mem) _ k ∙ unstopped s (length mem) (refused mem) _ f) p
