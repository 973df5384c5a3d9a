-- How every call but set-up begins. Assumes nothing.
use Prim.Native.Nat.{ℕ}
use native.Mathlib.Omega.{arith}
use mathlib.Core.Path.{◌≡◌, refl, ap, ◌∙◌}
use mathlib.Core.Bool.{Bool}
use mathlib.Core.Logic.{◌⊎◌, inl, inr}
use mathlib.Core.List.{List}
use lib.ListN.{length}
use lib.Dec.{eqb}
use borrow.Author.Tests.{eq-eqb, eqb-true}
use Rattle.lists.specs.Rows.{choose}
use Rattle.kept.proofs.Choice.{chosen, choose_by}
use Rattle.answers.specs.Answer.{done}
use Rattle.answers.proofs.Laws.{refusal_once, refusal_not_done}
use Rattle.calls.specs.Call.{Reply, refused}
use Rattle.words.proofs.Bytes.{Bytes}
use Rattle.xicsrows.specs.XicsLayout.{size}
use Rattle.xicsrules.specs.Sound.{sound_xics, SoundXics}
use Rattle.xics.specs.declared.XicsChange.{XicsChange}
use Rattle.xics.specs.Calls.{guarded_xics, change_fault, changed, settled_xics, changes_xics}

-- on any bytes: refused with 14 or 22, or what the call itself does
pub guard : {A : Type 0} (P : A → Type 0) (refuse : ℕ → A) {go : A} (s : List ℕ) → P (refuse 14) → P (refuse 22) → P go → P (guarded_xics refuse go s)
guard P refuse s a b c = chosen P (eqb (length s) size) (chosen P (sound_xics s) c b) a

-- on sound bytes: what the call itself does
pub guard_sound : {A : Type 0} (refuse : ℕ → A) (go : A) (s : List ℕ) → SoundXics s → guarded_xics refuse go s ≡ go
guard_sound refuse go s ok = rw (eq-eqb (length s) size ok.long, ok.rules)

-- a call that may change a sound XICS
module _ (c : XicsChange) (s : List ℕ) (ok : SoundXics s) where
  abbrev pub accepts : Reply
  accepts = record { answer = done 0; lent = changed c s }

  pub change_sound : changes_xics c s ≡ settled_xics (change_fault c s) (changed c s) s
  unfolding changes_xics
  change_sound = guard_sound (refused s) (settled_xics (change_fault c s) (changed c s) s) s ok

  -- without a fault it leaves what is said, with one it is refused
  pub no_fault : change_fault c s ≡ 0 → changes_xics c s ≡ accepts
  no_fault e = change_sound ∙ ap (λ (b : Bool). choose b accepts (refused s (change_fault c s))) (eq-eqb _ 0 e)

  -- so what holds of the bytes as they were, and of those that it leaves where there is no fault, holds of what it leaves
  pub change_by : (P : Reply → Type 0) → (change_fault c s ≡ 0 → P accepts) → ((e : ℕ) → P (refused s e)) → P (changes_xics c s)
  change_by P good bad = rw change_sound (choose_by P (eqb (change_fault c s) 0) (λ e. good (eqb-true _ 0 e)) (λ e. bad (change_fault c s)))

  -- and an answer of 0 is no refusal
  pub accepted_fault : (changes_xics c s).answer ≡ done 0 → change_fault c s ≡ 0
  accepted_fault h = from (rw change_sound at h)
    where
      from : (settled_xics (change_fault c s) (changed c s) s).answer ≡ done 0 → change_fault c s ≡ 0
      from = choose_by (λ (r : Reply). r.answer ≡ done 0 → change_fault c s ≡ 0) (eqb (change_fault c s) 0)
          (λ e h. eqb-true _ 0 e) (λ e h. refusal_once (change_fault c s) 0 h)

-- a call is accepted on sound bytes alone
pub accepted_sound : (c : XicsChange) (s : List ℕ) → Bytes s → (changes_xics c s).answer ≡ done 0 → SoundXics s
unfolding changes_xics
accepted_sound c s b =
    choose_by (λ (r : Reply). r.answer ≡ done 0 → SoundXics s) (eqb (length s) size)
    (λ l. choose_by (λ (r : Reply). r.answer ≡ done 0 → SoundXics s) (sound_xics s)
    (λ q h. record { bytes = b; long = eqb-true (length s) size l; rules = q })
    (λ q h. absurd (refusal_not_done 22 0 (omega arith) h)))
    (λ l h. absurd (refusal_not_done 14 0 (omega arith) h))

-- on bytes that are not sound it changes nothing
pub sound_or_still : (c : XicsChange) (s : List ℕ) → Bytes s → SoundXics s ⊎ ((changes_xics c s).lent ≡ s)
unfolding changes_xics
sound_or_still c s b =
    choose_by (λ (r : Reply). SoundXics s ⊎ (r.lent ≡ s)) (eqb (length s) size)
    (λ l. choose_by (λ (r : Reply). SoundXics s ⊎ (r.lent ≡ s)) (sound_xics s)
    (λ q. inl (record { bytes = b; long = eqb-true (length s) size l; rules = q }))
    (λ q. inr refl))
    (λ l. inr refl)
