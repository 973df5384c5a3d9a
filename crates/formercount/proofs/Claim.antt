-- A state that was sound while a fresh guest had 256 interrupts is sound still and means the same guest, as one statement over soundness and
-- the calls as they last were then (Former) and as they are.
use Prim.Native.Nat.{ℕ}
use mathlib.Core.Path.{◌≡◌}
use mathlib.Core.Logic.{◌⊎◌}
use mathlib.Core.List.{List, [], ◌∷◌}
use Rattle.lists.proofs.All.{All}
use Rattle.words.proofs.Bytes.{Bytes}
use Rattle.guest.specs.Machine.{Machine}
use Rattle.layout.specs.Layout.{decode}
use Rattle.state.specs.Sound.{Sound}
use Rattle.step.specs.Step.{Call, After, step, setup}
use Rattle.claims.specs.Claims.{Passed}
use Rattle.claims.specs.Demand3.{Accepted, Turn, Given}
use Rattle.formercount.proofs.Former.{FormerSound, former_step}

-- every call but set-up, which makes another guest
abbrev pub GoesOn : Call → Type 0
GoesOn c = (width start len : ℕ) → c ≡ setup width start len → ⊥

-- what calls one by one answer and leave, each made on what the one before it left in the state
abbrev pub each : (Call → List ℕ → List ℕ → After) → List Turn → List ℕ → List After
each does [] s = []
each does (x ∷ xs) s = does x.call s x.lent ∷ each does xs (does x.call s x.lent).state

-- an interrupt count of 64 that was not set; and one that was set, or is 64
pub record Smaller (m : Machine) : Type 0 where
  pub irqs : m.control.irqs ≡ 64
  pub unset : m.control.irqsset ≡ 0

abbrev pub Today : Machine → Type 0
Today m = (m.control.irqsset ≡ 1) ⊎ (m.control.irqs ≡ 64)

-- sound: what was sound is sound. only: nothing else has become sound but guests with the new count. same: a call on such a state that is no
-- set-up answers, and leaves in the state and in what is lent, what it did. stays, made: what it left was such a state again, and so was what
-- set-up made, so that this holds of all that the library left. always: so of any list of calls without a set-up each answers and leaves what
-- it did. none: no call, set-up too, makes a count other than 64 that is not set.
pub record FormerKept : Type 0 where
  pub sound : (s : List ℕ) → FormerSound s → Sound s
  pub only : (s : List ℕ) → Sound s → FormerSound s ⊎ Smaller (decode s)
  pub same : (s : List ℕ) → FormerSound s → (c : Call) (v : List ℕ) → GoesOn c → former_step c s v ≡ step c s v
  pub stays : (s : List ℕ) → FormerSound s → (c : Call) (v : List ℕ) → GoesOn c → Passed c → Bytes v → FormerSound (former_step c s v).state
  pub made : (s : List ℕ) (width start len : ℕ) (v : List ℕ) → Bytes s → Accepted (former_step (setup width start len) s v)
      → FormerSound (former_step (setup width start len) s v).state
  pub always : (s : List ℕ) → FormerSound s → (turns : List Turn) → All Given turns → All (λ x. GoesOn x.call) turns
      → each former_step turns s ≡ each step turns s
  pub none : (s : List ℕ) → Sound s → Today (decode s) → (c : Call) (v : List ℕ) → Passed c → Bytes v → Today (decode (step c s v).state)
