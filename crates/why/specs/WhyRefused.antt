-- Why a restore is refused: what is proved of the call that says so, over the one definition of all calls.
use Rattle.std.specs.Prelude.{ℕ, ◌<◌, ◌≡◌, ◌↔◌, List, ℤ, length}
use Rattle.answers.specs.Answer.{refusal, done}
use Rattle.layout.specs.Layout.{decode}
use Rattle.mapping.specs.Mapped.{Mapped}
use Rattle.maplayout.specs.MapLayout.{decode_map}
use Rattle.tables.specs.Fault.{Fault, kind_errno, code, Indexed}
use Rattle.described.specs.Described.{Described}
use Rattle.faults.specs.FaultAt.{FaultAt, Least}
use Rattle.state.specs.Sound.{Sound}
use Rattle.step.specs.Step.{step, its_restore, its_explain}
use Rattle.claims.specs.Demand3.{Ready}

-- Notation: what the two calls answer
abbrev pub explaining : List ℕ → List ℕ → ℤ
explaining s mem = (step its_explain s mem).answer

abbrev pub restoring : List ℕ → List ℕ → ℤ
restoring s mem = (step its_restore s mem).answer

-- §13.10: what a refusal says: a restore is refused with it; not all that §10.6 asks holds; what the bytes of memory are makes no
-- difference; and 22 is the errno of a state that is not sound alone (§13.2)
pub record Unread (s mem : List ℕ) (e : ℕ) : Type 0 where
  pub restore : restoring s mem ≡ refusal e
  pub unready : Ready s mem → ⊥
  pub any : (other : List ℕ) → length other ≡ length mem → explaining s other ≡ refusal e
  pub unsound : e ≡ 22 → Sound s → ⊥

-- §13.10: what an answer above 0 says: it is the code of a fault that is there, with none earlier, and a restore is refused with its errno
pub record Named (s mem : List ℕ) (n : ℕ) : Type 0 where
  pub ready : Ready s mem
  pub fault : Fault
  pub coded : n ≡ code fault
  pub least : Least (FaultAt (decode s) mem) fault
  pub restore : restoring s mem ≡ refusal (kind_errno fault.kind)

-- §13.10: what the answer 0 says: the bytes describe the mapping that a restore leaves
pub record Taken (s mem : List ℕ) : Type 0 where
  pub ready : Ready s mem
  pub mapping : Described (decode s) mem (decode_map (step its_restore s mem).state)

-- §13.10: `unread`, `described`, `taken`, `named`, `some`. §13.1: `state`, `memory`. §13.6: `codes`, of all faults that can be there by `indexed`.
-- A refusal by 0 would be the answer 0, so that `unread` is of those above it
pub record WhyRefused (s mem : List ℕ) : Type 0 where
  pub unread : (e : ℕ) → 0 < e → explaining s mem ≡ refusal e → Unread s mem e
  pub described : (explaining s mem ≡ done 0) ↔ (restoring s mem ≡ done 0)
  pub taken : explaining s mem ≡ done 0 → Taken s mem
  pub named : (n : ℕ) → 0 < n → explaining s mem ≡ done n → Named s mem n
  pub some : Ready s mem → ((f : Fault) × FaultAt (decode s) mem f) ↔ ((k : Mapped) → Described (decode s) mem k → ⊥)
  pub state : (step its_explain s mem).state ≡ s
  pub memory : (step its_explain s mem).lent ≡ mem
  pub indexed : Ready s mem → (f : Fault) → FaultAt (decode s) mem f → Indexed f.place
  pub codes : (f g : Fault) → Indexed f.place → Indexed g.place → code f ≡ code g → f ≡ g
