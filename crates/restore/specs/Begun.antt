-- Bytes into which a restore has read so far, and the promise of each of its parts.
use Rattle.std.specs.Prelude.{ℕ, ◌≡◌, true, List, Result, Ok, Err, ⊤}
use Rattle.lists.specs.Rows.{all}
use Rattle.guest.specs.Machine.{Machine}
use Rattle.rules.specs.Rules.{rules}
use Rattle.mapping.specs.Mapped.{Mapped}
use Rattle.mapping.specs.MapWords.{MapWords}
use Rattle.layout.specs.Layout.{decode, Counted}
use Rattle.maplayout.specs.MapLayout.{stored_map}
use Rattle.maplayout.proofs.Round.{MapRoom}
use Rattle.tables.specs.Fault.{Place, Fault, at, Indexed}
use Rattle.tables.specs.Restored.{Out, fault, found}
use Rattle.codes.specs.Codes.{kind_is, fault_is}
use Rattle.codes.specs.declared.Kind as kinds
use Rattle.codes.specs.declared.Fault as faults
use Rattle.restore.specs.Parts.{few_bits}

-- Inner: s is s₀ with the mapping k stored in it: k was read so far, and fits its place in the bytes
pub record Over (s₀ : List ℕ) (k : Mapped) (s : List ℕ) : Type 0 where
  pub guest : Counted s₀
  pub rules : rules (decode s₀) ≡ true
  pub room : MapRoom k
  pub words : MapWords k
  pub few : all few_bits k.devices ≡ true
  pub is : s ≡ stored_map k s₀

-- Inner: a mapping was read into s, over some bytes
pub record Begun (s : List ℕ) : Type 0 where
  pub from : List ℕ
  pub rows : Mapped
  pub over : Over from rows s

-- Inner: what a part says of the fault that it meets: all of it; or, of the entry at a known place, its kind alone
abbrev pub ByFault : Fault → faults.Fault → Type 0
ByFault f e = Indexed f.place × (f ≡ fault_is e)

abbrev pub ByKind : Place → Fault → kinds.Kind → Type 0
ByKind p f c = f ≡ at p (kind_is c)

-- Inner: what is said of the fault, or the mapping that the bytes now hold
pub record Gives {E : Type 0} (Says : Fault → E → Type 0) (s₀ : List ℕ) (out : Out) (r : Result ⊤ E) (s : List ℕ) : Type 0 where
  pub stops : (e : E) → r ≡ Err e → (f : Fault) × (out ≡ fault f) × Says f e
  pub reads : r ≡ Ok tt → (k : Mapped) × (out ≡ found k) × Over s₀ k s

-- Inner: a part of a restore, on whatever mapping was read before it
abbrev pub Steps : {E : Type 0} → (Fault → E → Type 0) → (Machine → Mapped → Out) → List ℕ → Result ⊤ E → List ℕ → Type 0
Steps Says part s r t = (s₀ : List ℕ) (k : Mapped) → Over s₀ k s → Gives Says s₀ (part (decode s₀) k) r t
