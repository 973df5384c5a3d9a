-- A restore accepts exactly the bytes that describe a mapping, and reads that mapping.
use Prim.Native.Nat.{ℕ}
use native.Mathlib.Omega.{arith}
use mathlib.Core.Path.{◌≡◌, refl}
use mathlib.Core.Bool.{true}
use mathlib.Core.Logic.{◌↔◌}
use mathlib.Core.List.{List}
use lib.ListN.{length}
use Rattle.guest.specs.Machine.{Machine}
use Rattle.rules.specs.Rules.{rules}
use Rattle.mapping.specs.Mapped.{Mapped}
use Rattle.mapping.specs.MapRules.{is_placed, map_rules}
use Rattle.described.specs.Described.{Described}
use Rattle.tables.specs.Fault.{Fault}
use Rattle.tables.specs.Restored.{Out, fault, found, restored}
use Rattle.described.proofs.Sound.{sound}
use Rattle.described.proofs.Complete.{complete}

module _ (m : Machine) (mem : List ℕ) where
  -- at most one mapping is described
  pub described_unique : (k h : Mapped) → Described m mem k → Described m mem h → k ≡ h
  described_unique k h p q =
      let a = complete m mem k p in
      let b = complete m mem h q in
      cc

  -- a refused restore: nothing is described
  pub refused_undescribed : (f : Fault) → restored m mem ≡ fault f → (k : Mapped) → Described m mem k → ⊥
  refused_undescribed f p k d =
      let a = complete m mem k d in
      let z : ◌≡◌ {A = ℕ} 0 1 = cc in
      omega arith

  -- a sound guest with its tables placed, and the whole of its memory
  module _ (r : rules m ≡ true) (p : is_placed m ≡ true) (n : length mem ≡ m.memory.length) where
    -- an accepted restore: what it reads is described
    pub accepted_described : (k : Mapped) → restored m mem ≡ found k → Described m mem k
    accepted_described k e = sound m mem k r p n e

    pub exact : (k : Mapped) → (restored m mem ≡ found k) ↔ Described m mem k
    exact k = (accepted_described k, complete m mem k)

    -- §10.6: it is refused exactly where nothing is described
    pub refused_exact : ((f : Fault) × (restored m mem ≡ fault f)) ↔ ((k : Mapped) → Described m mem k → ⊥)
    refused_exact = (λ q. refused_undescribed q.0 q.1, λ n. by n (restored m mem) refl)
      where
        by : ((k : Mapped) → Described m mem k → ⊥) → (o : Out) → restored m mem ≡ o → (f : Fault) × (restored m mem ≡ fault f)
        by n (fault f) q = (f, q)
        by n (found k) q = absurd (n k (accepted_described k q))

    -- the mapping that is read keeps the rules
    pub restored_ok : (k : Mapped) → restored m mem ≡ found k → map_rules m k ≡ true
    unfolding map_rules
    restored_ok k e = rw p (accepted_described k e).allowed
