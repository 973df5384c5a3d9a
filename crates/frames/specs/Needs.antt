-- What VGIC INIT asks of a guest (§3.11), in plain arithmetic: the claims cite it (§10.5), and no code does.
use Rattle.std.specs.Prelude.{ℕ, ◌+◌, ◌*◌, ◌^◌, ◌≤◌, ◌<◌, ◌≡◌, ◌≢◌, ◌⊎◌, length}
use mathlib.Core.List.{List, foldr}
use Rattle.lists.proofs.All.{All}
use Rattle.guest.specs.declared.Region.{Region}
use Rattle.guest.specs.Machine.{Machine}

-- §3.4: the addresses of a run of bytes, and two runs that do not overlap, as no byte belongs to both
abbrev pub In : ℕ → ℕ → ℕ → Type 0
In start size x = (start ≤ x) × (x < start + size)

abbrev pub Apart : ℕ → ℕ → ℕ → ℕ → Type 0
Apart start size start' size' = (x : ℕ) → In start size x → In start' size' x → ⊥

-- Notation: the sum of the regions' counts, of which §3.11 speaks
abbrev pub counts : List Region → ℕ
counts rs = foldr (λ r n. r.count + n) 0 rs

-- §3.11: the single run fits in its whole size, 131,072 bytes for each VCPU (§3.6). It ends at or below 2 ^ width, and has no byte in
-- common with the distributor's 65,536, a region's 131,072 for each of its count, or the ITS frame's 131,072 (§3.3).
pub record RunFits (m : Machine) : Type 0 where
  pub ends : m.frames.single.base + 131072 * length m.vcpus ≤ 2 ^ m.memory.width
  pub distributor : m.frames.distributor.set ≡ 1
      → Apart m.frames.single.base (131072 * length m.vcpus) m.frames.distributor.base 65536
  pub its : m.frames.its.set ≡ 1 → Apart m.frames.single.base (131072 * length m.vcpus) m.frames.its.base 131072
  pub regions : All (λ r. Apart m.frames.single.base (131072 * length m.vcpus) r.base (131072 * r.count)) m.regions

-- §3.11: all that a first INIT needs, a VCPU, the distributor's base, and a place for every redistributor, in the single run or in the
-- regions. §10.5: INIT is accepted exactly where it was done earlier or this holds.
pub record InitNeeds (m : Machine) : Type 0 where
  pub vcpus : 1 ≤ length m.vcpus
  pub distributor : m.frames.distributor.set ≡ 1
  pub places : ((m.frames.single.set ≡ 1) × RunFits m) ⊎ ((m.frames.single.set ≢ 1) × (length m.vcpus ≤ counts m.regions))
