-- What the rules give of a kept guest, and a word of its bits, where a number must fit.
use Prim.Native.Nat.{ℕ, ◌+◌, ◌*◌, ◌^◌, ◌≤◌, ◌<◌}
use native.Mathlib.Nat.{le_trans}
use native.Mathlib.Omega.{arith}
use mathlib.Core.Path.{◌≡◌}
use mathlib.Core.Bool.{true}
use lib.ListN.{length, get_or, take}
use lib.Seq.{length-take-le}
use borrow.Author.Tests.{eq-eqb}
use Rattle.lists.proofs.All.{all_at, from_all}
use Rattle.fields.proofs.Laws.{get_lt}
use Rattle.guest.specs.declared.Guest.{Guest}
use Rattle.guest.specs.Machine.{Machine, view}
use Rattle.rules.specs.Rules.{Kept, rules, limit_of, region_ok}
use Rattle.rules.proofs.Rows.{no_region}
use Rattle.rules.proofs.Parts.{RegionParts, region_parts}
use Rattle.rules.proofs.Facts.{sound_memory, sound_limit, sound_single, sound_frames}
use Rattle.frames.specs.Bases.{word_region}

-- the region at index i
pub region_at : (m : Machine) → rules m ≡ true → (i : ℕ) → i < length m.regions → RegionParts (2 ^ 52) (get_or m.regions i no_region)
region_at m e i h =
    let passes = all_at m.regions i no_region (from_all (region_ok (limit_of m)) m.regions (sound_frames m e).regions) h in
    let f = region_parts (limit_of m) (get_or m.regions i no_region) passes in
    record { aligned = f.aligned; some = f.some; small = f.small; ends = le_trans f.ends (sound_limit m e) }

-- a count has 12 bits
pub word_count : (w : ℕ) → (word_region w).count < 2 ^ 12
unfolding word_region
word_count w = get_lt w 52 12

module _ (g : Guest) (k : Kept g) where
  -- the width of addresses
  pub narrow : g.memory.width ≤ 52
  narrow = (sound_memory (view g) k.rules).narrow

  -- the end of a region
  pub region_end : (i : ℕ) → i < length (take g.regions.count g.regions.rows)
      → (get_or (take g.regions.count g.regions.rows) i no_region).base + 131072 * (get_or (take g.regions.count g.regions.rows) i no_region).count ≤ 2 ^ 52
  region_end i h = (region_at (view g) k.rules i h).ends

  -- the end of a VCPU's frame in the single run, after INIT
  pub run_end : (v : ℕ) → g.control.init ≡ 1 → g.frames.single.set ≡ 1 → length g.vcpus.rows ≡ 64 → v < g.vcpus.count
      → g.frames.single.base + 131072 * v < 2 ^ 52
  run_end v i s l h =
      let count : length (take g.vcpus.count g.vcpus.rows) ≡ g.vcpus.count = length-take-le g.vcpus.count g.vcpus.rows (rw l k.held.vcpus) in
      let f = (sound_single (view g) k.rules).ends s in
      let ends : g.frames.single.base + 131072 * length (take g.vcpus.count g.vcpus.rows) ≤ limit_of (view g) = rw (eq-eqb g.control.init 1 i) at f in
      let most = sound_limit (view g) k.rules in
      omega arith
