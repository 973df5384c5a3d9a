-- What is known of a sound guest: of a machine that keeps the rules, and of a struct that passed the test. Assumes nothing.
use Prim.Native.Nat.{ℕ, ◌^◌, ◌≤◌, ◌<◌}
use native.Mathlib.Omega.{arith}
use mathlib.Core.Path.{◌≡◌, refl}
use mathlib.Core.Bool.{true}
use mathlib.Core.List.{List, [], ◌∷◌}
use lib.ListN.{length, get_or}
use lib.Pow.{pow_mono}
use borrow.Author.Tests.{lt-ltb}
use Rattle.lists.specs.Rows.{all}
use Rattle.guest.specs.declared.Region.{Region}
use Rattle.guest.specs.declared.Guest.{Guest}
use Rattle.guest.specs.Machine.{Machine, view, no_bank, shared_count, bank_bits}
use Rattle.guest.specs.Words.{BankFits}
use Rattle.rules.specs.Standing.{run_size, small_count, Small, distributor_size, its_size}
use Rattle.rules.specs.Rules.{region_ok, limit_of, last_ok, rules, Kept}
use Rattle.rules.proofs.Rows.{no_region, row_passes, all_weaker}
use Rattle.rules.proofs.Parts.{MemoryParts, IrqsParts, ControlParts, FrameParts, RegionParts, FramesParts, InitParts, VcpusParts, UntouchedParts, TableParts, TablesParts, memory_parts, irqs_parts, control_parts, frame_parts, region_parts, frames_parts, init_parts, vcpus_parts, fits_parts, untouched_parts, table_parts, tables_parts, its_parts, rules_parts}

none_left : {A : Type 0} (l : List A) → length l ≡ 0 → l ≡ []
none_left [] e = refl
none_left (x ∷ l) e = absurd (omega arith)

-- regions that are right have counts of 12 bits
pub regions_small : (limit : ℕ) (l : List Region) → all (region_ok limit) l ≡ true → all small_count l ≡ true
regions_small limit l e = all_weaker (region_ok limit) small_count (λ (r : Region) q. lt-ltb r.count 4096 (region_parts limit r q).small) l e

module _ (m : Machine) (e : rules m ≡ true) where
  pub sound_memory : MemoryParts m.memory
  sound_memory = memory_parts m.memory (rules_parts m e).memory

  pub sound_limit : limit_of m ≤ 2 ^ 52
  sound_limit = pow_mono sound_memory.narrow

  pub sound_control : ControlParts m.control
  sound_control = control_parts m.control (rules_parts m e).control

  pub sound_irqs : IrqsParts m.control.irqs
  sound_irqs = irqs_parts m.control.irqs sound_control.irqs

  pub sound_frames : FramesParts m
  sound_frames = frames_parts m (rules_parts m e).frames

  -- a base that is set is a multiple of 65,536, and its frame ends by 2^p
  pub sound_distributor : FrameParts (limit_of m) distributor_size m.frames.distributor
  sound_distributor = frame_parts (limit_of m) distributor_size m.frames.distributor sound_frames.distributor

  pub sound_single : FrameParts (limit_of m) (run_size m) m.frames.single
  sound_single = frame_parts (limit_of m) (run_size m) m.frames.single sound_frames.single

  pub sound_its : FrameParts (limit_of m) its_size m.frames.its
  sound_its = frame_parts (limit_of m) its_size m.frames.its sound_frames.its

  pub sound_small : all small_count m.regions ≡ true
  sound_small = regions_small (limit_of m) m.regions sound_frames.regions

  -- single run or regions
  pub sound_no_regions : m.frames.single.set ≡ 1 → m.regions ≡ []
  sound_no_regions h = none_left m.regions (sound_frames.either h)

  pub sound_init : m.control.init ≡ 1 → InitParts m
  sound_init h = init_parts m (rules_parts m e).init h

  pub sound_vcpus : VcpusParts m.vcpus
  sound_vcpus = vcpus_parts m.vcpus (rules_parts m e).vcpus

  pub sound_shared : length m.shared ≡ shared_count m.control.irqs
  sound_shared = (rules_parts m e).shared

  -- the last bank has no bit past its interrupts; before INIT no bank and no STATUSR was written
  pub sound_last : BankFits (bank_bits 30) (get_or m.shared 30 no_bank)
  unfolding last_ok
  sound_last = fits_parts (bank_bits 30) (get_or m.shared 30 no_bank) (rules_parts m e).last

  pub sound_untouched : (m.control.init ≡ 1 → ⊥) → UntouchedParts m
  sound_untouched n = untouched_parts m (rules_parts m e).untouched n

  pub sound_its_base : m.control.itsinit ≡ 1 → m.frames.its.set ≡ 1
  sound_its_base h = omega (arith, its_parts m (rules_parts m e).its, sound_its.mark)

  pub sound_tables : TablesParts m
  sound_tables = tables_parts m (rules_parts m e).tables

  pub sound_devices : TableParts m.memory m.tables.devices
  sound_devices = table_parts m.memory m.tables.devices sound_tables.devices

  pub sound_collections : TableParts m.memory m.tables.collections
  sound_collections = table_parts m.memory m.tables.collections sound_tables.collections

-- of a struct; that a count is within its array is a fact of the array's type
module _ (g : Guest) (k : Kept g) where
  pub kept_small : Small g
  kept_small = record { held = k.held; counts = sound_small (view g) k.rules }

  pub kept_row : g.regions.count ≤ length g.regions.rows → (i : ℕ) → i < g.regions.count → RegionParts (2 ^ g.memory.width) (get_or g.regions.rows i no_region)
  kept_row f i h =
      region_parts (limit_of (view g)) (get_or g.regions.rows i no_region)
      (row_passes (region_ok (limit_of (view g))) no_region g.regions.count g.regions.rows i f h (sound_frames (view g) k.rules).regions)
