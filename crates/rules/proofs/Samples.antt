-- A fresh guest keeps the rules; so does one with everything set up, and not once two frames share a byte. Assumes nothing.
use Prim.Native.Nat.{ℕ}
use mathlib.Core.Path.{◌≡◌, refl}
use mathlib.Core.Bool.{true, false}
use mathlib.Core.List.{[], ◌∷◌}
use lib.ListN.{replicate}
use Rattle.lists.specs.Rows.{all, find_ix}
use Rattle.fields.specs.Field.{get_field}
use Rattle.areas.specs.Area.{overlaps, ends_by, inside, struck, strikes, apart}
use Rattle.guest.specs.Machine.{Machine, fresh, no_bank, no_vcpu, bank_bits}
use Rattle.rules.specs.Standing.{standing, total}
use Rattle.rules.specs.Rules.{
  memory_ok,
  irqs_ok,
  control_ok,
  frame_ok,
  region_ok,
  frames_ok,
  init_ok,
  taken,
  distinct,
  vcpu_ok,
  vcpus_ok,
  bank_fits,
  last_ok,
  fresh_bank,
  fresh_vcpu,
  untouched,
  table_ok,
  tables_ok,
  its_ok,
  rules,
}
use Rattle.rules.proofs.Parts.{rules_whole}

pub fresh_sound : (width start size : ℕ) → memory_ok (record { width = width; start = start; length = size }) ≡ true → rules (fresh width start size) ≡ true
unfolding irqs_ok control_ok frame_ok all frames_ok apart standing init_ok vcpus_ok distinct bank_fits last_ok bank_bits fresh_bank fresh_vcpu untouched table_ok overlaps tables_ok its_ok
fresh_sound width start size e =
    rules_whole (fresh width start size)
    (record { memory = e; control = refl; frames = refl; init = refl; vcpus = refl; shared = refl; last = refl; untouched = refl; its = refl; tables = refl })

-- three VCPUs in the two regions of §12.5, the ITS frame at a given place, both tables placed, the VCPUs running
abbrev sample : ℕ → Machine
sample its = record {
  memory = record { width = 40; start = 0x40000000; length = 0x10000 };
  control = record { init = 1; running = 1; irqs = 64; irqsset = 1; status = 15; itsinit = 1 };
  frames = record {
    distributor = record { set = 1; base = 0x8000000 };
    single = record { set = 0; base = 0 };
    its = record { set = 1; base = its };
  };
  regions = record { base = 0x8080000; count = 1 } ∷ record { base = 0x80a0000; count = 4 } ∷ [];
  vcpus = no_vcpu 0 ∷ no_vcpu 1 ∷ no_vcpu 2 ∷ [];
  shared = replicate 1 no_bank;
  tables = record {
    devices = record { set = 1; start = 0x40000000; pages = 1 };
    collections = record { set = 1; start = 0x40001000; pages = 1 };
  };
}

pub sample_sound : rules (sample 0x8120000) ≡ true
unfolding rules memory_ok irqs_ok control_ok frame_ok region_ok ends_by all frames_ok apart strikes struck overlaps find_ix standing total init_ok vcpu_ok vcpus_ok taken distinct bank_fits last_ok bank_bits untouched table_ok inside tables_ok its_ok get_field
sample_sound = refl

-- §12.1: the second region ends at 0x08120000: a frame that starts 64 KiB before that overlaps it
pub sample_unsound : rules (sample 0x8110000) ≡ false
unfolding rules memory_ok irqs_ok control_ok frame_ok region_ok ends_by all frames_ok apart strikes struck overlaps find_ix standing total init_ok vcpu_ok vcpus_ok taken distinct bank_fits last_ok bank_bits untouched table_ok inside tables_ok its_ok get_field
sample_unsound = refl
