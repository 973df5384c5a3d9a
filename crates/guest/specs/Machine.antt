-- The guest as a reader has it: tables are lists of the rows in use, with no arrays and no counts.
use Rattle.std.specs.Prelude.{ℕ, ◌≤◌, ◌/◌, ◌-◌, Bool, List, [], take, replicate, eqb}
use Rattle.lists.specs.Rows.{choose}
use Rattle.guest.specs.declared.Memory.{Memory}
use Rattle.guest.specs.declared.Control.{Control}
use Rattle.guest.specs.declared.Frame.{Frame}
use Rattle.guest.specs.declared.Frames.{Frames}
use Rattle.guest.specs.declared.Region.{Region}
use Rattle.guest.specs.declared.Bank.{Bank}
use Rattle.guest.specs.declared.Vcpu.{Vcpu}
use Rattle.guest.specs.declared.Table.{Table}
use Rattle.guest.specs.declared.Tables.{Tables}
use Rattle.guest.specs.declared.Guest.{Guest}

-- §1.1: the one guest, all but its mapping (§5.1). VCPUs stand in the order in which they were added (§3.1), regions by their index (§3.8)
-- and the shared banks by their number, bank 1 first (§4.2).
pub record Machine : Type 0 where
  pub memory : Memory
  pub control : Control
  pub frames : Frames
  pub regions : List Region
  pub vcpus : List Vcpu
  pub shared : List Bank
  pub tables : Tables

-- Inner: what a struct of the code stands for
abbrev pub view : Guest → Machine
view g = record {
  memory = g.memory;
  control = g.control;
  frames = g.frames;
  regions = take g.regions.count g.regions.rows;
  vcpus = take g.vcpus.count g.vcpus.rows;
  shared = take g.shared.count g.shared.rows;
  tables = g.tables;
}

-- Inner: the counts of a struct are within its arrays
pub record Held (g : Guest) : Type 0 where
  pub regions : g.regions.count ≤ 32
  pub vcpus : g.vcpus.count ≤ 64
  pub shared : g.shared.count ≤ 31

-- §2.1: what a changing call comes to: an errno of §2.2, or 0 where the call is done, and the machine afterwards
pub record Result : Type 0 where
  pub errno : ℕ
  pub next : Machine

-- §2.1, §2.3: what a question comes to: an errno, 0 for none, and the number asked for
pub record Reading : Type 0 where
  pub errno : ℕ
  pub number : ℕ

-- §2.4: a refused call leaves the machine as it was
abbrev pub refuse : Machine → ℕ → Result
refuse m e = record { errno = e; next = m }

-- §2.3: a changing call that is done has no errno, which is handed back as 0
abbrev pub accept : Machine → Result
accept m = record { errno = 0; next = m }

-- §4.3: a fresh bank: all words 0
abbrev pub no_bank : Bank
no_bank = record { latch = 0; level = 0; trigger = 0 }

-- §3.1, §4.3: a new VCPU: its bank is fresh, with trigger bits 1 for INTIDs 0 to 15 (65,535 = 2^16 - 1), and its STATUSR is 0
abbrev pub no_vcpu : ℕ → Vcpu
no_vcpu affinity = record { affinity = affinity; bank = record { latch = 0; level = 0; trigger = 65535 }; status = 0 }

-- Inner: no region; what is read past the last one
abbrev pub no_region : Region
no_region = record { base = 0; count = 0 }

-- §4.2: how many shared banks an interrupt count has: one for each 32 INTIDs below it, but for the first 32
abbrev pub shared_count : ℕ → ℕ
shared_count irqs = irqs / 32 - 1

-- §4.17: how many interrupts a shared bank has, by its row: the one from INTID 992 on, row 30, has 28, each other one 32. Its words have
-- as many bits.
unfoldable pub bank_bits : ℕ → ℕ
bank_bits j = choose (eqb j 30) 28 32

-- §1.10: a base that is not set is stored as 0
abbrev pub unset : Frame
unset = record { set = 0; base = 0 }

-- §1.13: a table that is not placed is stored as start 0 and 0 pages
abbrev pub unplaced : Table
unplaced = record { set = 0; start = 0; pages = 0 }

-- §1.5, §5.14: no table is placed: in a fresh guest, and after RESET
abbrev pub no_tables : Tables
no_tables = record { devices = unplaced; collections = unplaced }

-- §1.5: the interrupt count of a fresh guest
abbrev pub fresh_irqs : ℕ
fresh_irqs = 64

-- §1.5: a fresh guest of a width p, a start and a length; that nothing is mapped is said where the mapping is (§5.1)
abbrev pub fresh : ℕ → ℕ → ℕ → Machine
fresh width start len = record {
  memory = record { width = width; start = start; length = len };
  control = record { init = 0; running = 0; irqs = fresh_irqs; irqsset = 0; status = 0; itsinit = 0 };
  frames = record { distributor = unset; single = unset; its = unset };
  regions = [];
  vcpus = [];
  shared = replicate (shared_count fresh_irqs) no_bank;
  tables = no_tables;
}

-- Notation: the marks of §1.9, as tests
abbrev pub initialised : Machine → Bool
initialised m = eqb m.control.init 1

abbrev pub is_running : Machine → Bool
is_running m = eqb m.control.running 1

abbrev pub is_set : Frame → Bool
is_set f = eqb f.set 1

-- Notation: the machine with one part replaced
abbrev pub with_control : Control → Machine → Machine
with_control c m = record {
  memory = m.memory;
  control = c;
  frames = m.frames;
  regions = m.regions;
  vcpus = m.vcpus;
  shared = m.shared;
  tables = m.tables;
}

abbrev pub with_frames : Frames → Machine → Machine
with_frames f m = record {
  memory = m.memory;
  control = m.control;
  frames = f;
  regions = m.regions;
  vcpus = m.vcpus;
  shared = m.shared;
  tables = m.tables;
}

abbrev pub with_regions : List Region → Machine → Machine
with_regions rs m = record {
  memory = m.memory;
  control = m.control;
  frames = m.frames;
  regions = rs;
  vcpus = m.vcpus;
  shared = m.shared;
  tables = m.tables;
}

abbrev pub with_vcpus : List Vcpu → Machine → Machine
with_vcpus vs m = record {
  memory = m.memory;
  control = m.control;
  frames = m.frames;
  regions = m.regions;
  vcpus = vs;
  shared = m.shared;
  tables = m.tables;
}

abbrev pub with_shared : List Bank → Machine → Machine
with_shared bs m = record {
  memory = m.memory;
  control = m.control;
  frames = m.frames;
  regions = m.regions;
  vcpus = m.vcpus;
  shared = bs;
  tables = m.tables;
}

abbrev pub with_tables : Tables → Machine → Machine
with_tables t m = record {
  memory = m.memory;
  control = m.control;
  frames = m.frames;
  regions = m.regions;
  vcpus = m.vcpus;
  shared = m.shared;
  tables = t;
}
