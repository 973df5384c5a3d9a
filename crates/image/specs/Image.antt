-- An image of guest memory, and the guest whose memory it is.
use Rattle.std.specs.Prelude.{ℕ, ◌%◌, Bool, ◌&&◌, List, [], ◌∷◌, replicate, leb, eqb}
use Rattle.guest.specs.declared.Frame.{Frame}
use Rattle.guest.specs.declared.Vcpu.{Vcpu}
use Rattle.guest.specs.declared.Table.{Table}
use Rattle.guest.specs.Machine.{Machine, no_bank, no_vcpu, shared_count, fresh_irqs}

-- §11.1: the lengths that an image may have
unfoldable pub is_image : ℕ → Bool
is_image size = leb 8192 size && (leb size 65536 && eqb (size % 4096) 0)

-- Notation: a base that is set, and a table of one page
abbrev pub frame_at : ℕ → Frame
frame_at base = record { set = 1; base = base }

abbrev pub page_at : ℕ → Table
page_at start = record { set = 1; start = start; pages = 1 }

-- §11.1: 4 VCPUs; their affinities make no difference
abbrev pub four_vcpus : List Vcpu
four_vcpus = no_vcpu 0 ∷ no_vcpu 1 ∷ no_vcpu 2 ∷ no_vcpu 3 ∷ []

-- §11.1: the guest whose memory the image is: it starts at 0x40000000, the device table is its first page, the collection table its second.
-- §8.1: nothing else of a guest makes a difference to a restore; the frames that both INITs ask for stand somewhere below.
unfoldable pub guest_of : ℕ → Machine
guest_of size = record {
  memory = record { width = 40; start = 0x40000000; length = size };
  control = record { init = 1; running = 0; irqs = fresh_irqs; irqsset = 0; status = 0; itsinit = 1 };
  frames = record { distributor = frame_at 0x08000000; single = frame_at 0x080A0000; its = frame_at 0x08080000 };
  regions = [];
  vcpus = four_vcpus;
  shared = replicate (shared_count fresh_irqs) no_bank;
  tables = record { devices = page_at 0x40000000; collections = page_at 0x40001000 };
}
