-- The guest's state as bytes, little endian. From 0: 23 words of 8 bytes, with the number of regions and of VCPUs last; from 184:
-- regions, 16 bytes each, room for 32; from 696: VCPUs, 20 bytes each, room for 64; from 1,976: shared banks, 12 bytes each, room for
-- 31, as many as the interrupt count has, and four bytes that nothing reads; from 2,352 the mapping: its three counts of 8 bytes, then
-- room for 32 devices of 24 bytes, 16 collections of 4 and 1,024 events of 8. What lies past a table's last row is never read, and stays
-- as it is.
use Rattle.std.specs.Prelude.{ℕ, ◌+◌, ◌≡◌, Bool, true, ◌&&◌, List, [], ◌∷◌, ◌++◌, length, drop, leb}
use Rattle.words.specs.Words.{le_at, bytes_of, rows_of, bytes_all, put_at}
use Rattle.guest.specs.declared.Memory.{Memory}
use Rattle.guest.specs.declared.Control.{Control}
use Rattle.guest.specs.declared.Frame.{Frame}
use Rattle.guest.specs.declared.Frames.{Frames}
use Rattle.guest.specs.declared.Region.{Region}
use Rattle.guest.specs.declared.Bank.{Bank}
use Rattle.guest.specs.declared.Vcpu.{Vcpu}
use Rattle.guest.specs.declared.Table.{Table}
use Rattle.guest.specs.declared.Tables.{Tables}
use Rattle.guest.specs.Machine.{Machine, shared_count}

-- §1.2: the length of a state
abbrev pub size : ℕ
size = 11400

-- §1.7: the numbers, each in 8 bytes: the words of each part, and the part that the bytes of a state stand for
abbrev pub memory_words : Memory → List ℕ
memory_words r = r.width ∷ r.start ∷ r.length ∷ []

unfoldable pub memory_of : List ℕ → Memory
memory_of s = record { width = le_at s 0 8; start = le_at s 8 8; length = le_at s 16 8 }

abbrev pub control_words : Control → List ℕ
control_words c = c.init ∷ c.running ∷ c.irqs ∷ c.irqsset ∷ c.status ∷ c.itsinit ∷ []

unfoldable pub control_of : List ℕ → Control
control_of s = record {
  init = le_at s 24 8;
  running = le_at s 32 8;
  irqs = le_at s 40 8;
  irqsset = le_at s 48 8;
  status = le_at s 56 8;
  itsinit = le_at s 64 8;
}

abbrev pub frames_words : Frames → List ℕ
frames_words f =
    f.distributor.set ∷ f.distributor.base ∷ f.single.set ∷ f.single.base ∷ f.its.set ∷ f.its.base ∷ []

abbrev pub frame_at : List ℕ → ℕ → Frame
frame_at s at = record { set = le_at s at 8; base = le_at s (at + 8) 8 }

unfoldable pub frames_of : List ℕ → Frames
frames_of s = record { distributor = frame_at s 72; single = frame_at s 88; its = frame_at s 104 }

abbrev pub tables_words : Tables → List ℕ
tables_words t =
    t.devices.set ∷ t.devices.start ∷ t.devices.pages ∷ t.collections.set ∷ t.collections.start
    ∷ t.collections.pages ∷ []

abbrev pub table_at : List ℕ → ℕ → Table
table_at s at = record { set = le_at s at 8; start = le_at s (at + 8) 8; pages = le_at s (at + 16) 8 }

unfoldable pub tables_of : List ℕ → Tables
tables_of s = record { devices = table_at s 120; collections = table_at s 144 }

-- §1.7: the rows: the words of each, the row that its bytes stand for, and its bytes. Words have 8 bytes in a region, 4 in VCPUs and banks
abbrev pub region_words : Region → List ℕ
region_words r = r.base ∷ r.count ∷ []

unfoldable pub region_of : List ℕ → Region
region_of s = record { base = le_at s 0 8; count = le_at s 8 8 }

unfoldable pub region_bytes : Region → List ℕ
region_bytes r = bytes_all (bytes_of 8) (region_words r)

abbrev pub vcpu_words : Vcpu → List ℕ
vcpu_words v = v.affinity ∷ v.bank.latch ∷ v.bank.level ∷ v.bank.trigger ∷ v.status ∷ []

unfoldable pub vcpu_of : List ℕ → Vcpu
vcpu_of s = record {
  affinity = le_at s 0 4;
  bank = record { latch = le_at s 4 4; level = le_at s 8 4; trigger = le_at s 12 4 };
  status = le_at s 16 4;
}

unfoldable pub vcpu_bytes : Vcpu → List ℕ
vcpu_bytes v = bytes_all (bytes_of 4) (vcpu_words v)

abbrev pub bank_words : Bank → List ℕ
bank_words b = b.latch ∷ b.level ∷ b.trigger ∷ []

unfoldable pub bank_of : List ℕ → Bank
bank_of s = record { latch = le_at s 0 4; level = le_at s 4 4; trigger = le_at s 8 4 }

unfoldable pub bank_bytes : Bank → List ℕ
bank_bytes b = bytes_all (bytes_of 4) (bank_words b)

-- §1.7: the machine that bytes stand for, with as many rows as the counts say; of shared banks as many as the interrupt count has (§4.2)
unfoldable pub decode : List ℕ → Machine
decode s = record {
  memory = memory_of s;
  control = control_of s;
  frames = frames_of s;
  regions = rows_of region_of 16 (le_at s 168 8) (drop 184 s);
  vcpus = rows_of vcpu_of 20 (le_at s 176 8) (drop 696 s);
  shared = rows_of bank_of 12 (shared_count (le_at s 40 8)) (drop 1976 s);
  tables = tables_of s;
}

-- §1.7: the first 23 words: the numbers and the counts of regions and VCPUs
abbrev pub head_words : Memory → Control → Frames → Tables → ℕ → ℕ → List ℕ
head_words r c f t regions vcpus =
    memory_words r ++ (control_words c ++ (frames_words f ++ (tables_words t ++ (regions ∷ vcpus ∷ []))))

unfoldable pub head_bytes : Machine → List ℕ
head_bytes m =
    bytes_all (bytes_of 8)
    (head_words m.memory m.control m.frames m.tables (length m.regions) (length m.vcpus))

-- §1.7: the bytes with a machine stored in them: its numbers and its rows, and no byte behind the last row of a table
unfoldable pub stored : Machine → List ℕ → List ℕ
stored m s =
    put_at (put_at (put_at (put_at s 1976 (bytes_all bank_bytes m.shared)) 696 (bytes_all vcpu_bytes m.vcpus))
    184 (bytes_all region_bytes m.regions)) 0 (head_bytes m)

-- §1.9: the numbers of rows are within §1.6. Of shared banks there is room for 31, which each interrupt count of §3.14 keeps to
unfoldable pub counts_ok : List ℕ → Bool
counts_ok s = leb (le_at s 168 8) 32 && (leb (le_at s 176 8) 64 && leb (shared_count (le_at s 40 8)) 31)

-- Inner: bytes of a state's length whose numbers of rows fit: what reading a row asks
pub record Counted (s : List ℕ) : Type 0 where
  pub long : length s ≡ size
  pub counts : counts_ok s ≡ true
