-- Every number of a guest fits its place in the state's bytes.
use Rattle.std.specs.Prelude.{ℕ, ◌<◌, ◌^◌}
use Rattle.lists.proofs.All.{All}
use Rattle.guest.specs.declared.Memory.{Memory}
use Rattle.guest.specs.declared.Control.{Control}
use Rattle.guest.specs.declared.Frame.{Frame}
use Rattle.guest.specs.declared.Frames.{Frames}
use Rattle.guest.specs.declared.Region.{Region}
use Rattle.guest.specs.declared.Bank.{Bank}
use Rattle.guest.specs.declared.Vcpu.{Vcpu}
use Rattle.guest.specs.declared.Table.{Table}
use Rattle.guest.specs.declared.Tables.{Tables}
use Rattle.guest.specs.Machine.{Machine}

-- Inner: the proofs that the bytes of §1.7 give each number back use these; most numbers have 64 bits
pub record MemoryWords (r : Memory) : Type 0 where
  pub width : r.width < 2 ^ 64
  pub start : r.start < 2 ^ 64
  pub length : r.length < 2 ^ 64

pub record ControlWords (c : Control) : Type 0 where
  pub init : c.init < 2 ^ 64
  pub running : c.running < 2 ^ 64
  pub irqs : c.irqs < 2 ^ 64
  pub irqsset : c.irqsset < 2 ^ 64
  pub status : c.status < 2 ^ 64
  pub itsinit : c.itsinit < 2 ^ 64

pub record FrameWords (f : Frame) : Type 0 where
  pub set : f.set < 2 ^ 64
  pub base : f.base < 2 ^ 64

pub record FramesWords (f : Frames) : Type 0 where
  pub distributor : FrameWords f.distributor
  pub single : FrameWords f.single
  pub its : FrameWords f.its

pub record RegionWords (r : Region) : Type 0 where
  pub base : r.base < 2 ^ 64
  pub count : r.count < 2 ^ 64

-- Inner: each word of a bank has at most so many bits
pub record BankFits (bits : ℕ) (b : Bank) : Type 0 where
  pub latch : b.latch < 2 ^ bits
  pub level : b.level < 2 ^ bits
  pub trigger : b.trigger < 2 ^ bits

-- Inner: banks and VCPUs take 32 bits for each number
abbrev pub BankWords : Bank → Type 0
BankWords b = BankFits 32 b

pub record VcpuWords (v : Vcpu) : Type 0 where
  pub affinity : v.affinity < 2 ^ 32
  pub bank : BankWords v.bank
  pub status : v.status < 2 ^ 32

-- Inner: the places of the tables
pub record TableWords (t : Table) : Type 0 where
  pub set : t.set < 2 ^ 64
  pub start : t.start < 2 ^ 64
  pub pages : t.pages < 2 ^ 64

pub record TablesWords (t : Tables) : Type 0 where
  pub devices : TableWords t.devices
  pub collections : TableWords t.collections

-- Inner: every number fits its place in the state's bytes
pub record Words (m : Machine) : Type 0 where
  pub memory : MemoryWords m.memory
  pub control : ControlWords m.control
  pub frames : FramesWords m.frames
  pub regions : All RegionWords m.regions
  pub vcpus : All VcpuWords m.vcpus
  pub shared : All BankWords m.shared
  pub tables : TablesWords m.tables
