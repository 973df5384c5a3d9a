-- The numbers of a machine that bytes stand for fit their places.
use Prim.Native.Nat.{ℕ, ◌<◌, ◌^◌}
use mathlib.Core.List.{List}
use lib.ListN.{drop}
use Rattle.lists.proofs.All.{all_drop}
use Rattle.words.specs.Words.{le_at}
use Rattle.words.proofs.Bytes.{Bytes, le_at-bound, rows_of-all}
use Rattle.guest.specs.Words.{Words, RegionWords, VcpuWords, BankWords}
use Rattle.layout.specs.Layout.{memory_of, control_of, frames_of, tables_of, region_of, vcpu_of, bank_of, decode}

region_words_lem : (s : List ℕ) → Bytes s → RegionWords (region_of s)
unfolding region_of
region_words_lem s b = record { base = le_at-bound s 0 8 b; count = le_at-bound s 8 8 b }

bank_words_lem : (s : List ℕ) → Bytes s → BankWords (bank_of s)
unfolding bank_of
bank_words_lem s b = record { latch = le_at-bound s 0 4 b; level = le_at-bound s 4 4 b; trigger = le_at-bound s 8 4 b }

vcpu_words_lem : (s : List ℕ) → Bytes s → VcpuWords (vcpu_of s)
unfolding vcpu_of
vcpu_words_lem s b = record {
  affinity = le_at-bound s 0 4 b;
  bank = record { latch = le_at-bound s 4 4 b; level = le_at-bound s 8 4 b; trigger = le_at-bound s 12 4 b };
  status = le_at-bound s 16 4 b;
}

pub decode_words : (s : List ℕ) → Bytes s → Words (decode s)
unfolding decode memory_of control_of frames_of tables_of
decode_words s b =
    let w : (k : ℕ) → le_at s k 8 < 256 ^ 8 = λ k. le_at-bound s k 8 b in
    record {
      memory = record { width = w 0; start = w 8; length = w 16 };
      control = record { init = w 24; running = w 32; irqs = w 40; irqsset = w 48; status = w 56; itsinit = w 64 };
      frames = record {
        distributor = record { set = w 72; base = w 80 };
        single = record { set = w 88; base = w 96 };
        its = record { set = w 104; base = w 112 };
      };
      regions = rows_of-all RegionWords region_of region_words_lem 16 _ (drop 184 s) (all_drop 184 s b);
      vcpus = rows_of-all VcpuWords vcpu_of vcpu_words_lem 20 _ (drop 696 s) (all_drop 696 s b);
      shared = rows_of-all BankWords bank_of bank_words_lem 12 _ (drop 1976 s) (all_drop 1976 s b);
      tables = record {
        devices = record { set = w 120; start = w 128; pages = w 136 };
        collections = record { set = w 144; start = w 152; pages = w 160 };
      };
    }
