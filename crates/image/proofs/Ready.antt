-- The guest of an image keeps every rule, and its numbers fit their places in a state's bytes. Assumes nothing.
use Prim.Native.Nat.{ℕ, ◌+◌, ◌%◌, ◌^◌, ◌≤◌, ◌<◌}
use native.Mathlib.Omega.{arith}
use mathlib.Core.Path.{◌≡◌}
use mathlib.Core.Bool.{true}
use lib.Dec.{leb, lit<, lit≤}
use borrow.Author.Tests.{le-leb, leb-true, eq-eqb, eqb-true}
use Rattle.areas.specs.Area.{apart, strikes, struck, ends_by, inside, overlaps}
use Rattle.areas.proofs.Tests.{and_left, and_right}
use Rattle.fields.specs.Field.{get_field}
use Rattle.lists.specs.Rows.{find_ix, all}
use Rattle.lists.proofs.All.{none, more}
use Rattle.guest.specs.Machine.{no_vcpu, bank_bits}
use Rattle.guest.specs.Words.{Words, VcpuWords}
use Rattle.rules.specs.Standing.{standing}
use Rattle.rules.specs.Rules.{rules, memory_ok, irqs_ok, control_ok, frame_ok, frames_ok, init_ok, taken, distinct, vcpu_ok, vcpus_ok, bank_fits, last_ok, untouched, table_ok, tables_ok, its_ok}
use Rattle.rules.proofs.Parts.{rules_parts}
use Rattle.kept.proofs.Vcpus.{fresh_good}
use Rattle.layout.proofs.Round.{Room}
use Rattle.image.specs.Image.{is_image, guest_of}

pub record Image (size : ℕ) : Type 0 where
  pub least : 8192 ≤ size
  pub most : size ≤ 65536
  pub pages : size % 4096 ≡ 0

pub image_says : (size : ℕ) → is_image size ≡ true → Image size
unfolding is_image
image_says size e = record {
  least = leb-true _ _ (and_left _ _ e);
  most = leb-true _ _ (and_left _ _ (and_right (leb 8192 size) _ e));
  pages = eqb-true _ _ (and_right (leb size 65536) _ (and_right (leb 8192 size) _ e));
}

pub ready : (size : ℕ) → Image size → rules (guest_of size) ≡ true
unfolding rules guest_of memory_ok control_ok irqs_ok frames_ok frame_ok ends_by init_ok vcpus_ok bank_fits last_ok bank_bits untouched its_ok tables_ok table_ok inside overlaps standing apart strikes struck find_ix all distinct taken vcpu_ok get_field
ready size i =
    let l = i.least in
    let m = i.most in
    rw (
      eq-eqb _ _ i.pages,
      le-leb 4096 size (omega arith),
      le-leb size 1073741824 (omega arith),
      le-leb (1073741824 + size) 1099511627776 (omega arith),
      le-leb 1073745920 (1073741824 + size) (omega arith),
      le-leb 1073750016 (1073741824 + size) (omega arith),
    )

pub guest_room : (size : ℕ) → Room (guest_of size)
unfolding guest_of
guest_room size = record { regions = lit≤ tt; vcpus = lit≤ tt; shared = lit≤ tt }

vcpu_words_lem : (affinity : ℕ) → affinity < 2 ^ 32 → VcpuWords (no_vcpu affinity)
vcpu_words_lem affinity h = record { affinity = h; bank = record { latch = lit< tt; level = lit< tt; trigger = lit< tt }; status = lit< tt }

-- memory and shared banks are those of a fresh guest
pub guest_words : (size : ℕ) → Image size → Words (guest_of size)
unfolding guest_of
guest_words size i =
    let m = i.most in
    let small : size < 2 ^ 64 = omega arith in
    let w = (fresh_good 40 0x40000000 size (lit< tt) (lit< tt) small (rules_parts (guest_of size) (ready size i)).memory).words in
    record {
      memory = w.memory;
      control = record { init = lit< tt; running = lit< tt; irqs = lit< tt; irqsset = lit< tt; status = lit< tt; itsinit = lit< tt };
      frames = record {
        distributor = record { set = lit< tt; base = lit< tt };
        single = record { set = lit< tt; base = lit< tt };
        its = record { set = lit< tt; base = lit< tt };
      };
      regions = none;
      vcpus = more (vcpu_words_lem 0 (lit< tt)) (more (vcpu_words_lem 1 (lit< tt)) (more (vcpu_words_lem 2 (lit< tt)) (more (vcpu_words_lem 3 (lit< tt)) none)));
      shared = w.shared;
      tables = record {
        devices = record { set = lit< tt; start = lit< tt; pages = lit< tt };
        collections = record { set = lit< tt; start = lit< tt; pages = lit< tt };
      };
    }
