-- The rules of §1.8 but for those of the mapping (§1.14), which are in crates/mapping/specs/MapRules.
use Rattle.std.specs.Prelude.{ℕ, ◌+◌, ◌*◌, ◌%◌, ◌^◌, ◌≡◌, Bool, true, ◌&&◌, ◌||◌, not, List, [], ◌∷◌, length, get_or, ltb, leb, eqb}
use Rattle.lists.specs.Rows.{choose, find_ix, all}
use Rattle.fields.specs.Field.{get_field}
use Rattle.areas.specs.declared.Area.{Area}
use Rattle.areas.specs.Area.{apart, ends_by, inside, overlaps}
use Rattle.guest.specs.declared.Memory.{Memory}
use Rattle.guest.specs.declared.Control.{Control}
use Rattle.guest.specs.declared.Frame.{Frame}
use Rattle.guest.specs.declared.Region.{Region}
use Rattle.guest.specs.declared.Bank.{Bank}
use Rattle.guest.specs.declared.Vcpu.{Vcpu}
use Rattle.guest.specs.declared.Table.{Table}
use Rattle.guest.specs.declared.Guest.{Guest}
use Rattle.guest.specs.Machine.{Machine, Held, view, initialised, is_set, no_bank, no_vcpu, shared_count, bank_bits, fresh_irqs}
use Rattle.rules.specs.Standing.{standing, run_size, region_area, total, distributor_size, its_size}

-- §1.4, §1.9: what set-up asks of the width p and of the run of memory, and each state keeps; 1,073,741,824 is 2^30
unfoldable pub memory_ok : Memory → Bool
memory_ok r =
    leb 36 r.width && (leb r.width 52
    && (eqb (r.start % 4096) 0 && (eqb (r.length % 4096) 0
    && (leb 4096 r.length && (leb r.length 1073741824
    && leb (r.start + r.length) (2 ^ r.width))))))

-- §3.14: the interrupt counts: 64, 96, 128 and so on up to 1,024
unfoldable pub irqs_ok : ℕ → Bool
irqs_ok n = leb 64 n && (leb n 1024 && eqb (n % 32) 0)

-- §1.9, §1.17: the interrupt counts that a guest can have whose count was not set: a fresh guest's, and 256, which a fresh guest had once
abbrev pub unset_ok : ℕ → Bool
unset_ok n = eqb n fresh_irqs || eqb n 256

-- §1.9: marks are 0 or 1; running and ITS INIT are at most VGIC INIT's mark, so only after it; the interrupt count is one of §3.14 and, if it
-- was not set, one of the two above; the distributor's STATUSR is below 16
unfoldable pub control_ok : Control → Bool
control_ok c =
    leb c.init 1 && (leb c.running c.init && (leb c.itsinit c.init
    && (leb c.irqsset 1 && (irqs_ok c.irqs && (ltb c.status 16
    && (eqb c.irqsset 1 || unset_ok c.irqs))))))

-- §1.10: a base that is set is divisible by 65,536 and its frame ends at or below 2^p, the limit; one that is not set is stored as 0
unfoldable pub frame_ok : ℕ → ℕ → Frame → Bool
frame_ok limit size f =
    choose (is_set f)
    (eqb (f.base % 65536) 0 && ends_by limit (record { start = f.base; size = size }))
    (eqb f.set 0 && eqb f.base 0)

-- §1.10: a region likewise, with a count of 1 to 4,095
unfoldable pub region_ok : ℕ → Region → Bool
region_ok limit r =
    eqb (r.base % 65536) 0 && (leb 1 r.count && (ltb r.count 4096 && ends_by limit (region_area r)))

-- Notation: 2^p, the first address past the address space
abbrev pub limit_of : Machine → ℕ
limit_of m = 2 ^ m.memory.width

-- §1.10: each frame and each region as above, the single run with the size of §3.6; at most 32 regions (§1.6); no region beside the single
-- run; no two that stand overlap
unfoldable pub frames_ok : Machine → Bool
frames_ok m =
    frame_ok (limit_of m) distributor_size m.frames.distributor && (frame_ok (limit_of m) (run_size m) m.frames.single
    && (frame_ok (limit_of m) its_size m.frames.its && (leb (length m.regions) 32
    && (all (region_ok (limit_of m)) m.regions
    && (choose (is_set m.frames.single) (eqb (length m.regions) 0) true
    && apart (standing m))))))

-- §1.11: after VGIC INIT there is a VCPU, the distributor's base is set, and every VCPU has a place
unfoldable pub init_ok : Machine → Bool
init_ok m =
    choose (initialised m)
    (leb 1 (length m.vcpus) && (is_set m.frames.distributor
    && (is_set m.frames.single || leb (length m.vcpus) (total m.regions))))
    true

-- Notation: a VCPU has an affinity
abbrev pub has_affinity : ℕ → Vcpu → Bool
has_affinity a v = eqb v.affinity a

-- §1.12, §3.1: one of these VCPUs has the affinity
unfoldable pub taken : List Vcpu → ℕ → Bool
taken vs a = ltb (find_ix (has_affinity a) vs) (length vs)

-- §1.12: no affinity occurs twice
unfoldable pub distinct : List Vcpu → Bool
distinct [] = true
distinct (v ∷ vs) = not (taken vs v.affinity) && distinct vs

-- §1.12, §1.9: the SGIs, [15:0] of a VCPU's bank, are edge (65,535 = 2^16 - 1) and their levels 0; its STATUSR is below 16
unfoldable pub vcpu_ok : Vcpu → Bool
vcpu_ok v =
    eqb (get_field v.bank.trigger 0 16) 65535 && (eqb (get_field v.bank.level 0 16) 0 && ltb v.status 16)

-- §1.12: that of all VCPUs, of which there are at most 64 (§1.6)
unfoldable pub vcpus_ok : List Vcpu → Bool
vcpus_ok vs = leb (length vs) 64 && (all vcpu_ok vs && distinct vs)

-- §1.15: each word of a bank has at most so many bits
unfoldable pub bank_fits : ℕ → Bank → Bool
bank_fits bits b = ltb b.latch (2 ^ bits) && (ltb b.level (2 ^ bits) && ltb b.trigger (2 ^ bits))

-- §1.15, §4.17: the words of the last bank, row 30, have no bit past its interrupts. With fewer than 1,024 there is no such row, and nothing is
-- asked; the words of the other banks have 32 bits in the bytes (§1.7), which are as many as these banks have interrupts.
unfoldable pub last_ok : List Bank → Bool
last_ok bs = bank_fits (bank_bits 30) (get_or bs 30 no_bank)

-- Notation: a bank has the words of another one
abbrev pub same_bank : Bank → Bank → Bool
same_bank b c = eqb b.latch c.latch && (eqb b.level c.level && eqb b.trigger c.trigger)

-- §1.16, §4.3: a shared bank that is fresh; a VCPU with a fresh bank and STATUSR 0
unfoldable pub fresh_bank : Bank → Bool
fresh_bank b = same_bank b no_bank

unfoldable pub fresh_vcpu : Vcpu → Bool
fresh_vcpu v = eqb v.status 0 && same_bank v.bank (no_vcpu 0).bank

-- §1.16: before VGIC INIT every STATUSR is 0 and every bank is fresh
unfoldable pub untouched : Machine → Bool
untouched m =
    choose (initialised m) true
    (eqb m.control.status 0 && (all fresh_vcpu m.vcpus && all fresh_bank m.shared))

-- §5.4: the bytes of a table: pages of 4 KiB from its start on
abbrev pub table_area : Table → Area
table_area t = record { start = t.start; size = 4096 * t.pages }

-- §1.4: the run of guest memory
abbrev pub memory_area : Memory → Area
memory_area r = record { start = r.start; size = r.length }

-- §1.13: a form and a place that §5.4 takes: the start divisible by 4,096, 1 to 128 pages, inside memory; one that is not placed is stored as
-- start 0 and 0 pages
unfoldable pub table_ok : Memory → Table → Bool
table_ok r t =
    choose (eqb t.set 1)
    (eqb (t.start % 4096) 0 && (leb 1 t.pages && (leb t.pages 128 && inside (memory_area r) (table_area t))))
    (eqb t.set 0 && (eqb t.start 0 && eqb t.pages 0))

-- §1.13: both or neither is placed, only after ITS INIT, and they do not overlap
unfoldable pub tables_ok : Machine → Bool
tables_ok m =
    table_ok m.memory m.tables.devices && (table_ok m.memory m.tables.collections
    && (eqb m.tables.devices.set m.tables.collections.set
    && (leb m.tables.devices.set m.control.itsinit
    && not (overlaps (table_area m.tables.devices) (table_area m.tables.collections)))))

-- §1.13: ITS INIT is done only where the ITS base is set
unfoldable pub its_ok : Machine → Bool
its_ok m = leb m.control.itsinit m.frames.its.set

-- §1.9 to §1.13, §1.15, §1.16: all of them but the limits of the mapping's rows; and the shared banks are those that the interrupt count
-- has (§4.2), which holds of all bytes, since they are read so
unfoldable pub rules : Machine → Bool
rules m =
    memory_ok m.memory && (control_ok m.control && (frames_ok m && (init_ok m && (vcpus_ok m.vcpus
    && (eqb (length m.shared) (shared_count m.control.irqs) && (last_ok m.shared && (untouched m
    && (its_ok m && tables_ok m))))))))

-- Inner: what the code knows of a guest that passed the test
pub record Kept (g : Guest) : Type 0 where
  pub held : Held g
  pub rules : rules (view g) ≡ true
