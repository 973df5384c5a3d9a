-- The test of a guest holds if and only if each of its rules does. Assumes nothing.
use Prim.Native.Nat.{ℕ, ◌≤◌, ◌<◌}
use native.Mathlib.Omega.{arith}
use mathlib.Core.Path.{◌≡◌, refl, ap}
use mathlib.Core.Logic.{◌⊎◌, inl, inr}
use mathlib.Core.Bool.{true, not}
use mathlib.Core.List.{List, [], ◌∷◌}
use lib.ListN.{length, get_or}
use borrow.Author.Tests.{eqb-false, ne_eqb, not-true}
use Rattle.lists.proofs.All.{All, from_all, to_all}
use Rattle.lists.proofs.Member.{all_weaker}
use Rattle.lists.proofs.Pairs.{Pairs, alone, before}
use Rattle.areas.proofs.Tests.{lt_or_ge, and_left, and_right, join, not_holds}
use Rattle.areas.proofs.Has.{has_none, none_has}
use Rattle.areas.proofs.Laws.{Clear, clear_overlaps, overlaps_clear, apart_says, apart_is}
use Rattle.guest.specs.declared.Vcpu.{Vcpu}
use Rattle.guest.specs.Machine.{Machine, no_bank, shared_count, bank_bits}
use Rattle.guest.specs.Words.{BankFits}
use Rattle.rules.specs.Standing.{standing, run_size, distributor_size, its_size}
use Rattle.rules.specs.Rules.{limit_of, has_affinity, taken, distinct, region_ok, vcpu_ok, last_ok, fresh_bank, fresh_vcpu, table_area, rules}
use Rattle.rules.proofs.Parts.{
  MemoryParts,
  IrqsParts,
  ControlParts,
  FrameParts,
  RegionParts,
  InitParts,
  VcpuParts,
  Fresh,
  NewParts,
  TableParts,
  memory_whole,
  control_whole,
  frame_whole,
  region_parts,
  region_whole,
  frames_whole,
  init_whole,
  vcpu_parts,
  vcpu_whole,
  vcpus_whole,
  fits_whole,
  fresh_parts,
  fresh_whole,
  new_parts,
  new_whole,
  untouched_whole,
  table_whole,
  tables_whole,
  its_whole,
  rules_whole,
}
use Rattle.rules.proofs.Facts.{
  sound_memory,
  sound_control,
  sound_irqs,
  sound_frames,
  sound_distributor,
  sound_single,
  sound_its,
  sound_no_regions,
  sound_init,
  sound_vcpus,
  sound_shared,
  sound_last,
  sound_untouched,
  sound_its_base,
  sound_tables,
  sound_devices,
  sound_collections,
}

-- affinities that all differ
abbrev Differ : Vcpu → Vcpu → Type 0
Differ v w = w.affinity ≡ v.affinity → ⊥

distinct_says : (vs : List Vcpu) → distinct vs ≡ true → Pairs Differ vs
unfolding distinct taken
distinct_says [] e = alone
distinct_says (v ∷ vs) e =
    let a = v.affinity in
    before (all_weaker (λ w q. eqb-false w.affinity a q) vs (has_none (has_affinity a) vs (not-true (taken vs a) (and_left (not (taken vs a)) (distinct vs) e))))
    (distinct_says vs (and_right (not (taken vs a)) (distinct vs) e))

distinct_is : (vs : List Vcpu) → Pairs Differ vs → distinct vs ≡ true
unfolding distinct taken
distinct_is [] alone = refl
distinct_is (v ∷ vs) (before a p) =
    join (not (taken vs v.affinity)) (distinct vs ∷ [])
    (not_holds (none_has (has_affinity v.affinity) vs (all_weaker (λ w f. ne_eqb w.affinity v.affinity f) vs a)), distinct_is vs p)

-- before INIT no bank and no STATUSR was written
pub record Untouched (m : Machine) : Type 0 where
  pub status : m.control.status ≡ 0
  pub vcpus : All NewParts m.vcpus
  pub shared : All (Fresh 0) m.shared

pub record GuestRules (m : Machine) : Type 0 where
  pub memory : MemoryParts m.memory
  pub control : ControlParts m.control
  pub irqs : IrqsParts m.control.irqs
  pub shared : length m.shared ≡ shared_count m.control.irqs
  -- frames
  pub distributor : FrameParts (limit_of m) distributor_size m.frames.distributor
  pub single : FrameParts (limit_of m) (run_size m) m.frames.single
  pub its : FrameParts (limit_of m) its_size m.frames.its
  pub few_regions : length m.regions ≤ 32
  pub regions : All (RegionParts (limit_of m)) m.regions
  pub either : m.frames.single.set ≡ 1 → m.regions ≡ []
  pub apart : Pairs Clear (standing m)
  -- VCPUs
  pub few_vcpus : length m.vcpus ≤ 64
  pub vcpus : All VcpuParts m.vcpus
  pub affinities : Pairs Differ m.vcpus
  -- banks: with 1,024 interrupts the words of INTIDs 992 on have 28 bits; before INIT all are fresh
  pub last : BankFits 28 (get_or m.shared 30 no_bank)
  pub before : m.control.init ≡ 0 → Untouched m
  -- what INIT and ITS INIT need
  pub init : m.control.init ≡ 1 → InitParts m
  pub its_init_lem : m.control.itsinit ≡ 1 → m.frames.its.set ≡ 1
  -- tables
  pub devices : TableParts m.memory m.tables.devices
  pub collections : TableParts m.memory m.tables.collections
  pub together : m.tables.devices.set ≡ m.tables.collections.set
  pub after : m.tables.devices.set ≤ m.control.itsinit
  pub clear : Clear (table_area m.tables.devices) (table_area m.tables.collections)

module _ (m : Machine) where
  untouched_says : rules m ≡ true → m.control.init ≡ 0 → Untouched m
  untouched_says e z =
      let p = sound_untouched m e (λ i. omega arith) in
      record {
        status = p.status;
        vcpus = all_weaker new_parts m.vcpus (from_all fresh_vcpu m.vcpus p.vcpus);
        shared = all_weaker fresh_parts m.shared (from_all fresh_bank m.shared p.shared);
      }

  pub rules_say : rules m ≡ true → GuestRules m
  unfolding bank_bits
  rules_say e =
      let f = sound_frames m e in
      let v = sound_vcpus m e in
      let t = sound_tables m e in
      record {
        memory = sound_memory m e;
        control = sound_control m e;
        irqs = sound_irqs m e;
        shared = sound_shared m e;
        distributor = sound_distributor m e;
        single = sound_single m e;
        its = sound_its m e;
        few_regions = f.few;
        regions = all_weaker (region_parts (limit_of m)) m.regions (from_all (region_ok (limit_of m)) m.regions f.regions);
        either = sound_no_regions m e;
        apart = apart_says (standing m) f.apart;
        few_vcpus = v.few;
        vcpus = all_weaker vcpu_parts m.vcpus (from_all vcpu_ok m.vcpus v.each);
        affinities = distinct_says m.vcpus v.distinct;
        last = sound_last m e;
        before = untouched_says e;
        init = sound_init m e;
        its_init_lem = sound_its_base m e;
        devices = sound_devices m e;
        collections = sound_collections m e;
        together = t.together;
        after = t.after;
        clear = overlaps_clear (table_area m.tables.devices) (table_area m.tables.collections) t.apart;
      }

  its_ready : (i n s : ℕ) → i ≤ n → n ≤ 1 → (i ≡ 1 → s ≡ 1) → i ≤ s
  its_ready i n s h g f = by (lt_or_ge 0 i)
    where
      by : (0 < i) ⊎ (i ≤ 0) → i ≤ s
      by (inl p) = let o : i ≡ 1 = omega arith in omega (arith, f o)
      by (inr p) = omega arith

  pub rules_are : GuestRules m → rules m ≡ true
  unfolding last_ok bank_bits
  rules_are r = rules_whole m (record {
    memory = memory_whole m.memory r.memory;
    control = control_whole m.control r.control;
    frames = frames_whole m (record {
      distributor = frame_whole (limit_of m) distributor_size m.frames.distributor r.distributor;
      single = frame_whole (limit_of m) (run_size m) m.frames.single r.single;
      its = frame_whole (limit_of m) its_size m.frames.its r.its;
      few = r.few_regions;
      regions = to_all (region_ok (limit_of m)) m.regions (all_weaker (region_whole (limit_of m)) m.regions r.regions);
      either = λ h. ap length (r.either h);
      apart = apart_is (standing m) r.apart;
    });
    init = init_whole m r.init;
    vcpus = vcpus_whole m.vcpus (record {
      few = r.few_vcpus;
      each = to_all vcpu_ok m.vcpus (all_weaker vcpu_whole m.vcpus r.vcpus);
      distinct = distinct_is m.vcpus r.affinities;
    });
    shared = r.shared;
    last = fits_whole 28 (get_or m.shared 30 no_bank) r.last;
    untouched = untouched_whole m (λ n.
        let p = r.before (omega (arith, r.control.init, n)) in
        record {
          status = p.status;
          vcpus = to_all fresh_vcpu m.vcpus (all_weaker new_whole m.vcpus p.vcpus);
          shared = to_all fresh_bank m.shared (all_weaker fresh_whole m.shared p.shared);
        });
    its = its_whole m (its_ready m.control.itsinit m.control.init m.frames.its.set r.control.itsinit r.control.init r.its_init_lem);
    tables = tables_whole m (record {
      devices = table_whole m.memory m.tables.devices r.devices;
      collections = table_whole m.memory m.tables.collections r.collections;
      together = r.together;
      after = r.after;
      apart = clear_overlaps (table_area m.tables.devices) (table_area m.tables.collections) r.clear;
    });
  })
