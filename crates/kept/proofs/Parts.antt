-- The rules split into their parts and joined again, and so each part that a step changes.
use Prim.Native.Nat.{◌≤◌, ◌<◌, ◌^◌}
use native.Mathlib.Omega.{arith}
use mathlib.Core.Path.{◌≡◌, refl}
use mathlib.Core.Bool.{Bool, true, ◌||◌}
use mathlib.Core.List.{List}
use lib.ListN.{length}
use lib.Dec.{ltb, leb, eqb, lit<}
use lib.Pow.{pow_mono}
use borrow.Author.Tests.{leb-true, le-leb, ltb-true, lt-ltb, eqb-true, eq-eqb}
use Rattle.lists.specs.Rows.{choose, all}
use Rattle.areas.specs.Area.{apart}
use Rattle.guest.specs.declared.Memory.{Memory}
use Rattle.guest.specs.declared.Control.{Control}
use Rattle.guest.specs.declared.Vcpu.{Vcpu}
use Rattle.guest.specs.Machine.{Machine, initialised, is_set, shared_count, with_control}
use Rattle.rules.specs.Standing.{standing, run_size, total, distributor_size, its_size}
use Rattle.rules.specs.Rules.{memory_ok, irqs_ok, control_ok, frame_ok, region_ok, limit_of, frames_ok, init_ok, distinct, vcpu_ok, vcpus_ok, last_ok, untouched, table_ok, tables_ok, its_ok, rules}
use Rattle.rules.proofs.Parts.{Default, count_parts, count_whole}
use Rattle.guest.specs.Words.{Words, ControlWords}
use Rattle.kept.specs.Good.{Good}
use Rattle.kept.proofs.Choice.{choose_by, and_left, and_right, and_both}

-- the control marks
pub record Marks (c : Control) : Type 0 where
  pub init : c.init ≤ 1
  pub running : c.running ≤ c.init
  pub itsinit : c.itsinit ≤ c.init
  pub irqsset : c.irqsset ≤ 1
  pub irqs : irqs_ok c.irqs ≡ true
  pub status : c.status < 16
  pub unset : c.irqsset ≡ 0 → Default c.irqs

marks : (c : Control) → control_ok c ≡ true → Marks c
unfolding control_ok
marks c e =
    let e₂ = and_right (leb c.init 1) _ e in
    let e₃ = and_right (leb c.running c.init) _ e₂ in
    let e₄ = and_right (leb c.itsinit c.init) _ e₃ in
    let e₅ = and_right (leb c.irqsset 1) _ e₄ in
    let e₆ = and_right (irqs_ok c.irqs) _ e₅ in
    record {
      init = leb-true _ _ (and_left _ _ e);
      running = leb-true _ _ (and_left _ _ e₂);
      itsinit = leb-true _ _ (and_left _ _ e₃);
      irqsset = leb-true _ _ (and_left _ _ e₄);
      irqs = and_left _ _ e₅;
      status = ltb-true _ _ (and_left _ _ e₆);
      unset = count_parts c (and_right (ltb c.status 16) _ e₆);
    }

marked : {c : Control} → Marks c → control_ok c ≡ true
unfolding control_ok
marked {c} k =
    and_both (le-leb _ _ k.init) (and_both (le-leb _ _ k.running) (and_both (le-leb _ _ k.itsinit)
    (and_both (le-leb _ _ k.irqsset) (and_both k.irqs (and_both (lt-ltb _ _ k.status) (count_whole c k.irqsset k.unset))))))

-- marks fit their places
pub marks_words : (c : Control) → Marks c → ControlWords c
unfolding irqs_ok
marks_words c k =
    let n : c.irqs ≤ 1024 = leb-true _ _ (and_left (leb c.irqs 1024) _ (and_right (leb 64 c.irqs) _ k.irqs)) in
    let top = lit< {m = 1024} {n = 2 ^ 64} tt in
    record {
      init = omega arith;
      running = omega arith;
      irqs = omega arith;
      irqsset = omega arith;
      status = omega arith;
      itsinit = omega arith;
    }

-- all rules
pub record Parts (m : Machine) : Type 0 where
  pub memory : memory_ok m.memory ≡ true
  pub control : Marks m.control
  pub frames : frames_ok m ≡ true
  pub init : init_ok m ≡ true
  pub vcpus : vcpus_ok m.vcpus ≡ true
  pub shared : length m.shared ≡ shared_count m.control.irqs
  pub last : last_ok m.shared ≡ true
  pub untouched : untouched m ≡ true
  pub its : m.control.itsinit ≤ m.frames.its.set
  pub tables : tables_ok m ≡ true

pub split : (m : Machine) → rules m ≡ true → Parts m
unfolding rules its_ok
split m e =
    let e₂ = and_right (memory_ok m.memory) _ e in
    let e₃ = and_right (control_ok m.control) _ e₂ in
    let e₄ = and_right (frames_ok m) _ e₃ in
    let e₅ = and_right (init_ok m) _ e₄ in
    let e₆ = and_right (vcpus_ok m.vcpus) _ e₅ in
    let e₇ = and_right (eqb (length m.shared) (shared_count m.control.irqs)) _ e₆ in
    let e₈ = and_right (last_ok m.shared) _ e₇ in
    let e₉ = and_right (untouched m) _ e₈ in
    record {
      memory = and_left _ _ e;
      control = marks m.control (and_left _ _ e₂);
      frames = and_left _ _ e₃;
      init = and_left _ _ e₄;
      vcpus = and_left _ _ e₅;
      shared = eqb-true _ _ (and_left _ _ e₆);
      last = and_left _ _ e₇;
      untouched = and_left _ _ e₈;
      its = leb-true _ _ (and_left _ _ e₉);
      tables = and_right (its_ok m) _ e₉;
    }

pub join : {m : Machine} → Parts m → rules m ≡ true
unfolding rules its_ok
join p =
    and_both p.memory (and_both (marked p.control) (and_both p.frames (and_both p.init (and_both p.vcpus
    (and_both (eq-eqb _ _ p.shared) (and_both p.last (and_both p.untouched (and_both (le-leb _ _ p.its) p.tables))))))))

-- of a good machine
pub parts : (m : Machine) → Good m → Parts m
parts m h = split m h.rules

pub good : {m : Machine} → Words m → Parts m → Good m
good w p = record { words = w; rules = join p }

-- the limit of addresses is at most 2^52
pub limit_le : (r : Memory) → memory_ok r ≡ true → 2 ^ r.width ≤ 2 ^ 52
unfolding memory_ok
limit_le r e = pow_mono (leb-true r.width 52 (and_left _ _ (and_right (leb 36 r.width) _ e)))

-- the frames
pub record Places (m : Machine) : Type 0 where
  pub distributor : frame_ok (limit_of m) distributor_size m.frames.distributor ≡ true
  pub single : frame_ok (limit_of m) (run_size m) m.frames.single ≡ true
  pub its : frame_ok (limit_of m) its_size m.frames.its ≡ true
  pub few : length m.regions ≤ 32
  pub regions : all (region_ok (limit_of m)) m.regions ≡ true
  pub one : is_set m.frames.single ≡ true → length m.regions ≡ 0
  pub apart : apart (standing m) ≡ true

pub places : (m : Machine) → frames_ok m ≡ true → Places m
unfolding frames_ok
places m e =
    let e₂ = and_right (frame_ok (limit_of m) distributor_size m.frames.distributor) _ e in
    let e₃ = and_right (frame_ok (limit_of m) (run_size m) m.frames.single) _ e₂ in
    let e₄ = and_right (frame_ok (limit_of m) its_size m.frames.its) _ e₃ in
    let e₅ = and_right (leb (length m.regions) 32) _ e₄ in
    let e₆ = and_right (all (region_ok (limit_of m)) m.regions) _ e₅ in
    record {
      distributor = and_left _ _ e;
      single = and_left _ _ e₂;
      its = and_left _ _ e₃;
      few = leb-true _ _ (and_left _ _ e₄);
      regions = and_left _ _ e₅;
      one = λ s. eqb-true _ _ (rw s at (and_left (choose (is_set m.frames.single) (eqb (length m.regions) 0) true) _ e₆));
      apart = and_right (choose (is_set m.frames.single) (eqb (length m.regions) 0) true) _ e₆;
    }

pub placed_well : {m : Machine} → Places m → frames_ok m ≡ true
unfolding frames_ok
placed_well {m} p =
    and_both p.distributor (and_both p.single (and_both p.its (and_both (le-leb _ _ p.few) (and_both p.regions
    (and_both (choose_by (λ (b : Bool). b ≡ true) (is_set m.frames.single) (λ s. eq-eqb _ _ (p.one s)) (λ s. refl)) p.apart)))))

-- what INIT needs
pub record Ready (m : Machine) : Type 0 where
  pub vcpu : 1 ≤ length m.vcpus
  pub distributor : is_set m.frames.distributor ≡ true
  pub room : (is_set m.frames.single || leb (length m.vcpus) (total m.regions)) ≡ true

pub ready : (m : Machine) → init_ok m ≡ true → initialised m ≡ true → Ready m
unfolding init_ok
ready m e i =
    let e₁ = rw i at e in
    let e₂ = and_right (leb 1 (length m.vcpus)) _ e₁ in
    record {
      vcpu = leb-true _ _ (and_left _ _ e₁);
      distributor = and_left _ _ e₂;
      room = and_right (is_set m.frames.distributor) _ e₂;
    }

pub made_ready : (m : Machine) → (initialised m ≡ true → Ready m) → init_ok m ≡ true
unfolding init_ok
made_ready m r =
    choose_by (λ (b : Bool). b ≡ true) (initialised m)
    (λ i. and_both (le-leb _ _ (r i).vcpu) (and_both (r i).distributor (r i).room)) (λ i. refl)

-- the VCPUs
pub record Rows (vs : List Vcpu) : Type 0 where
  pub few : length vs ≤ 64
  pub each : all vcpu_ok vs ≡ true
  pub distinct : distinct vs ≡ true

pub rows : (vs : List Vcpu) → vcpus_ok vs ≡ true → Rows vs
unfolding vcpus_ok
rows vs e =
    let e₂ = and_right (leb (length vs) 64) _ e in
    record { few = leb-true _ _ (and_left _ _ e); each = and_left _ _ e₂; distinct = and_right (all vcpu_ok vs) _ e₂ }

pub rows_well : {vs : List Vcpu} → Rows vs → vcpus_ok vs ≡ true
unfolding vcpus_ok
rows_well r = and_both (le-leb _ _ r.few) (and_both r.each r.distinct)

-- tables stay placed when ITS INIT is done
pub tables_after : (m : Machine) (c : Control) → m.control.itsinit ≤ c.itsinit → tables_ok m ≡ true → tables_ok (with_control c m) ≡ true
unfolding tables_ok
tables_after m c h e =
    let t = m.tables in
    let a₁ = table_ok m.memory t.devices in
    let a₂ = table_ok m.memory t.collections in
    let a₃ = eqb t.devices.set t.collections.set in
    let a₄ = leb t.devices.set m.control.itsinit in
    let e₂ = and_right a₁ _ e in
    let e₃ = and_right a₂ _ e₂ in
    let e₄ = and_right a₃ _ e₃ in
    let l = leb-true t.devices.set m.control.itsinit (and_left a₄ _ e₄) in
    and_both (and_left a₁ _ e) (and_both (and_left a₂ _ e₂) (and_both (and_left a₃ _ e₃)
    (and_both (le-leb t.devices.set c.itsinit (omega arith)) (and_right a₄ _ e₄))))
