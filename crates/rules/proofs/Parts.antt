-- What the rules say of a sound guest, part by part, and back: the parts make a guest sound. Assumes nothing.
use Prim.Native.Nat.{ℕ, ◌+◌, ◌*◌, ◌%◌, ◌^◌, ◌≤◌, ◌<◌}
use native.Mathlib.Omega.{arith}
use mathlib.Core.Path.{◌≡◌, refl}
use mathlib.Core.Logic.{◌⊎◌, inl, inr}
use mathlib.Core.Bool.{Bool, true, false, ◌&&◌, ◌||◌, not}
use mathlib.Core.List.{List, [], ◌∷◌}
use lib.ListN.{length}
use lib.Dec.{ltb, leb, eqb}
use borrow.Author.Tests.{lt-ltb, le-leb, eq-eqb, ne_eqb, ltb-true, leb-true, eqb-true, eqb-false, not-true}
use Rattle.lists.specs.Rows.{choose, all}
use Rattle.fields.specs.Field.{get_field}
use Rattle.areas.specs.Area.{apart, ends_by, inside, overlaps}
use Rattle.areas.proofs.Tests.{conj, split, join, not_holds, or_true}
use Rattle.guest.specs.declared.Memory.{Memory}
use Rattle.guest.specs.declared.Control.{Control}
use Rattle.guest.specs.declared.Frame.{Frame}
use Rattle.guest.specs.declared.Region.{Region}
use Rattle.guest.specs.declared.Bank.{Bank}
use Rattle.guest.specs.declared.Vcpu.{Vcpu}
use Rattle.guest.specs.declared.Table.{Table}
use Rattle.guest.specs.Machine.{Machine, initialised, is_set, shared_count}
use Rattle.guest.specs.Words.{BankFits}
use Rattle.rules.specs.Standing.{standing, run_size, total, distributor_size, its_size}
use Rattle.rules.specs.Rules.{memory_ok, irqs_ok, unset_ok, control_ok, frame_ok, region_ok, limit_of, frames_ok, init_ok, distinct, vcpu_ok, vcpus_ok, bank_fits, last_ok, fresh_bank, fresh_vcpu, untouched, table_area, memory_area, table_ok, tables_ok, its_ok, rules}

-- a test that is asked only where a mark is set
chosen : (b : Bool) {x : Bool} → choose b x true ≡ true → b ≡ true → x ≡ true
chosen true e q = e
chosen false e q = absurd (let z : ◌≡◌ {A = ℕ} 0 1 = cc in omega arith)

choosing : (b : Bool) {x : Bool} → (b ≡ true → x ≡ true) → choose b x true ≡ true
choosing true f = f refl
choosing false f = refl

-- guest memory
pub record MemoryParts (r : Memory) : Type 0 where
  pub wide : 36 ≤ r.width
  pub narrow : r.width ≤ 52
  pub start : r.start % 4096 ≡ 0
  pub pages : r.length % 4096 ≡ 0
  pub least : 4096 ≤ r.length
  pub most : r.length ≤ 1073741824
  pub end : r.start + r.length ≤ 2 ^ r.width

module _ (r : Memory) where
  abbrev memory_tests : List Bool
  memory_tests =
      leb r.width 52 ∷ eqb (r.start % 4096) 0 ∷ eqb (r.length % 4096) 0 ∷ leb 4096 r.length ∷ leb r.length 1073741824
      ∷ leb (r.start + r.length) (2 ^ r.width) ∷ []

  pub memory_parts : memory_ok r ≡ true → MemoryParts r
  unfolding memory_ok
  memory_parts e =
      let p = split (leb 36 r.width) memory_tests e in
      record {
        wide = leb-true 36 r.width p.0;
        narrow = leb-true r.width 52 p.1.0;
        start = eqb-true (r.start % 4096) 0 p.1.1.0;
        pages = eqb-true (r.length % 4096) 0 p.1.1.1.0;
        least = leb-true 4096 r.length p.1.1.1.1.0;
        most = leb-true r.length 1073741824 p.1.1.1.1.1.0;
        end = leb-true (r.start + r.length) (2 ^ r.width) p.1.1.1.1.1.1;
      }

  pub memory_whole : MemoryParts r → memory_ok r ≡ true
  unfolding memory_ok
  memory_whole p =
      join (leb 36 r.width) memory_tests (
        le-leb 36 r.width p.wide,
        (
          le-leb r.width 52 p.narrow,
          (
            eq-eqb (r.start % 4096) 0 p.start,
            (
              eq-eqb (r.length % 4096) 0 p.pages,
              (
                le-leb 4096 r.length p.least,
                (
                  le-leb r.length 1073741824 p.most,
                  le-leb (r.start + r.length) (2 ^ r.width) p.end,
                ),
              ),
            ),
          ),
        ),
      )

-- an interrupt count
pub record IrqsParts (n : ℕ) : Type 0 where
  pub least : 64 ≤ n
  pub most : n ≤ 1024
  pub step : n % 32 ≡ 0

module _ (n : ℕ) where
  abbrev irqs_tests : List Bool
  irqs_tests = leb n 1024 ∷ eqb (n % 32) 0 ∷ []

  pub irqs_parts : irqs_ok n ≡ true → IrqsParts n
  unfolding irqs_ok
  irqs_parts e =
      let p = split (leb 64 n) irqs_tests e in
      record { least = leb-true 64 n p.0; most = leb-true n 1024 p.1.0; step = eqb-true (n % 32) 0 p.1.1 }

  pub irqs_whole : IrqsParts n → irqs_ok n ≡ true
  unfolding irqs_ok
  irqs_whole p = join (leb 64 n) irqs_tests (le-leb 64 n p.least, (le-leb n 1024 p.most, eq-eqb (n % 32) 0 p.step))

-- the counts of guests that set none
abbrev pub Default : ℕ → Type 0
Default n = (n ≡ 64) ⊎ (n ≡ 256)

default_parts : (n : ℕ) → unset_ok n ≡ true → Default n
default_parts n e = go (eqb n 64) refl e
  where
    go : (b : Bool) → eqb n 64 ≡ b → (b || eqb n 256) ≡ true → Default n
    go true q u = inl (eqb-true n 64 q)
    go false q u = inr (eqb-true n 256 u)

default_whole : (n : ℕ) → Default n → unset_ok n ≡ true
default_whole n (inl h) = rw h
default_whole n (inr h) = rw h

module _ (c : Control) where
  abbrev counted : Bool
  counted = eqb c.irqsset 1 || unset_ok c.irqs

  pub count_parts : counted ≡ true → c.irqsset ≡ 0 → Default c.irqs
  count_parts e h = default_parts c.irqs (rw (ne_eqb c.irqsset 1 (λ q. omega arith)) at e)

  pub count_whole : c.irqsset ≤ 1 → (c.irqsset ≡ 0 → Default c.irqs) → counted ≡ true
  count_whole l f = go (eqb c.irqsset 1) refl
    where
      go : (b : Bool) → eqb c.irqsset 1 ≡ b → (b || unset_ok c.irqs) ≡ true
      go true q = refl
      go false q = let n = eqb-false c.irqsset 1 q in default_whole c.irqs (f (omega (arith, l)))

-- the marks
pub record ControlParts (c : Control) : Type 0 where
  pub init : c.init ≤ 1
  pub running : c.running ≤ c.init
  pub itsinit : c.itsinit ≤ c.init
  pub irqsset : c.irqsset ≤ 1
  pub irqs : irqs_ok c.irqs ≡ true
  pub status : c.status < 16
  pub unset : c.irqsset ≡ 0 → Default c.irqs

module _ (c : Control) where
  abbrev control_tests : List Bool
  control_tests =
      leb c.running c.init ∷ leb c.itsinit c.init ∷ leb c.irqsset 1 ∷ irqs_ok c.irqs ∷ ltb c.status 16
      ∷ counted c ∷ []

  pub control_parts : control_ok c ≡ true → ControlParts c
  unfolding control_ok
  control_parts e =
      let p = split (leb c.init 1) control_tests e in
      record {
        init = leb-true c.init 1 p.0;
        running = leb-true c.running c.init p.1.0;
        itsinit = leb-true c.itsinit c.init p.1.1.0;
        irqsset = leb-true c.irqsset 1 p.1.1.1.0;
        irqs = p.1.1.1.1.0;
        status = ltb-true c.status 16 p.1.1.1.1.1.0;
        unset = count_parts c p.1.1.1.1.1.1;
      }

  pub control_whole : ControlParts c → control_ok c ≡ true
  unfolding control_ok
  control_whole p =
      join (leb c.init 1) control_tests (
        le-leb c.init 1 p.init,
        (
          le-leb c.running c.init p.running,
          (
            le-leb c.itsinit c.init p.itsinit,
            (
              le-leb c.irqsset 1 p.irqsset,
              (p.irqs, (lt-ltb c.status 16 p.status, count_whole c p.irqsset p.unset)),
            ),
          ),
        ),
      )

-- a frame whose base may be unset
pub record FrameParts (limit size : ℕ) (f : Frame) : Type 0 where
  pub mark : f.set ≤ 1
  pub aligned : f.base % 65536 ≡ 0
  pub ends : f.set ≡ 1 → f.base + size ≤ limit
  pub unset : f.set ≡ 0 → f.base ≡ 0

module _ (limit size : ℕ) (f : Frame) where
  pub frame_parts : frame_ok limit size f ≡ true → FrameParts limit size f
  unfolding frame_ok ends_by
  frame_parts e = go (is_set f) refl e
    where
      go : (b : Bool) → is_set f ≡ b → choose b (eqb (f.base % 65536) 0 && leb (f.base + size) limit) (eqb f.set 0 && eqb f.base 0) ≡ true → FrameParts limit size f
      go true q r =
          let s : f.set ≡ 1 = eqb-true f.set 1 q in
          let p = split (eqb (f.base % 65536) 0) (leb (f.base + size) limit ∷ []) r in
          record {
            mark = omega arith;
            aligned = eqb-true (f.base % 65536) 0 p.0;
            ends = λ h. leb-true (f.base + size) limit p.1;
            unset = λ h. omega arith;
          }
      go false q r =
          let p = split (eqb f.set 0) (eqb f.base 0 ∷ []) r in
          let s : f.set ≡ 0 = eqb-true f.set 0 p.0 in
          let z : f.base ≡ 0 = eqb-true f.base 0 p.1 in
          record { mark = omega arith; aligned = omega arith; ends = λ h. absurd (omega arith); unset = λ h. z }

  pub frame_whole : FrameParts limit size f → frame_ok limit size f ≡ true
  unfolding frame_ok ends_by
  frame_whole p = go (is_set f) refl
    where
      go : (b : Bool) → is_set f ≡ b → choose b (eqb (f.base % 65536) 0 && leb (f.base + size) limit) (eqb f.set 0 && eqb f.base 0) ≡ true
      go true q =
          join (eqb (f.base % 65536) 0) (leb (f.base + size) limit ∷ [])
          (eq-eqb (f.base % 65536) 0 p.aligned, le-leb (f.base + size) limit (p.ends (eqb-true f.set 1 q)))
      go false q =
          let n = eqb-false f.set 1 q in
          let z : f.set ≡ 0 = omega (arith, p.mark) in
          join (eqb f.set 0) (eqb f.base 0 ∷ []) (eq-eqb f.set 0 z, eq-eqb f.base 0 (p.unset z))

-- a region
pub record RegionParts (limit : ℕ) (r : Region) : Type 0 where
  pub aligned : r.base % 65536 ≡ 0
  pub some : 1 ≤ r.count
  pub small : r.count < 4096
  pub ends : r.base + 131072 * r.count ≤ limit

module _ (limit : ℕ) (r : Region) where
  abbrev region_tests : List Bool
  region_tests = leb 1 r.count ∷ ltb r.count 4096 ∷ leb (r.base + 131072 * r.count) limit ∷ []

  pub region_parts : region_ok limit r ≡ true → RegionParts limit r
  unfolding region_ok ends_by
  region_parts e =
      let p = split (eqb (r.base % 65536) 0) region_tests e in
      record {
        aligned = eqb-true (r.base % 65536) 0 p.0;
        some = leb-true 1 r.count p.1.0;
        small = ltb-true r.count 4096 p.1.1.0;
        ends = leb-true (r.base + 131072 * r.count) limit p.1.1.1;
      }

  pub region_whole : RegionParts limit r → region_ok limit r ≡ true
  unfolding region_ok ends_by
  region_whole p =
      join (eqb (r.base % 65536) 0) region_tests (
        eq-eqb (r.base % 65536) 0 p.aligned,
        (
          le-leb 1 r.count p.some,
          (
            lt-ltb r.count 4096 p.small,
            le-leb (r.base + 131072 * r.count) limit p.ends,
          ),
        ),
      )

-- all frames
pub record FramesParts (m : Machine) : Type 0 where
  pub distributor : frame_ok (limit_of m) distributor_size m.frames.distributor ≡ true
  pub single : frame_ok (limit_of m) (run_size m) m.frames.single ≡ true
  pub its : frame_ok (limit_of m) its_size m.frames.its ≡ true
  pub few : length m.regions ≤ 32
  pub regions : all (region_ok (limit_of m)) m.regions ≡ true
  pub either : m.frames.single.set ≡ 1 → length m.regions ≡ 0
  pub apart : apart (standing m) ≡ true

module _ (m : Machine) where
  abbrev frames_tests : List Bool
  frames_tests =
      frame_ok (limit_of m) (run_size m) m.frames.single ∷ frame_ok (limit_of m) its_size m.frames.its ∷ leb (length m.regions) 32
      ∷ all (region_ok (limit_of m)) m.regions ∷ choose (is_set m.frames.single) (eqb (length m.regions) 0) true
      ∷ apart (standing m) ∷ []

  pub frames_parts : frames_ok m ≡ true → FramesParts m
  unfolding frames_ok
  frames_parts e =
      let p = split (frame_ok (limit_of m) distributor_size m.frames.distributor) frames_tests e in
      record {
        distributor = p.0;
        single = p.1.0;
        its = p.1.1.0;
        few = leb-true (length m.regions) 32 p.1.1.1.0;
        regions = p.1.1.1.1.0;
        either = λ h. eqb-true (length m.regions) 0 (chosen (is_set m.frames.single) p.1.1.1.1.1.0 (eq-eqb m.frames.single.set 1 h));
        apart = p.1.1.1.1.1.1;
      }

  pub frames_whole : FramesParts m → frames_ok m ≡ true
  unfolding frames_ok
  frames_whole p =
      join (frame_ok (limit_of m) distributor_size m.frames.distributor) frames_tests (
        p.distributor,
        (
          p.single,
          (
            p.its,
            (
              le-leb (length m.regions) 32 p.few,
              (
                p.regions,
                (choosing (is_set m.frames.single) (λ q. eq-eqb (length m.regions) 0 (p.either (eqb-true m.frames.single.set 1 q))), p.apart),
              ),
            ),
          ),
        ),
      )

-- what INIT needs
pub record InitParts (m : Machine) : Type 0 where
  pub some : 1 ≤ length m.vcpus
  pub distributor : m.frames.distributor.set ≡ 1
  pub room : (m.frames.single.set ≡ 1) ⊎ (length m.vcpus ≤ total m.regions)

module _ (m : Machine) where
  abbrev init_tests : List Bool
  init_tests = is_set m.frames.distributor ∷ (is_set m.frames.single || leb (length m.vcpus) (total m.regions)) ∷ []

  pub init_parts : init_ok m ≡ true → m.control.init ≡ 1 → InitParts m
  unfolding init_ok
  init_parts e h =
      let p = split (leb 1 (length m.vcpus)) init_tests (chosen (initialised m) e (eq-eqb m.control.init 1 h)) in
      record {
        some = leb-true 1 (length m.vcpus) p.0;
        distributor = eqb-true m.frames.distributor.set 1 p.1.0;
        room = either (is_set m.frames.single) refl p.1.1;
      }
    where
      either : (b : Bool) → is_set m.frames.single ≡ b → (b || leb (length m.vcpus) (total m.regions)) ≡ true → (m.frames.single.set ≡ 1) ⊎ (length m.vcpus ≤ total m.regions)
      either true q r = inl (eqb-true m.frames.single.set 1 q)
      either false q r = inr (leb-true (length m.vcpus) (total m.regions) r)

  pub init_whole : (m.control.init ≡ 1 → InitParts m) → init_ok m ≡ true
  unfolding init_ok
  init_whole f = choosing (initialised m) (λ q.
      let p = f (eqb-true m.control.init 1 q) in
      join (leb 1 (length m.vcpus)) init_tests (le-leb 1 (length m.vcpus) p.some, (eq-eqb m.frames.distributor.set 1 p.distributor, room p.room)))
    where
      room : (m.frames.single.set ≡ 1) ⊎ (length m.vcpus ≤ total m.regions) → (is_set m.frames.single || leb (length m.vcpus) (total m.regions)) ≡ true
      room (inl h) = rw (eq-eqb m.frames.single.set 1 h)
      room (inr h) = rw (le-leb (length m.vcpus) (total m.regions) h) (or_true (is_set m.frames.single))

-- a VCPU
pub record VcpuParts (v : Vcpu) : Type 0 where
  pub edge : get_field v.bank.trigger 0 16 ≡ 65535
  pub level : get_field v.bank.level 0 16 ≡ 0
  pub status : v.status < 16

module _ (v : Vcpu) where
  abbrev vcpu_tests : List Bool
  vcpu_tests = eqb (get_field v.bank.level 0 16) 0 ∷ ltb v.status 16 ∷ []

  pub vcpu_parts : vcpu_ok v ≡ true → VcpuParts v
  unfolding vcpu_ok
  vcpu_parts e =
      let p = split (eqb (get_field v.bank.trigger 0 16) 65535) vcpu_tests e in
      record {
        edge = eqb-true (get_field v.bank.trigger 0 16) 65535 p.0;
        level = eqb-true (get_field v.bank.level 0 16) 0 p.1.0;
        status = ltb-true v.status 16 p.1.1;
      }

  pub vcpu_whole : VcpuParts v → vcpu_ok v ≡ true
  unfolding vcpu_ok
  vcpu_whole p =
      join (eqb (get_field v.bank.trigger 0 16) 65535) vcpu_tests
      (eq-eqb (get_field v.bank.trigger 0 16) 65535 p.edge, (eq-eqb (get_field v.bank.level 0 16) 0 p.level, lt-ltb v.status 16 p.status))

-- all VCPUs
pub record VcpusParts (vs : List Vcpu) : Type 0 where
  pub few : length vs ≤ 64
  pub each : all vcpu_ok vs ≡ true
  pub distinct : distinct vs ≡ true

module _ (vs : List Vcpu) where
  pub vcpus_parts : vcpus_ok vs ≡ true → VcpusParts vs
  unfolding vcpus_ok
  vcpus_parts e =
      let p = split (leb (length vs) 64) (all vcpu_ok vs ∷ distinct vs ∷ []) e in
      record { few = leb-true (length vs) 64 p.0; each = p.1.0; distinct = p.1.1 }

  pub vcpus_whole : VcpusParts vs → vcpus_ok vs ≡ true
  unfolding vcpus_ok
  vcpus_whole p = join (leb (length vs) 64) (all vcpu_ok vs ∷ distinct vs ∷ []) (le-leb (length vs) 64 p.few, (p.each, p.distinct))

-- a bank of so many interrupts
module _ (bits : ℕ) (b : Bank) where
  abbrev fits_tests : List Bool
  fits_tests = ltb b.level (2 ^ bits) ∷ ltb b.trigger (2 ^ bits) ∷ []

  pub fits_parts : bank_fits bits b ≡ true → BankFits bits b
  unfolding bank_fits
  fits_parts e =
      let p = split (ltb b.latch (2 ^ bits)) fits_tests e in
      record {
        latch = ltb-true b.latch (2 ^ bits) p.0;
        level = ltb-true b.level (2 ^ bits) p.1.0;
        trigger = ltb-true b.trigger (2 ^ bits) p.1.1;
      }

  pub fits_whole : BankFits bits b → bank_fits bits b ≡ true
  unfolding bank_fits
  fits_whole p =
      join (ltb b.latch (2 ^ bits)) fits_tests
      (lt-ltb b.latch (2 ^ bits) p.latch, (lt-ltb b.level (2 ^ bits) p.level, lt-ltb b.trigger (2 ^ bits) p.trigger))

-- a fresh bank, of this trigger word
pub record Fresh (word : ℕ) (b : Bank) : Type 0 where
  pub latch : b.latch ≡ 0
  pub level : b.level ≡ 0
  pub trigger : b.trigger ≡ word

module _ (word : ℕ) (b : Bank) where
  abbrev words_tests : List Bool
  words_tests = eqb b.level 0 ∷ eqb b.trigger word ∷ []

  words_parts : conj (eqb b.latch 0) words_tests ≡ true → Fresh word b
  words_parts e =
      let p = split (eqb b.latch 0) words_tests e in
      record { latch = eqb-true b.latch 0 p.0; level = eqb-true b.level 0 p.1.0; trigger = eqb-true b.trigger word p.1.1 }

  words_whole : Fresh word b → conj (eqb b.latch 0) words_tests ≡ true
  words_whole p =
      join (eqb b.latch 0) words_tests (eq-eqb b.latch 0 p.latch, (eq-eqb b.level 0 p.level, eq-eqb b.trigger word p.trigger))

module _ (b : Bank) where
  pub fresh_parts : fresh_bank b ≡ true → Fresh 0 b
  unfolding fresh_bank
  fresh_parts e = words_parts 0 b e

  pub fresh_whole : Fresh 0 b → fresh_bank b ≡ true
  unfolding fresh_bank
  fresh_whole p = words_whole 0 b p

-- a VCPU with a fresh bank, its SGIs edge
pub record NewParts (v : Vcpu) : Type 0 where
  pub status : v.status ≡ 0
  pub bank : Fresh 65535 v.bank

module _ (v : Vcpu) where
  abbrev new_tests : List Bool
  new_tests = conj (eqb v.bank.latch 0) (words_tests 65535 v.bank) ∷ []

  pub new_parts : fresh_vcpu v ≡ true → NewParts v
  unfolding fresh_vcpu
  new_parts e =
      let p = split (eqb v.status 0) new_tests e in
      record { status = eqb-true v.status 0 p.0; bank = words_parts 65535 v.bank p.1 }

  pub new_whole : NewParts v → fresh_vcpu v ≡ true
  unfolding fresh_vcpu
  new_whole p = join (eqb v.status 0) new_tests (eq-eqb v.status 0 p.status, words_whole 65535 v.bank p.bank)

-- before INIT
pub record UntouchedParts (m : Machine) : Type 0 where
  pub status : m.control.status ≡ 0
  pub vcpus : all fresh_vcpu m.vcpus ≡ true
  pub shared : all fresh_bank m.shared ≡ true

module _ (m : Machine) where
  abbrev untouched_tests : List Bool
  untouched_tests = all fresh_vcpu m.vcpus ∷ all fresh_bank m.shared ∷ []

  pub untouched_parts : untouched m ≡ true → (m.control.init ≡ 1 → ⊥) → UntouchedParts m
  unfolding untouched
  untouched_parts e n =
      let p = split (eqb m.control.status 0) untouched_tests (rw (ne_eqb m.control.init 1 n) at e) in
      record { status = eqb-true m.control.status 0 p.0; vcpus = p.1.0; shared = p.1.1 }

  pub untouched_whole : ((m.control.init ≡ 1 → ⊥) → UntouchedParts m) → untouched m ≡ true
  unfolding untouched
  untouched_whole f = go (initialised m) refl
    where
      go : (b : Bool) → initialised m ≡ b → choose b true (conj (eqb m.control.status 0) untouched_tests) ≡ true
      go true q = refl
      go false q =
          let p = f (eqb-false m.control.init 1 q) in
          join (eqb m.control.status 0) untouched_tests (eq-eqb m.control.status 0 p.status, (p.vcpus, p.shared))

-- a table whose place may be unset
pub record TableParts (r : Memory) (t : Table) : Type 0 where
  pub mark : t.set ≤ 1
  pub start : t.start % 4096 ≡ 0
  pub some : t.set ≡ 1 → 1 ≤ t.pages
  pub most : t.pages ≤ 128
  pub within : t.set ≡ 1 → inside (memory_area r) (table_area t) ≡ true
  pub unset : t.set ≡ 0 → (t.start ≡ 0) × (t.pages ≡ 0)

module _ (r : Memory) (t : Table) where
  abbrev placed_tests : List Bool
  placed_tests = leb 1 t.pages ∷ leb t.pages 128 ∷ inside (memory_area r) (table_area t) ∷ []

  abbrev unplaced_tests : List Bool
  unplaced_tests = eqb t.start 0 ∷ eqb t.pages 0 ∷ []

  pub table_parts : table_ok r t ≡ true → TableParts r t
  unfolding table_ok
  table_parts e = go (eqb t.set 1) refl e
    where
      go : (b : Bool) → eqb t.set 1 ≡ b → choose b (conj (eqb (t.start % 4096) 0) placed_tests) (conj (eqb t.set 0) unplaced_tests) ≡ true → TableParts r t
      go true q w =
          let s : t.set ≡ 1 = eqb-true t.set 1 q in
          let p = split (eqb (t.start % 4096) 0) placed_tests w in
          record {
            mark = omega arith;
            start = eqb-true (t.start % 4096) 0 p.0;
            some = λ h. leb-true 1 t.pages p.1.0;
            most = leb-true t.pages 128 p.1.1.0;
            within = λ h. p.1.1.1;
            unset = λ h. omega arith;
          }
      go false q w =
          let p = split (eqb t.set 0) unplaced_tests w in
          let s : t.set ≡ 0 = eqb-true t.set 0 p.0 in
          let z : t.start ≡ 0 = eqb-true t.start 0 p.1.0 in
          let y : t.pages ≡ 0 = eqb-true t.pages 0 p.1.1 in
          record {
            mark = omega arith;
            start = omega arith;
            some = λ h. absurd (omega arith);
            most = omega arith;
            within = λ h. absurd (omega arith);
            unset = λ h. (z, y);
          }

  pub table_whole : TableParts r t → table_ok r t ≡ true
  unfolding table_ok
  table_whole p = go (eqb t.set 1) refl
    where
      go : (b : Bool) → eqb t.set 1 ≡ b → choose b (conj (eqb (t.start % 4096) 0) placed_tests) (conj (eqb t.set 0) unplaced_tests) ≡ true
      go true q =
          let s : t.set ≡ 1 = eqb-true t.set 1 q in
          join (eqb (t.start % 4096) 0) placed_tests
          (eq-eqb (t.start % 4096) 0 p.start, (le-leb 1 t.pages (p.some s), (le-leb t.pages 128 p.most, p.within s)))
      go false q =
          let n = eqb-false t.set 1 q in
          let z : t.set ≡ 0 = omega (arith, p.mark) in
          join (eqb t.set 0) unplaced_tests (eq-eqb t.set 0 z, (eq-eqb t.start 0 (p.unset z).0, eq-eqb t.pages 0 (p.unset z).1))

-- both tables
pub record TablesParts (m : Machine) : Type 0 where
  pub devices : table_ok m.memory m.tables.devices ≡ true
  pub collections : table_ok m.memory m.tables.collections ≡ true
  pub together : m.tables.devices.set ≡ m.tables.collections.set
  pub after : m.tables.devices.set ≤ m.control.itsinit
  pub apart : overlaps (table_area m.tables.devices) (table_area m.tables.collections) ≡ false

module _ (m : Machine) where
  abbrev tables_tests : List Bool
  tables_tests =
      table_ok m.memory m.tables.collections ∷ eqb m.tables.devices.set m.tables.collections.set
      ∷ leb m.tables.devices.set m.control.itsinit ∷ not (overlaps (table_area m.tables.devices) (table_area m.tables.collections)) ∷ []

  pub tables_parts : tables_ok m ≡ true → TablesParts m
  unfolding tables_ok
  tables_parts e =
      let p = split (table_ok m.memory m.tables.devices) tables_tests e in
      record {
        devices = p.0;
        collections = p.1.0;
        together = eqb-true m.tables.devices.set m.tables.collections.set p.1.1.0;
        after = leb-true m.tables.devices.set m.control.itsinit p.1.1.1.0;
        apart = not-true (overlaps (table_area m.tables.devices) (table_area m.tables.collections)) p.1.1.1.1;
      }

  pub tables_whole : TablesParts m → tables_ok m ≡ true
  unfolding tables_ok
  tables_whole p =
      join (table_ok m.memory m.tables.devices) tables_tests (
        p.devices,
        (
          p.collections,
          (
            eq-eqb m.tables.devices.set m.tables.collections.set p.together,
            (le-leb m.tables.devices.set m.control.itsinit p.after, not_holds p.apart),
          ),
        ),
      )

-- ITS INIT needs the ITS base
module _ (m : Machine) where
  pub its_parts : its_ok m ≡ true → m.control.itsinit ≤ m.frames.its.set
  unfolding its_ok
  its_parts e = leb-true m.control.itsinit m.frames.its.set e

  pub its_whole : m.control.itsinit ≤ m.frames.its.set → its_ok m ≡ true
  unfolding its_ok
  its_whole h = le-leb m.control.itsinit m.frames.its.set h

-- every rule
pub record Parts (m : Machine) : Type 0 where
  pub memory : memory_ok m.memory ≡ true
  pub control : control_ok m.control ≡ true
  pub frames : frames_ok m ≡ true
  pub init : init_ok m ≡ true
  pub vcpus : vcpus_ok m.vcpus ≡ true
  pub shared : length m.shared ≡ shared_count m.control.irqs
  pub last : last_ok m.shared ≡ true
  pub untouched : untouched m ≡ true
  pub its : its_ok m ≡ true
  pub tables : tables_ok m ≡ true

module _ (m : Machine) where
  abbrev rule_tests : List Bool
  rule_tests =
      control_ok m.control ∷ frames_ok m ∷ init_ok m ∷ vcpus_ok m.vcpus
      ∷ eqb (length m.shared) (shared_count m.control.irqs) ∷ last_ok m.shared ∷ untouched m ∷ its_ok m ∷ tables_ok m ∷ []

  pub rules_parts : rules m ≡ true → Parts m
  unfolding rules
  rules_parts e =
      let p = split (memory_ok m.memory) rule_tests e in
      record {
        memory = p.0;
        control = p.1.0;
        frames = p.1.1.0;
        init = p.1.1.1.0;
        vcpus = p.1.1.1.1.0;
        shared = eqb-true (length m.shared) (shared_count m.control.irqs) p.1.1.1.1.1.0;
        last = p.1.1.1.1.1.1.0;
        untouched = p.1.1.1.1.1.1.1.0;
        its = p.1.1.1.1.1.1.1.1.0;
        tables = p.1.1.1.1.1.1.1.1.1;
      }

  pub rules_whole : Parts m → rules m ≡ true
  unfolding rules
  rules_whole p =
      join (memory_ok m.memory) rule_tests (
        p.memory,
        (
          p.control,
          (
            p.frames,
            (
              p.init,
              (
                p.vcpus,
                (
                  eq-eqb (length m.shared) (shared_count m.control.irqs) p.shared,
                  (p.last, (p.untouched, (p.its, p.tables))),
                ),
              ),
            ),
          ),
        ),
      )
