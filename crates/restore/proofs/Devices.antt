-- The visit of a device, by the tests of the code on what was read of its entry. Assumes nothing.
use Prim.Native.Nat.{ℕ, ◌/◌, ◌^◌, ◌≤◌, ◌<◌}
use native.Mathlib.Omega.{arith}
use mathlib.Core.Path.{◌≡◌, refl, sym, ap, ap₂, ◌∙◌}
use mathlib.Core.Bool.{Bool, true, false, not}
use mathlib.Core.List.{List, [], ◌∷◌, ◌++◌}
use lib.ListN.{length, length-take}
use lib.Dec.{ltb, leb}
use Rattle.std.specs.Prelude.{Result, Ok, Err, ⊤}
use lib.Pow.{pow_mono}
use borrow.Author.Tests.{ltb-false, leb-false, lt-ltb, le-ltb, lt-leb, le-leb}
use Rattle.lists.specs.Rows.{choose}
use Rattle.areas.specs.declared.Area.{Area}
use Rattle.areas.specs.Area.{inside, strikes}
use Rattle.entries.specs.declared.DeviceEntry.{DeviceEntry}
use Rattle.entries.specs.Device.{device_of}
use Rattle.entries.proofs.Laws.{device_of_fits}
use Rattle.guest.specs.declared.Memory.{Memory}
use Rattle.guest.specs.Machine.{Machine}
use Rattle.rules.specs.Rules.{memory_area}
use Rattle.mapping.specs.declared.Device.{Device}
use Rattle.mapping.specs.Mapped.{Mapped, itt_area}
use Rattle.mapping.specs.Commands.{table_areas, with_devices}
use Rattle.mapping.specs.MapWords.{DeviceWords}
use Rattle.layout.specs.Layout.{decode, memory_of}
use Rattle.maplayout.specs.MapLayout.{decode_map}
use Rattle.maplayout.specs.Added.{device_added}
use Rattle.tables.specs.Bytes.{entry_at, area_bytes}
use Rattle.tables.specs.Fault.{Place, at_device, Kind, fault_next, fault_size, fault33rd, fault_outside, fault_overlap, at as faultAt}
use Rattle.tables.specs.Restored.{Out, fault, Test, tried, device_tests, visit_device, read_events}
use Rattle.codes.specs.declared.Kind as kinds
use Rattle.codes.specs.declared.Fault as faults
use Rattle.restore.specs.Begun.{Over, Begun, ByFault, ByKind, Steps}
use Rattle.restore.specs.Parts.{bytes_in, first_kind, read_fault, kind_met}
use Rattle.restore.proofs.Over.{same_guest, same_rows, over_device}
use Rattle.restore.proofs.Answers.{not_both, gives_kind, gives_as}

-- the tests of an entry, by the first that fails
abbrev behind : Place → Out → Result ⊤ Kind → Out
behind p o (Ok u) = o
behind p o (Err c) = fault (faultAt p c)

tried_first : (p : Place) (ts : List Test) (o : Out) → tried p ts o ≡ behind p o (first_kind ts)
tried_first p [] o = refl
tried_first p (t ∷ ts) o = by t.fails (tried_first p ts o)
  where
    by : (b : Bool) → tried p ts o ≡ behind p o (first_kind ts)
        → choose b (fault (faultAt p t.kind)) (tried p ts o) ≡ behind p o (choose b (Err t.kind) (first_kind ts))
    by true e = refl
    by false e = e

-- the memory that was loaded is the guest's own
pub memory_loaded : (s : List ℕ) (x : Memory) → x ≡ memory_of s → x ≡ (decode s).memory
unfolding decode
memory_loaded s x e = e

pub memory_long : (s : List ℕ) (x : Memory) → x ≡ memory_of s → (n : ℕ) → n ≡ (decode s).memory.length → n ≡ x.length
memory_long s x e n f = f ∙ ap (λ (y : Memory). y.length) (sym (memory_loaded s x e))

-- what a device without a fault keeps
pub record Allowed (m : Machine) (d : Device) (k : Mapped) : Type 0 where
  pub size : d.bits ≤ 16
  pub room : length k.devices < 32
  pub inside : inside (memory_area m.memory) (itt_area d) ≡ true

module _ (m : Machine) (d : Device) (k : Mapped) (v : Allowed m d k) (r : Memory) (p : r ≡ m.memory) (a : Area) (e : a ≡ itt_area d) where
  pub area_inside : inside (memory_area r) a ≡ true
  area_inside = rw (p, e) v.inside

  -- an ITT has at most 65,536 entries
  pub itt_few : (mem x : List ℕ) → x ≡ bytes_in r mem a → length x / 8 ≤ 65536
  itt_few mem x f =
      let q : 2 ^ d.bits ≤ 2 ^ 16 = pow_mono {j = 16} v.size in
      rw (f, e) (simp length-take (omega arith))

module _ (good : Bool) (m : Machine) (d : Device) (k : Mapped) where
  abbrev kind : Result ⊤ Kind
  kind = read_fault good m d k

  pub allowed : Ok tt ≡ kind → Allowed m d k
  unfolding read_fault
  allowed z = by good (ltb 16 d.bits) refl (leb 32 (length k.devices)) refl (inside (memory_area m.memory) (itt_area d)) refl (sym z)
    where
      by : (g x : Bool) → ltb 16 d.bits ≡ x → (y : Bool) → leb 32 (length k.devices) ≡ y → (w : Bool) → inside (memory_area m.memory) (itt_area d) ≡ w
          → ◌≡◌ {A = Result ⊤ Kind} (choose (not g) (Err fault_next) (choose x (Err fault_size) (choose y (Err fault33rd) (choose (not w) (Err fault_outside) (choose (strikes (table_areas m k.devices) (itt_area d)) (Err fault_overlap) (Ok tt)))))) (Ok tt)
          → Allowed m d k
      by false x a y b w c e = absurd (not_both e)
      by true true a y b w c e = absurd (not_both e)
      by true false a true b w c e = absurd (not_both e)
      by true false a false b false c e = absurd (not_both e)
      by true false a false b true c e = record { size = ltb-false 16 d.bits a; room = leb-false 32 (length k.devices) b; inside = c }

  -- the code's tests
  pub fault_next_lem : good ≡ false → Err fault_next ≡ kind
  unfolding read_fault
  fault_next_lem y = rw y

  module _ (y : good ≡ true) where
    pub fault_size_lem : 16 < d.bits → Err fault_size ≡ kind
    unfolding read_fault
    fault_size_lem h = rw (y, lt-ltb 16 d.bits h)

    module _ (h : d.bits ≤ 16) (n : ℕ) (l : n ≡ length k.devices) where
      pub fault_full : 32 ≤ n → Err fault33rd ≡ kind
      unfolding read_fault
      fault_full g = rw (y, le-ltb 16 d.bits h, le-leb 32 (length k.devices) (omega arith))

      module _ (g : n < 32) (r : Memory) (o : r ≡ m.memory) (w a : Area) (p : w ≡ memory_area r) (q : a ≡ itt_area d) (b : Bool) (e : b ≡ inside w a) where
        within : inside (memory_area m.memory) (itt_area d) ≡ b
        within = sym (e ∙ ap₂ inside (p ∙ ap memory_area o) q)

        room : leb 32 (length k.devices) ≡ false
        room = lt-leb 32 (length k.devices) (omega arith)

        pub fault_outside_lem : b ≡ false → Err fault_outside ≡ kind
        unfolding read_fault
        fault_outside_lem f = rw (y, le-ltb 16 d.bits h, room, within ∙ f)

        module _ (i : b ≡ true) (s : Bool) (v : s ≡ strikes (table_areas m k.devices) a) where
          met : strikes (table_areas m k.devices) (itt_area d) ≡ s
          met = sym (v ∙ ap (strikes (table_areas m k.devices)) q)

          pub fault_struck : s ≡ true → Err fault_overlap ≡ kind
          unfolding read_fault
          fault_struck f = rw (y, le-ltb 16 d.bits h, room, within ∙ i, met ∙ f)

          pub fault_none : s ≡ false → Ok tt ≡ kind
          unfolding read_fault
          fault_none f = rw (y, le-ltb 16 d.bits h, room, within ∙ i, met ∙ f)

-- the visit of an entry, by what was read of it and its fault
module _ (t : List ℕ) (i : ℕ) (good : Bool) (s : List ℕ) (w : ℕ) (c : DeviceEntry) (p : w ≡ entry_at t i) (q : c ≡ device_of w) where
  abbrev row : Device
  row = record { id = i; itt = c.itt; bits = c.bits }

  row_read : c ≡ device_of (entry_at t i)
  row_read = q ∙ ap device_of p

  -- every number of the row fits its place
  row_words : i < 65536 → row.bits ≤ 16 → DeviceWords row
  row_words h b =
      let itt : c.itt < 2 ^ 52 = rw q (device_of_fits w).itt in
      record { id = omega arith; itt = omega arith; bits = omega arith }

  module _ (e : Result ⊤ kinds.Kind) (f : kind_met e ≡ read_fault good (decode s) row (decode_map s)) where
    -- the same tests, whatever the mapping was read over
    tests_same : {z : List ℕ} {k : Mapped} → Over z k s → kind_met e ≡ first_kind (device_tests good (decode z) row k)
    unfolding read_fault
    tests_same o = f ∙ ap₂ (λ (m : Machine) (x : Mapped). read_fault good m row x) (same_guest o) (same_rows o)

    visit_is : (mem : List ℕ) {z : List ℕ} {k : Mapped} → Over z k s
        → behind (at_device i) (read_events (area_bytes (decode z) mem (itt_area row)) i (with_devices (k.devices ++ (row ∷ [])) k)) (kind_met e)
        ≡ visit_device (decode z) mem t good i k
    unfolding visit_device
    visit_is mem {z} {k} o =
        let rest = read_events (area_bytes (decode z) mem (itt_area row)) i (with_devices (k.devices ++ (row ∷ [])) k) in
        let h = ap (behind (at_device i) rest) (tests_same o) ∙ sym (tried_first (at_device i) (device_tests good (decode z) row k) rest) in
        rw (← row_read) h

    pub device_stops : (mem : List ℕ) (c : kinds.Kind) → e ≡ Err c → Steps (ByKind (at_device i)) (λ m. visit_device m mem t good i) s (Err c) s
    device_stops mem c y z k o = gives_kind (at_device i) c (rw y at (visit_is mem o))

    module _ (y : e ≡ Ok tt) (h : i < 65536) (u : List ℕ) (a : u ≡ device_added row s) where
      device_over : {z : List ℕ} {k : Mapped} → Over z k s → Over z (with_devices (k.devices ++ (row ∷ [])) k) u
      device_over o =
          let v = allowed good (decode s) row (decode_map s) (rw y at f) in
          let l = ap (λ (x : Mapped). length x.devices) (same_rows o) in
          let r = v.room in
          over_device o row (row_words h v.size) v.size (omega arith) u a

      pub device_begun : Begun s → Begun u
      device_begun b = record { from = b.from; rows = _; over = device_over b.over }

      pub device_goes : (mem : List ℕ) (r : Memory) → r ≡ (decode s).memory → (x : Area) → x ≡ itt_area row → (itt : List ℕ) → itt ≡ bytes_in r mem x
          → (n : Result ⊤ faults.Fault) (v : List ℕ) → Steps ByFault (λ m. read_events itt i) u n v → Steps ByFault (λ m. visit_device m mem t good i) s n v
      unfolding area_bytes
      device_goes mem r j x l itt b n v d z k o =
          let g : itt ≡ area_bytes (decode z) mem (itt_area row) = b ∙ ap₂ (λ (y : Memory) (x : Area). bytes_in y mem x) (j ∙ ap (λ (m : Machine). m.memory) (same_guest o)) l in
          gives_as (d z _ (device_over o))
          (ap (λ (b : List ℕ). read_events b i (with_devices (k.devices ++ (row ∷ [])) k)) g ∙ rw y at (visit_is mem o))
