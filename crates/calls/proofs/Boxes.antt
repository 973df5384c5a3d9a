-- From what the code of an ITS command did to what its definition says.
use Prim.Native.Nat.{ℕ}
use native.Mathlib.Omega.{arith}
use mathlib.Core.Path.{◌≡◌, refl, ap}
use mathlib.Core.Bool.{Bool, true, false}
use mathlib.Core.List.{List}
use borrow.Author.Tests.{eq-eqb, ne_eqb}
use Rattle.std.specs.Prelude.{Result, Ok, Err}
use Rattle.answers.specs.declared.Errno.{Errno}
use Rattle.answers.specs.declared.Errno.TheVariants.{ENXIO, EFAULT, EBUSY}
use Rattle.answers.specs.Number.{number}
use Rattle.lists.specs.Rows.{choose}
use Rattle.guest.specs.declared.Guest.{Guest}
use Rattle.guest.specs.declared.Tables.{Tables}
use Rattle.guest.specs.declared.Memory.{Memory}
use Rattle.guest.specs.declared.Control.{Control}
use Rattle.guest.specs.Machine.{Machine, Held, view, no_tables}
use Rattle.guest.specs.Returned.{reading}
use Rattle.guest.proofs.Returned.{number_not_0}
use Rattle.layout.specs.Layout.{memory_of, control_of, tables_of, decode}
use Rattle.mapping.specs.declared.Mapping.{Mapping}
use Rattle.mapping.specs.Mapped.{Mapped, MapResult, Maps, Holds, rows, empty}
use Rattle.mapping.specs.Commands.{place_fault, lookup}
use Rattle.mapping.specs.MapRules.{MapKept}
use Rattle.calls.specs.declared.Contents.{Contents}
use Rattle.calls.specs.Commands.{BoxDoes, BoxResult, refuse_box, ready, placed_at, on_mapping, place, reset, lookup_step, memory_fault}

-- a refusal
refused : (m : Machine) (k : Mapped) (e : Errno) → BoxDoes m k (Err e) (refuse_box m k (number e))
refused m k e = record { is = refl; held = tt }

-- a mapping command before the ITS is ready, and once it is
module _ (r : MapResult) (m : Machine) (k : Mapped) where
  abbrev stepped : MapResult → BoxResult
  stepped x = record { errno = x.errno; next = record { machine = m; mapped = x.next } }

  pub gated : {o : Result Contents Errno} (e : Errno) → o ≡ Err e → number e ≡ choose (ready m) 0 6 → BoxDoes m k o (on_mapping r m k)
  unfolding on_mapping
  gated e p = rw p (by (ready m))
    where
      by : (b : Bool) → ◌≡◌ {A = ℕ} (number e) (choose b 0 6) → BoxDoes m k (Err e) (choose b (stepped r) (refuse_box m k 6))
      by true q = absurd (number_not_0 e q)
      by false q = record { is = ap (refuse_box m k) q; held = tt }

  pub tried_refused : {o : Result Contents Errno} (e : Errno) → o ≡ Err e → ◌≡◌ {A = ℕ} 0 (choose (ready m) 0 6) → Maps k (Err e) r → BoxDoes m k o (on_mapping r m k)
  unfolding on_mapping
  tried_refused e p q h = rw p (by (ready m) q)
    where
      by : (b : Bool) → ◌≡◌ {A = ℕ} 0 (choose b 0 6) → BoxDoes m k (Err e) (choose b (stepped r) (refuse_box m k 6))
      by true q = record { is = ap stepped h.is; held = tt }
      by false q = absurd (omega (arith, q))

pub tried : (r : MapResult) (g : Guest) (k : Mapped) (x : Mapping) → Held g → ◌≡◌ {A = ℕ} 0 (choose (ready (view g)) 0 6) → Maps k (Ok x) r
    → BoxDoes (view g) k (Ok (record { guest = g; mapping = x })) (on_mapping r (view g) k)
unfolding on_mapping
tried r g k x d q h = by (ready (view g)) q
  where
    by : (b : Bool) → ◌≡◌ {A = ℕ} 0 (choose b 0 6) → BoxDoes (view g) k (Ok (record { guest = g; mapping = x })) (choose b (stepped r (view g) k r) (refuse_box (view g) k 6))
    by true q = record { is = ap (stepped r (view g) k) h.is; held = (d, h.within) }
    by false q = absurd (omega (arith, q))

-- lookup
module _ (o : Result ℕ Errno) (device event : ℕ) (m : Machine) (k : Mapped) where
  pub look_gated : (e : Errno) → o ≡ Err e → number e ≡ choose (ready m) 0 6 → reading o ≡ lookup_step device event m k
  unfolding lookup_step
  look_gated e p = rw p (by (ready m))
    where
      by : (b : Bool) → ◌≡◌ {A = ℕ} (number e) (choose b 0 6) → record { errno = number e; number = 0 } ≡ choose b (lookup device event k) (record { errno = 6; number = 0 })
      by true q = absurd (number_not_0 e q)
      by false q = λ i. record { errno = q i; number = 0 }

  pub look_tried : ◌≡◌ {A = ℕ} 0 (choose (ready m) 0 6) → reading o ≡ lookup device event k → reading o ≡ lookup_step device event m k
  unfolding lookup_step
  look_tried q h = by (ready m) q
    where
      by : (b : Bool) → ◌≡◌ {A = ℕ} 0 (choose b 0 6) → reading o ≡ choose b (lookup device event k) (record { errno = 6; number = 0 })
      by true q = h
      by false q = absurd (omega (arith, q))

-- what stands in the way of a save or a restore
module _ (len : ℕ) (s : List ℕ) (r : Memory) (a : r ≡ memory_of s) where
  pub fault_length : (len ≡ r.length → ⊥) → 14 ≡ memory_fault len (decode s)
  unfolding memory_fault decode
  fault_length n = rw (← a, ne_eqb len r.length n)

  module _ (e : len ≡ r.length) (c : Control) (b : c ≡ control_of s) where
    pub fault_early : (c.itsinit ≡ 1 → ⊥) → 6 ≡ memory_fault len (decode s)
    unfolding memory_fault decode
    fault_early n = rw (← a, ← b, eq-eqb len r.length e, ne_eqb c.itsinit 1 n)

    module _ (i : c.itsinit ≡ 1) (t : Tables) (d : t ≡ tables_of s) where
      pub fault_unplaced : (t.devices.set ≡ 1 → ⊥) → 6 ≡ memory_fault len (decode s)
      unfolding memory_fault decode
      fault_unplaced n = rw (← a, ← b, ← d, eq-eqb len r.length e, eq-eqb c.itsinit 1 i, ne_eqb t.devices.set 1 n)

      module _ (p : t.devices.set ≡ 1) where
        pub fault_running : c.running ≡ 1 → 16 ≡ memory_fault len (decode s)
        unfolding memory_fault decode
        fault_running u =
            rw (← a, ← b, ← d, eq-eqb len r.length e, eq-eqb c.itsinit 1 i, eq-eqb t.devices.set 1 p, eq-eqb c.running 1 u)

        pub fault_none : (c.running ≡ 1 → ⊥) → 0 ≡ memory_fault len (decode s)
        unfolding memory_fault decode
        fault_none u =
            rw (← a, ← b, ← d, eq-eqb len r.length e, eq-eqb c.itsinit 1 i, eq-eqb t.devices.set 1 p, ne_eqb c.running 1 u)

-- the guest with other places of its tables
module _ (g : Guest) (t : Tables) where
  abbrev pub tables_put : Guest
  tables_put = record {
    memory = g.memory;
    control = g.control;
    frames = g.frames;
    regions = g.regions;
    vcpus = g.vcpus;
    shared = g.shared;
    tables = t;
  }

  tables_held : Held g → Held tables_put
  tables_held h = record { regions = h.regions; vcpus = h.vcpus; shared = h.shared }

-- placing
module _ (ds dp cs cp : ℕ) (m : Machine) (k : Mapped) where
  pub place_early : (m.control.itsinit ≡ 1 → ⊥) → BoxDoes m k (Err ENXIO) (place ds dp cs cp m k)
  unfolding place
  place_early n = rw (ne_eqb m.control.itsinit 1 n) (refused m k ENXIO)

  pub place_refused : {o : Result Contents Errno} (e : Errno) → o ≡ Err e → m.control.itsinit ≡ 1 → number e ≡ place_fault (placed_at ds dp) (placed_at cs cp) m k
      → BoxDoes m k o (place ds dp cs cp m k)
  unfolding place
  place_refused e p i q = rw p (rw (eq-eqb m.control.itsinit 1 i, ← q, ne_eqb (number e) 0 (number_not_0 e)) (refused m k e))

pub place_done : (g : Guest) (k : Mapping) → MapKept g k → (ds dp cs cp : ℕ) → g.control.itsinit ≡ 1
    → 0 ≡ place_fault (placed_at ds dp) (placed_at cs cp) (view g) (rows k)
    → BoxDoes (view g) (rows k) (Ok (record { guest = tables_put g (record { devices = placed_at ds dp; collections = placed_at cs cp }); mapping = k }))
    (place ds dp cs cp (view g) (rows k))
unfolding place
place_done g k h ds dp cs cp i q =
    rw (eq-eqb g.control.itsinit 1 i, ← q)
    (record { is = refl; held = (tables_held g _ h.guest.held, h.within) })

-- RESET
module _ (width : ℕ) (m : Machine) (k : Mapped) where
  pub reset_width : (width ≡ 0 → ⊥) → BoxDoes m k (Err EFAULT) (reset width m k)
  unfolding reset
  reset_width n = rw (ne_eqb width 0 n) (refused m k EFAULT)

  pub reset_early : width ≡ 0 → (m.control.itsinit ≡ 1 → ⊥) → BoxDoes m k (Err ENXIO) (reset width m k)
  unfolding reset
  reset_early z n = rw (eq-eqb width 0 z, ne_eqb m.control.itsinit 1 n) (refused m k ENXIO)

  pub reset_running : width ≡ 0 → m.control.itsinit ≡ 1 → m.control.running ≡ 1 → BoxDoes m k (Err EBUSY) (reset width m k)
  unfolding reset
  reset_running z i u = rw (eq-eqb width 0 z, eq-eqb m.control.itsinit 1 i, eq-eqb m.control.running 1 u) (refused m k EBUSY)

pub reset_done : (g : Guest) (k : Mapping) → MapKept g k → (width : ℕ) (x : Mapping) → Holds x empty → width ≡ 0
    → g.control.itsinit ≡ 1 → (g.control.running ≡ 1 → ⊥)
    → BoxDoes (view g) (rows k) (Ok (record { guest = tables_put g no_tables; mapping = x })) (reset width (view g) (rows k))
unfolding reset
reset_done g k h width x e z i u =
    rw (eq-eqb width 0 z, eq-eqb g.control.itsinit 1 i, ne_eqb g.control.running 1 u)
    (record { is = ap (λ (y : Mapped). record { errno = 0; next = record { machine = view (tables_put g no_tables); mapped = y } }) e.is; held = (tables_held g _ h.guest.held, e.within) })
