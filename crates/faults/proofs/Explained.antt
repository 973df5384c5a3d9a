-- The fault that a restore meets is there and none earlier, and there is one exactly where nothing is described. Assumes nothing.
use Prim.Native.Nat.{ℕ, ◌/◌, ◌<◌}
use native.Mathlib.Omega.{arith}
use mathlib.Core.Path.{◌≡◌, refl, ap, subst}
use mathlib.Core.Bool.{true}
use mathlib.Core.Logic.{◌⊎◌, inl, inr, ◌↔◌}
use mathlib.Core.List.{List, []}
use lib.ListN.{length}
use Rattle.guest.specs.Machine.{Machine}
use Rattle.rules.specs.Rules.{rules}
use Rattle.mapping.specs.declared.Event.{Event}
use Rattle.mapping.specs.Mapped.{Mapped, empty}
use Rattle.mapping.specs.MapRules.{is_placed}
use Rattle.tables.specs.Bytes.{collection_table}
use Rattle.tables.specs.Fault.{Fault, code}
use Rattle.tables.specs.Restored.{Out, fault, found, read_collections, read_devices, restored, verdict}
use Rattle.described.specs.Described.{Described}
use Rattle.described.proofs.Complete.{complete}
use Rattle.described.proofs.Exact.{accepted_described}
use Rattle.faults.specs.FaultAt.{device_links, FaultAt, in_collections, in_devices, in_itt, Earlier, Least}
use Rattle.faults.proofs.Order.{table_order}
use Rattle.faults.proofs.Judge.{None, Judged, seq, judged_exact}
use Rattle.codes.proofs.Same.{code_above}
use Rattle.faults.proofs.Walked.{Met, Through}
use Rattle.faults.proofs.Collections.{CollectionsFrom, Collected, collections_judged}
use Rattle.faults.proofs.Devices.{DeviceThere, DeviceInv, device_place, devices_judged}

-- the verdict: 0, or the code of the fault
pub verdict_found : (o : Out) → verdict o ≡ 0 → (k : Mapped) × (o ≡ found k)
verdict_found (fault f) e = let z = code_above f in absurd (omega arith)
verdict_found (found k) e = (k, refl)

pub verdict_fault : (o : Out) → 0 < verdict o → (f : Fault) × (verdict o ≡ code f) × (o ≡ fault f)
verdict_fault (fault f) h = (f, refl, refl)
verdict_fault (found k) h = absurd (omega arith)

module _ (m : Machine) (mem : List ℕ) where
  from_collections : (g : Fault) → CollectionsFrom m mem 0 g → FaultAt m mem g
  from_collections g x = rw x.2.1 (in_collections x.0 x.2.0 x.1 x.2.2)

  from_devices : (g : Fault) → Met (device_links m mem) (DeviceThere m mem) g → FaultAt m mem g
  from_devices g x = by x.3
    where
      by : DeviceThere m mem x.0 x.1 g → FaultAt m mem g
      by (inl y) = rw y.1 (in_devices x.0 x.1 y.0 x.2 y.2)
      by (inr y) =
          let z = y.1 in
          rw z.3.1 (in_itt x.0 x.1 z.0 z.1 z.3.0 x.2 y.0 z.2 z.3.2)

  either : (g : Fault) → FaultAt m mem g → CollectionsFrom m mem 0 g ⊎ Met (device_links m mem) (DeviceThere m mem) g
  either g (in_collections i c r f) = inl (i, r, (c, refl, f), omega arith)
  either g (in_devices ids d c a f) = inr (ids, d, a, inl (c, refl, f))
  either g (in_itt ids d es e c a o b f) = inr (ids, d, a, inr (o, (es, e, b, (c, refl, f))))

  order : (f g : Fault) → CollectionsFrom m mem 0 f → Met (device_links m mem) (DeviceThere m mem) g → Earlier g f → ⊥
  order f g x y b =
      table_order g.place y.1 x.0 g.kind x.2.0 (device_place m mem y.0 y.1 g y.3) (rw x.2.1 at b)

  start : (h : Mapped) → Collected m mem h → DeviceInv m mem [] h
  start h c = record { icids = c.icids; devices = c.devices; events = ap (λ (l : List Event). length l) c.events }

  abbrev Read : Mapped → Type 0
  Read = Through (device_links m mem) (DeviceInv m mem)

  restored_judged : Judged (FaultAt m mem) Read (restored m mem)
  unfolding restored
  restored_judged =
      let t = collection_table m mem in
      seq (FaultAt m mem) (CollectionsFrom m mem 0) (Met (device_links m mem) (DeviceThere m mem)) (Collected m mem) Read
      from_collections from_devices either order
      (read_collections m t (length t / 8) 0 empty) (read_devices m mem)
      (collections_judged m mem) (λ h c. devices_judged m mem h (start h c))

  judged : (o : Out) → restored m mem ≡ o → Judged (FaultAt m mem) Read o
  judged o e = subst (Judged (FaultAt m mem) Read) e restored_judged

  -- a restore meets a fault if and only if that is there and none earlier
  pub first_exact : (f : Fault) → (restored m mem ≡ fault f) ↔ Least (FaultAt m mem) f
  first_exact f = judged_exact (FaultAt m mem) Read (restored m mem) restored_judged f

  -- where it meets none, none is there
  pub found_none : (k : Mapped) → restored m mem ≡ found k → None (FaultAt m mem)
  found_none k e = (judged (found k) e).0

  -- a sound guest with its tables placed, and the whole of its memory
  module _ (r : rules m ≡ true) (p : is_placed m ≡ true) (n : length mem ≡ m.memory.length) where
    -- some fault is there if and only if nothing is described
    pub fault_exact : ((f : Fault) × FaultAt m mem f) ↔ ((k : Mapped) → Described m mem k → ⊥)
    fault_exact = (λ x k d. found_none k (complete m mem k d) x.0 x.1, λ h. by h (restored m mem) refl)
      where
        by : ((k : Mapped) → Described m mem k → ⊥) → (o : Out) → restored m mem ≡ o → (f : Fault) × FaultAt m mem f
        by h (fault f) e = (f, ((first_exact f).0 e).there)
        by h (found k) e = absurd (h k (accepted_described m mem r p n k e))
