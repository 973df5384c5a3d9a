-- One device that is read: its tests, and its events.
use Prim.Native.Nat.{ℕ, ◌+◌, ◌≤◌, ◌<◌}
use native.Mathlib.Omega.{arith}
use mathlib.Core.Path.{◌≡◌, refl, ap, ◌∙◌}
use mathlib.Core.Bool.{Bool, true, false, not}
use mathlib.Core.List.{List, [], ◌∷◌, ◌++◌}
use lib.ListN.{length}
use borrow.Author.Tests.{le-ltb, lt-leb, ltb-false, leb-false, not-false}
use Rattle.lists.proofs.All.{none, more}
use Rattle.areas.specs.Area.{inside, strikes}
use Rattle.areas.proofs.Tests.{clash}
use Rattle.entries.proofs.Laws.{device_of_fits}
use Rattle.guest.specs.Machine.{Machine}
use Rattle.rules.specs.Rules.{memory_area}
use Rattle.mapping.specs.declared.Device.{Device}
use Rattle.mapping.specs.declared.Event.{Event}
use Rattle.mapping.specs.Mapped.{Mapped, itt_area}
use Rattle.mapping.specs.Commands.{table_areas}
use Rattle.chains.specs.Slots.{capped}
use Rattle.tables.specs.Bytes.{entry_at, device_at, device_table, itt_table, device_slots}
use Rattle.tables.specs.Fault.{at_device}
use Rattle.described.specs.Described.{DeviceFields}
use Rattle.tables.specs.Restored.{Out, found, tried, device_tests, put_device, visit_device, read_events}
use Rattle.described.proofs.Tried.{Passed, tried_is, tried_says}
use Rattle.described.proofs.Walks.{Stops}
use Rattle.described.proofs.Events.{Held, events_in, events_out}

-- a mapping with one more device and its events
abbrev pub with_device : Mapped → Device → List Event → Mapped
with_device k d es = record { collections = k.collections; devices = k.devices ++ (d ∷ []); events = k.events ++ es }

module _ (m : Machine) (mem : List ℕ) where
  -- a device that may come next, with its events
  pub record Next (k : Mapped) (d : Device) (es : List Event) : Type 0 where
    pub fields : DeviceFields (device_table m mem) d
    pub bits : d.bits ≤ 16
    pub room : length k.devices < 32
    pub within : inside (memory_area m.memory) (itt_area d) ≡ true
    pub clear : strikes (table_areas m k.devices) (itt_area d) ≡ false
    pub held : Held (itt_table m mem d) d.id k.collections es
    pub limit : length k.events + length es ≤ 1024

  abbrev pub visit : Bool → ℕ → Mapped → Out
  visit = visit_device m mem (device_table m mem)

  -- the tests of a device at its ID, and what is behind them
  abbrev tested : Bool → Mapped → Device → Out
  tested good k d = tried (at_device d.id) (device_tests good m d k) (read_events (itt_table m mem d) d.id (put_device d k))

  passed : (k : Mapped) (d : Device) (es : List Event) → Next k d es → Passed (device_tests true m d k)
  passed k d es n =
      more refl (more (le-ltb 16 d.bits n.bits) (more (lt-leb 32 (length k.devices) n.room) (more (ap not n.within) (more n.clear none))))

  pub device_in_lem : (k : Mapped) (d : Device) (es : List Event) → Next k d es → visit true d.id k ≡ found (with_device k d es)
  unfolding visit_device
  device_in_lem k d es n =
      let f = n.fields in
      let e : device_at (device_table m mem) d.id ≡ d = λ j. record { id = d.id; itt = f.itt j; bits = f.bits j } in
      let o = read_events (itt_table m mem d) d.id (put_device d k) in
      ap (tested true k) e
      ∙ tried_is (at_device d.id) (device_tests true m d k) o (passed k d es n)
      ∙ events_in (itt_table m mem d) d.id (put_device d k) es n.held n.limit

  pub device_out : (i : ℕ) (k h : Mapped) → length k.events ≤ 1024 → visit true i k ≡ found h
      → (es : List Event) × Next k (device_at (device_table m mem) i) es × (h ≡ with_device k (device_at (device_table m mem) i) es)
  unfolding visit_device
  device_out i k h b p = by r.0
    where
      d : Device
      d = device_at (device_table m mem) i

      r : Passed (device_tests true m d k) × (read_events (itt_table m mem d) i (put_device d k) ≡ found h)
      r = tried_says (at_device i) (device_tests true m d k) (read_events (itt_table m mem d) i (put_device d k)) h p

      by : Passed (device_tests true m d k) → (es : List Event) × Next k d es × (h ≡ with_device k d es)
      by (more a (more s (more x (more w (more c none))))) =
          let v = events_out (itt_table m mem d) i (put_device d k) h b r.1 in (
            v.0,
            record {
              fields = record { itt = refl; bits = refl };
              bits = ltb-false 16 d.bits s;
              room = leb-false 32 (length k.devices) x;
              within = not-false _ w;
              clear = c;
              held = v.1;
              limit = v.2;
            },
            v.3,
          )

  pub device_stops : Stops visit
  unfolding visit_device
  device_stops i k h p =
      let d = device_at (device_table m mem) i in
      by (tried_says (at_device i) (device_tests false m d k) (read_events (itt_table m mem d) i (put_device d k)) h p).0
    where
      by : Passed (device_tests false m (device_at (device_table m mem) i) k) → ⊥
      by (more a r) = clash refl a

pub device_pos : (t : List ℕ) → 0 < capped (device_slots t).cap 1
unfolding device_slots
device_pos t = omega arith

pub device_small : (t : List ℕ) (i : ℕ) → capped (device_slots t).cap ((device_slots t).next i) ≡ (device_slots t).next i
unfolding device_slots
device_small t i = omega (arith, (device_of_fits (entry_at t i)).next)
