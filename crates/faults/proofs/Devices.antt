-- The device table with the ITTs: the first fault of the devices and of their events. Assumes nothing.
use Prim.Native.Nat.{ℕ}
use native.Mathlib.Omega.{arith}
use mathlib.Core.Path.{◌≡◌, refl, sym, ap, ◌∙◌, subst}
use mathlib.Core.Bool.{Bool, true, false, not}
use mathlib.Core.Logic.{◌⊎◌, inl, inr, ⊎_elim}
use mathlib.Core.List.{List, [], ◌∷◌, ◌++◌, map}
use lib.ListN.{length, get_or, length-append}
use borrow.Author.Tests.{lt-ltb, le-leb, ltb-true, ltb-false, leb-true, not-true, not-false}
use Rattle.lists.specs.Rows.{find_ix}
use Rattle.lists.proofs.All.{All, none, more, all_append}
use Rattle.lists.proofs.Member.{In, here, is_here, there, member, nowhere, all_in, all_of, all_weaker, in_left, in_right, all_map, map_all}
use Rattle.areas.specs.declared.Area.{Area}
use Rattle.areas.specs.Area.{inside, overlaps, strikes, struck}
use Rattle.areas.proofs.Laws.{Inside, Shares, overlaps_byte, byte_overlaps, inside_says, inside_is}
use Rattle.areas.proofs.Tests.{clash}
use Rattle.guest.specs.Machine.{Machine}
use Rattle.rules.specs.Rules.{memory_area, table_area}
use Rattle.mapping.specs.declared.Device.{Device}
use Rattle.mapping.specs.Mapped.{Mapped, itt_area}
use Rattle.mapping.specs.Commands.{table_areas}
use Rattle.mapping.proofs.Edits.{first_found, has_in}
use Rattle.tables.specs.Bytes.{device_table}
use Rattle.tables.specs.Fault.{at_device, at_event, Kind, fault_next, fault_size, fault33rd, fault_outside, fault_overlap, Fault, at}
use Rattle.tables.specs.Restored.{Test, tried, device_tests, put_device, visit_device, read_events, read_devices}
use Rattle.described.proofs.Tried.{Passed}
use Rattle.described.proofs.Devices.{device_pos, device_small}
use Rattle.faults.specs.FaultAt.{
  device_in,
  itt_in,
  itt_bytes,
  device_links,
  event_links,
  ReadItt,
  Count,
  DeviceFault,
  device_next,
  too_large,
  device_33rd,
  itt_outside,
  on_device_table,
  on_collection_table,
  on_itt,
  Earlier,
}
use Rattle.faults.proofs.Order.{Under, under_device, under_event, device_order, event_behind}
use Rattle.faults.proofs.Judge.{Judged, same, Some, tried_judged}
use Rattle.faults.proofs.Along.{complete_chain}
use Rattle.faults.proofs.Walked.{Told, told_bad, bad_told, Faults, Met, Through, Visits, Ordered, walk_judged}
use Rattle.faults.proofs.Events.{Icids, EventThere, EventInv, events_judged}

-- an area strikes a list where it has a byte in common with one of them
strikes_says : (l : List Area) (a : Area) → strikes l a ≡ true → (b : Area) × In b l × Shares a b
unfolding strikes struck
strikes_says l a e =
    let f = first_found (overlaps a) l a e in
    let b = get_or l (find_ix (overlaps a) l) a in
    (b, f.0, overlaps_byte a b f.1)

strikes_is : (l : List Area) (a b : Area) → In b l → Shares a b → strikes l a ≡ true
unfolding strikes struck
strikes_is l a b i s = has_in (overlaps a) l i (byte_overlaps a b s)

module _ (m : Machine) (mem : List ℕ) where
  -- the rows of these devices, in the order of the table
  abbrev devices_of : List ℕ → List Device
  devices_of [] = []
  devices_of (x ∷ xs) = devices_of xs ++ (device_in m mem x ∷ [])

  devices_length : (ids : List ℕ) → length (devices_of ids) ≡ length ids
  devices_length [] = refl
  devices_length (x ∷ xs) = omega (arith, length-append (devices_of xs) (device_in m mem x ∷ []), devices_length xs)

  devices_say : (ids : List ℕ) → All (λ b. (x : ℕ) × In x ids × (itt_in m mem x ≡ itt_area b)) (devices_of ids)
  devices_say [] = none
  devices_say (x ∷ xs) = all_append (devices_of xs) (all_weaker (λ b r. (r.0, there r.1, r.2)) (devices_of xs) (devices_say xs)) (more (x, here, refl) none)

  devices_are : (ids : List ℕ) (x : ℕ) → In x ids → In (device_in m mem x) (devices_of ids)
  devices_are [] x i = absurd (nowhere i)
  devices_are (y ∷ ys) x i = ⊎_elim
      (λ e. in_right (devices_of ys) (is_here (ap (device_in m mem) e)))
      (λ n. in_left (device_in m mem y ∷ []) (devices_are ys x n))
      (member i)

  -- the two tables and the ITTs of these devices
  module _ (ids : List ℕ) (d : ℕ) where
    overlap_is : DeviceFault m mem ids d fault_overlap → strikes (table_areas m (devices_of ids)) (itt_in m mem d) ≡ true
    unfolding table_areas
    overlap_is (on_device_table s) = strikes_is (table_areas m (devices_of ids)) (itt_in m mem d) (table_area m.tables.devices) here s
    overlap_is (on_collection_table s) = strikes_is (table_areas m (devices_of ids)) (itt_in m mem d) (table_area m.tables.collections) (there here) s
    overlap_is (on_itt x i s) =
        let l = devices_of ids in
        let j = all_in l (map_all itt_area l (all_of (map itt_area l) (λ b p. p))) (devices_are ids x i) in
        strikes_is (table_areas m l) (itt_in m mem d) (itt_in m mem x) (there (there j)) s

    overlap_at : (b : Area) → In b (table_areas m (devices_of ids)) → Shares (itt_in m mem d) b → DeviceFault m mem ids d fault_overlap
    unfolding table_areas
    overlap_at b i s = ⊎_elim
        (λ e. on_device_table (subst (Shares (itt_in m mem d)) e s))
        (λ i. ⊎_elim
        (λ e. on_collection_table (subst (Shares (itt_in m mem d)) e s))
        (λ i.
        let l : All (λ b. (x : ℕ) × In x ids × (itt_in m mem x ≡ b)) (map itt_area (devices_of ids)) = all_map itt_area (devices_of ids) (devices_say ids) in
        let r = all_in (map itt_area (devices_of ids)) l i in
        on_itt r.0 r.1 (subst (Shares (itt_in m mem d)) (sym r.2) s))
        (member i))
        (member i)

  abbrev pub EventMet : List ℕ → ℕ → Fault → Type 0
  EventMet ids d g = ReadItt m mem d × Met (event_links m mem d) (EventThere m mem ids d) g

  abbrev pub DeviceThere : Faults
  DeviceThere ids d g = ((c : Kind) × (g ≡ at (at_device d) c) × DeviceFault m mem ids d c) ⊎ EventMet ids d g

  pub device_place : (ids : List ℕ) (d : ℕ) (g : Fault) → DeviceThere ids d g → Under d g.place
  device_place ids d g (inl x) = rw x.1 under_device
  device_place ids d g (inr x) = rw x.1.3.1 (under_event x.1.1)

  device_ordered : Ordered DeviceThere
  device_ordered js is j i g f x y b =
      device_order g.place f.place j i g.kind f.kind (device_place js j g x) (device_place is i f y) b

  -- what was read before
  pub record DeviceInv (ids : List ℕ) (k : Mapped) : Type 0 where
    pub icids : Icids m mem k.collections
    pub devices : k.devices ≡ devices_of ids
    pub events : Count m mem ids (length k.events)

  module _ (ids : List ℕ) (d : ℕ) (k : Mapped) (b : Bool) (inv : DeviceInv ids k) (told : Told (device_links m mem) d b) where
    abbrev tests : List Test
    tests = device_tests b m (device_in m mem d) k

    abbrev Hit : Fault → Type 0
    Hit = Some (at_device d) (EventMet ids d) tests

    abbrev within : Bool
    within = inside (memory_area m.memory) (itt_in m mem d)

    struck_is : strikes (table_areas m k.devices) (itt_in m mem d) ≡ strikes (table_areas m (devices_of ids)) (itt_in m mem d)
    struck_is = ap (λ (l : List Device). strikes (table_areas m l) (itt_in m mem d)) inv.devices

    count_is : length k.devices ≡ length ids
    count_is = ap (λ (l : List Device). length l) inv.devices ∙ devices_length ids

    overlap_says : strikes (table_areas m k.devices) (itt_in m mem d) ≡ true → DeviceFault m mem ids d fault_overlap
    overlap_says e = let r = strikes_says (table_areas m (devices_of ids)) (itt_in m mem d) (sym struck_is ∙ e) in overlap_at ids d r.0 r.1 r.2

    outside_says : not within ≡ true → Inside (memory_area m.memory) (itt_in m mem d) → ⊥
    outside_says e i = clash (inside_is (memory_area m.memory) (itt_in m mem d) i) (not-true _ e)

    outside_is : (Inside (memory_area m.memory) (itt_in m mem d) → ⊥) → not within ≡ true
    outside_is n = by within refl
      where
        by : (x : Bool) → within ≡ x → not x ≡ true
        by true e = absurd (n (inside_says (memory_area m.memory) (itt_in m mem d) e))
        by false e = refl

    to : (g : Fault) → Hit g → DeviceThere ids d g
    to g s = ⊎_elim
        (λ x. inl (fault_next, x.0, device_next (told_bad b told x.1)))
        (λ s. ⊎_elim
        (λ x. inl (fault_size, x.0, too_large (ltb-true 16 (device_in m mem d).bits x.1)))
        (λ s. ⊎_elim
        (λ x. inl (fault33rd, x.0, device_33rd (omega (arith, leb-true 32 (length k.devices) x.1, count_is))))
        (λ s. ⊎_elim
        (λ x. inl (fault_outside, x.0, itt_outside (outside_says x.1)))
        (λ s. ⊎_elim
        (λ x. inl (fault_overlap, x.0, overlap_says x.1))
        (λ x. inr x)
        s) s) s) s) s

    from : {c : Kind} (g : Fault) → g ≡ at (at_device d) c → DeviceFault m mem ids d c → Hit g
    from g q (device_next h) = inl (q, bad_told b told h)
    from g q (too_large h) = inr (inl (q, lt-ltb 16 (device_in m mem d).bits h))
    from g q (device_33rd h) = inr (inr (inl (q, le-leb 32 (length k.devices) (omega (arith, count_is)))))
    from g q (itt_outside h) = inr (inr (inr (inl (q, outside_is h))))
    from g q (on_device_table s) = inr (inr (inr (inr (inl (q, struck_is ∙ overlap_is ids d (on_device_table s))))))
    from g q (on_collection_table s) = inr (inr (inr (inr (inl (q, struck_is ∙ overlap_is ids d (on_collection_table s))))))
    from g q (on_itt x i s) = inr (inr (inr (inr (inl (q, struck_is ∙ overlap_is ids d (on_itt x i s))))))

    from_all : (g : Fault) → DeviceThere ids d g → Hit g
    from_all g (inl x) = from g x.1 x.2
    from_all g (inr x) = inr (inr (inr (inr (inr x))))

    abbrev Visited : Mapped → Type 0
    Visited h = (b ≡ true) × DeviceInv (d ∷ ids) h

    -- the events are behind the device's own faults
    behind : (g : Fault) (c : Kind) → EventMet ids d g → Earlier g (at (at_device d) c) → ⊥
    behind g c x l =
        let y = x.1 in
        let l' : Earlier (at (at_event d y.1) y.3.0) (at (at_device d) c) = rw y.3.1 at l in
        event_behind d y.1 y.3.0 c l'

    start : EventInv m mem ids d (devices_of (d ∷ ids)) [] (put_device (device_in m mem d) k)
    start = record {
      before = length k.events;
      count = inv.events;
      icids = inv.icids;
      devices = ap (λ (l : List Device). l ++ (device_in m mem d ∷ [])) inv.devices;
      events = omega arith;
    }

    through : ReadItt m mem d → (h : Mapped) → Through (event_links m mem d) (EventInv m mem ids d (devices_of (d ∷ ids))) h → DeviceInv (d ∷ ids) h
    through o h x =
        let i = x.2 in
        let c = complete_chain (event_links m mem d) x.0 x.1 in
        record {
          icids = i.icids;
          devices = i.devices;
          events = (i.before, i.count, o, c.0, c.1, omega (arith, i.events, c.2));
        }

    opened : Passed tests → (b ≡ true) × ReadItt m mem d
    opened (more p (more q (more r (more s u)))) = (
      not-false b p,
      record { bits = ltb-false 16 (device_in m mem d).bits q; within = inside_says (memory_area m.memory) (itt_in m mem d) (not-false _ s) },
    )

    visited : Judged (DeviceThere ids d) Visited (visit_device m mem (device_table m mem) b d k)
    unfolding visit_device
    visited =
        let o = read_events (itt_bytes m mem d) d (put_device (device_in m mem d) k) in
        same Hit (DeviceThere ids d) Visited Visited to from_all (λ h q. q)
        (tried (at_device d) tests o)
        (tried_judged (at_device d) (EventMet ids d) Visited behind 0 tests (omega arith, (omega arith, (omega arith, (omega arith, (omega arith, tt))))) o
        (λ a.
        let x = opened a in
        let Inv = EventInv m mem ids d (devices_of (d ∷ ids)) in
        same (Met (event_links m mem d) (EventThere m mem ids d)) (EventMet ids d) (Through (event_links m mem d) Inv) Visited
        (λ g y. (x.1, y)) (λ g y. y.1) (λ h y. (x.0, through x.1 h y)) o
        (events_judged m mem ids d (devices_of (d ∷ ids)) (put_device (device_in m mem d) k) start)))

  device_visits : Visits (device_links m mem) (visit_device m mem (device_table m mem)) DeviceThere DeviceInv
  device_visits ids d k b inv told = visited ids d k b inv told

  pub devices_judged : (k : Mapped) → DeviceInv [] k
      → Judged (Met (device_links m mem) DeviceThere) (Through (device_links m mem) DeviceInv) (read_devices m mem k)
  unfolding read_devices
  devices_judged k inv =
      let t = device_table m mem in
      walk_judged (device_links m mem) (device_pos t) (device_small t) (visit_device m mem t) DeviceThere DeviceInv device_ordered device_visits k inv
