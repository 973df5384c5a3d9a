-- Mapping a device and removing it keep the rules.
use Prim.Native.Nat.{ℕ, suc, ◌<◌, ◌%◌}
use native.Mathlib.Omega.{arith}
use mathlib.Core.Path.{◌≡◌, refl, sym, ap, ◌∙◌}
use mathlib.Core.Bool.{true, false, ◌&&◌}
use mathlib.Core.List.{List, ◌∷◌, ◌++◌, map, map-append}
use lib.ListN.{length, get_or, take, drop, take-append-drop}
use lib.Seq.{split_at}
use lib.Dec.{ltb, leb, eqb}
use borrow.Author.Tests.{ltb-true, leb-true, leb-false, eqb-true, eqb-false, not-true}
use Rattle.areas.specs.declared.Area.{Area}
use Rattle.areas.specs.Area.{inside, strikes, apart}
use Rattle.areas.proofs.Tests.{and_left, and_right}
use Rattle.guest.specs.Machine.{Machine}
use Rattle.rules.specs.Rules.{table_area, memory_area}
use Rattle.kept.proofs.Choice.{choose_by}
use Rattle.kept.proofs.Areas.{apart_with, apart_without}
use Rattle.mapping.specs.declared.Device.{Device}
use Rattle.mapping.specs.Mapped.{Mapped, device_key, event_key, place_of, inserted_at, removed_at, kept, itt_area, no_device}
use Rattle.mapping.specs.Commands.{
  device_entries,
  table_areas,
  index_of_device,
  has_device,
  with_devices,
  device_fault,
  map_device,
  of_other,
  unmap_device,
}
use Rattle.mapkept.proofs.Edits.{all_weaker, all_inserted, all_removed, all_kept, length_inserted, length_removed, length_kept}
use Rattle.mapkept.proofs.Rising.{rising_inserted, rising_removed, rising_kept, same_with, same_without}
use Rattle.mapkept.proofs.Sound.{DeviceParts, event_after, Sound, Stays, Keeps, keeps}

-- the tables' areas, parted among the devices
module _ (m : Machine) where
  parted : (l r : List Device) → table_areas m (l ++ r) ≡ table_areas m l ++ map itt_area r
  unfolding table_areas
  parted l r = ap (λ (a : List Area). table_area m.tables.devices ∷ table_area m.tables.collections ∷ a) (map-append itt_area l r)

  module _ (i : ℕ) (ds : List Device) where
    apart_inserted : (d : Device) → strikes (table_areas m ds) (itt_area d) ≡ false → apart (table_areas m ds) ≡ true → apart (table_areas m (inserted_at i d ds)) ≡ true
    unfolding inserted_at
    apart_inserted d n c =
        let e = ap (table_areas m) (sym (take-append-drop i ds)) ∙ parted (take i ds) (drop i ds) in
        rw (parted (take i ds) (d ∷ drop i ds))
        (apart_with (table_areas m (take i ds)) (itt_area d) (map itt_area (drop i ds)) (ap apart (sym e) ∙ c) (ap (λ (l : List Area). strikes l (itt_area d)) (sym e) ∙ n))

    apart_removed : i < length ds → apart (table_areas m ds) ≡ true → apart (table_areas m (removed_at i ds)) ≡ true
    unfolding removed_at
    apart_removed h c =
        let d = get_or ds i no_device in
        let e = ap (table_areas m) (split_at ds i no_device h) ∙ parted (take i ds) (d ∷ drop (suc i) ds) in
        rw (parted (take i ds) (drop (suc i) ds))
        (apart_without (table_areas m (take i ds)) (itt_area d) (map itt_area (drop (suc i) ds)) (ap apart (sym e) ∙ c))

-- a device that may be mapped
record Fits (d : Device) (m : Machine) (k : Mapped) : Type 0 where
  parts : DeviceParts m d
  fresh : has_device d.id k ≡ false
  few : length k.devices < 32
  clear : strikes (table_areas m k.devices) (itt_area d) ≡ false

device_fits : (d : Device) (m : Machine) (k : Mapped) → device_fault d m k ≡ 0 → Fits d m k
unfolding device_fault
device_fits d m k =
    choose_by P (ltb d.id (device_entries m)) (λ i.
    choose_by P (leb 1 d.bits && leb d.bits 16) (λ b.
    choose_by P (eqb (d.itt % 256) 0) (λ a.
    choose_by P (has_device d.id k) (λ _ z. absurd (omega arith)) (λ n.
    choose_by P (leb 32 (length k.devices)) (λ _ z. absurd (omega arith)) (λ f.
    choose_by P (inside (memory_area m.memory) (itt_area d)) (λ w.
    choose_by P (strikes (table_areas m k.devices) (itt_area d)) (λ _ z. absurd (omega arith)) (λ c _.
    record {
      parts = record {
        id = ltb-true d.id (device_entries m) i;
        some = leb-true 1 d.bits (and_left (leb 1 d.bits) (leb d.bits 16) b);
        most = leb-true d.bits 16 (and_right (leb 1 d.bits) (leb d.bits 16) b);
        start = eqb-true (d.itt % 256) 0 a;
        within = w;
      };
      fresh = n;
      few = leb-false 32 (length k.devices) f;
      clear = c;
    }))
    (λ _ z. absurd (omega arith)))))
    (λ _ z. absurd (omega arith)))
    (λ _ z. absurd (omega arith)))
    (λ _ z. absurd (omega arith))
  where
    P : ℕ → Type 0
    P e = e ≡ 0 → Fits d m k

module _ (m : Machine) (k : Mapped) (s : Sound m k) where
  mapped_device : (d : Device) → Fits d m k → Sound m (with_devices (inserted_at (place_of device_key d.id k.devices) d k.devices) k)
  mapped_device d f =
      let ds = k.devices in
      let i = place_of device_key d.id ds in
      record {
        few_collections = s.few_collections;
        few_devices = rw length_inserted f.few;
        few_events = s.few_events;
        rising_collections = s.rising_collections;
        rising_devices = rising_inserted device_key d ds f.fresh s.rising_devices;
        rising_events = s.rising_events;
        collections = s.collections;
        devices = all_inserted i d ds f.parts s.devices;
        apart = apart_inserted m i ds d f.clear s.apart;
        events = all_weaker (λ e p. event_after e (same_with device_key i d e.device ds f.fresh p.device) refl p) k.events s.events;
      }

  unmapped_device : (id : ℕ) → has_device id k ≡ true → Sound m (record {
    collections = k.collections;
    devices = removed_at (index_of_device id k) k.devices;
    events = kept (of_other id) k.events;
  })
  unmapped_device id h =
      let ds = k.devices in
      let i = index_of_device id k in
      let l = ltb-true i (length ds) h in
      record {
        few_collections = s.few_collections;
        few_devices = omega (arith, length_removed i ds l, s.few_devices);
        few_events = omega (arith, length_kept (of_other id) k.events, s.few_events);
        rising_collections = s.rising_collections;
        rising_devices = rising_removed device_key i ds s.rising_devices;
        rising_events = rising_kept event_key (of_other id) k.events s.rising_events;
        collections = s.collections;
        devices = all_removed i ds s.devices;
        apart = apart_removed m i ds l s.apart;
        events =
            all_kept (of_other id) (λ e p o. event_after e (same_without device_key id e.device ds no_device h (eqb-false e.device id (not-true (eqb e.device id) o))) refl p) k.events s.events;
      }

pub map_device-keeps : (id itt bits : ℕ) (m : Machine) → Keeps m (map_device id itt bits m)
unfolding map_device
map_device-keeps id itt bits m =
    let d : Device = record { id = id; itt = itt; bits = bits } in
    keeps m (map_device id itt bits m) (λ k s.
    choose_by (Stays m) (eqb (device_fault d m k) 0)
    (λ z. mapped_device m k s d (device_fits d m k (eqb-true (device_fault d m k) 0 z)))
    (λ _. s))

pub unmap_device-keeps : (id : ℕ) (m : Machine) → Keeps m (unmap_device id)
unfolding unmap_device
unmap_device-keeps id m =
    keeps m (unmap_device id) (λ k s. choose_by (Stays m) (has_device id k) (λ h. unmapped_device m k s id h) (λ _. s))
