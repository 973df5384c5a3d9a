-- What the rules of a mapping say of its numbers. Assumes nothing.
use Prim.Native.Nat.{◌≤◌}
use native.Mathlib.Omega.{arith}
use mathlib.Core.Path.{◌≡◌, refl}
use mathlib.Core.Bool.{Bool, true, false}
use mathlib.Core.List.{[], ◌∷◌}
use lib.ListN.{length}
use lib.Dec.{ltb, leb}
use borrow.Author.Tests.{lt-ltb, le-leb}
use Rattle.lists.proofs.All.{All, none, to_all}
use Rattle.lists.proofs.Member.{all_weaker}
use Rattle.areas.proofs.Tests.{join}
use Rattle.guest.specs.declared.Guest.{Guest}
use Rattle.guest.specs.Machine.{Machine, view}
use Rattle.rules.proofs.Facts.{sound_devices, sound_vcpus}
use Rattle.mapping.specs.declared.Device.{Device}
use Rattle.mapping.specs.declared.Collection.{Collection}
use Rattle.mapping.specs.declared.Mapping.{Mapping}
use Rattle.mapping.specs.Mapped.{Mapped, empty, rows}
use Rattle.mapping.specs.MapRules.{MapKept, Sized, map_rules, is_placed, small_device, small_collection, is_collected}
use Rattle.mapping.specs.Meaning.{CollectionRules, DeviceRules, Fit, MapMeaning}
use Rattle.mapping.proofs.Meaning.{fit_collected, rules_say}

-- every row keeps its rules, also where no table is placed and so no row stands
pub record Rows (m : Machine) (k : Mapped) : Type 0 where
  pub collections : All (CollectionRules m) k.collections
  pub devices : All (DeviceRules m) k.devices
  pub events : All (Fit k.collections) k.events

module _ (m : Machine) (k : Mapped) where
  pub rules_rows : map_rules m k ≡ true → Rows m k
  rules_rows e = by (is_placed m) refl (rules_say m k e)
    where
      no_rows : Rows m empty
      no_rows = record { collections = none; devices = none; events = none }

      by : (b : Bool) → is_placed m ≡ b → MapMeaning m k → Rows m k
      by true i r = let o = r.placed i in record { collections = o.collections; devices = o.devices; events = o.fit }
      by false i r = rw (r.unplaced i) no_rows

  -- a device table has at most 128 pages of 512 entries
  device_small : m.tables.devices.pages ≤ 128 → (d : Device) → DeviceRules m d → small_device d ≡ true
  device_small h d p =
      let i = p.id in
      join (ltb d.id 65536) (leb d.bits 16 ∷ []) (lt-ltb d.id 65536 (omega arith), le-leb d.bits 16 p.most)

  -- there are at most 64 VCPUs
  collection_small : length m.vcpus ≤ 64 → (c : Collection) → CollectionRules m c → small_collection c ≡ true
  collection_small h c p =
      let i = p.pe in
      join (ltb c.icid 65536) (ltb c.pe 65536 ∷ []) (lt-ltb c.icid 65536 p.icid, lt-ltb c.pe 65536 (omega arith))

-- a mapping that keeps its rules beside a guest that keeps its own
pub kept_sized : (g : Guest) (k : Mapping) → MapKept g k → Sized k
kept_sized g k h =
    let m = view g in
    let r = rules_rows m (rows k) h.rules in
    record {
      within = h.within;
      devices = to_all small_device (rows k).devices (all_weaker (device_small m (rows k) (sound_devices m h.guest.rules).most) (rows k).devices r.devices);
      collections = to_all small_collection (rows k).collections (all_weaker (collection_small m (rows k) (sound_vcpus m h.guest.rules).few) (rows k).collections r.collections);
      events = to_all (is_collected (rows k)) (rows k).events (all_weaker (fit_collected (rows k).collections) (rows k).events r.events);
    }
