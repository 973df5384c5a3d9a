-- The test of a mapping holds if and only if each of its rules does. Assumes nothing.
use Prim.Native.Nat.{◌%◌, ◌^◌, ◌≤◌, ◌<◌}
use native.Mathlib.Omega.{arith}
use mathlib.Core.Path.{◌≡◌, refl, ap}
use mathlib.Core.Bool.{Bool, true, false}
use mathlib.Core.List.{List, [], ◌∷◌}
use lib.ListN.{length, get_or}
use lib.Dec.{ltb, leb, eqb}
use lib.Pow.{pow_mono}
use borrow.Author.Tests.{lt-ltb, le-leb, eq-eqb, ltb-true, leb-true, eqb-true}
use Rattle.lists.specs.Rows.{choose, all}
use Rattle.lists.proofs.All.{from_all, to_all}
use Rattle.lists.proofs.Member.{all_in, all_weaker, all_of}
use Rattle.areas.specs.Area.{inside, apart}
use Rattle.areas.proofs.Laws.{inside_says, inside_is, apart_says, apart_is}
use Rattle.areas.proofs.Tests.{split, join}
use Rattle.areas.proofs.Has.{has}
use Rattle.guest.specs.Machine.{Machine}
use Rattle.rules.specs.Rules.{memory_area}
use Rattle.mapping.specs.declared.Device.{Device}
use Rattle.mapping.specs.declared.Collection.{Collection}
use Rattle.mapping.specs.declared.Event.{Event}
use Rattle.mapping.specs.Mapped.{Mapped, empty, device_key, collection_key, event_key, find_key, rising, itt_area, no_device, no_collection}
use Rattle.mapping.specs.Commands.{device_entries, table_areas, has_device, device_of, has_collection, is_empty}
use Rattle.mapping.specs.MapRules.{is_placed, device_ok, collection_ok, event_ok, mapping_ok, map_rules}
use Rattle.mapping.specs.Meaning.{CollectionRules, DeviceRules, Owned, Fit, MappingRules, MapMeaning}
use Rattle.mapping.proofs.Edits.{has_in}
use Rattle.mapping.proofs.Rise.{Rises, is_key, found_key, key_found, rises, risen}

-- a collection
module _ (m : Machine) (c : Collection) where
  pub collection_says : collection_ok m c ≡ true → CollectionRules m c
  unfolding collection_ok
  collection_says e =
      let p = split (ltb c.icid 65536) (ltb c.pe (length m.vcpus) ∷ []) e in
      record { icid = ltb-true c.icid 65536 p.0; pe = ltb-true c.pe (length m.vcpus) p.1 }

  pub collection_is : CollectionRules m c → collection_ok m c ≡ true
  unfolding collection_ok
  collection_is p =
      join (ltb c.icid 65536) (ltb c.pe (length m.vcpus) ∷ []) (lt-ltb c.icid 65536 p.icid, lt-ltb c.pe (length m.vcpus) p.pe)

-- a device
module _ (m : Machine) (d : Device) where
  abbrev memory : Bool
  memory = inside (memory_area m.memory) (itt_area d)

  abbrev device_tests : List Bool
  device_tests = leb 1 d.bits ∷ leb d.bits 16 ∷ eqb (d.itt % 256) 0 ∷ memory ∷ []

  pub device_says : device_ok m d ≡ true → DeviceRules m d
  unfolding device_ok
  device_says e =
      let p = split (ltb d.id (device_entries m)) device_tests e in
      record {
        id = ltb-true d.id (device_entries m) p.0;
        some = leb-true 1 d.bits p.1.0;
        most = leb-true d.bits 16 p.1.1.0;
        page = eqb-true (d.itt % 256) 0 p.1.1.1.0;
        within = inside_says (memory_area m.memory) (itt_area d) p.1.1.1.1;
      }

  pub device_is : DeviceRules m d → device_ok m d ≡ true
  unfolding device_ok
  device_is p =
      join (ltb d.id (device_entries m)) device_tests (
        lt-ltb d.id (device_entries m) p.id,
        (
          le-leb 1 d.bits p.some,
          (
            le-leb d.bits 16 p.most,
            (eq-eqb (d.itt % 256) 0 p.page, inside_is (memory_area m.memory) (itt_area d) p.within),
          ),
        ),
      )

-- an event
module _ (cs : List Collection) (e : Event) where
  pub fits : 8192 ≤ e.lpi → e.lpi ≤ 65535 → has (is_key collection_key e.icid) cs ≡ true → Fit cs e
  fits l h i =
      let g = found_key collection_key e.icid cs no_collection i in
      record { low = l; high = h; collection = get_or cs (find_key collection_key e.icid cs) no_collection; listed = g.0; icid = g.1 }

  pub fit_collected : Fit cs e → has (is_key collection_key e.icid) cs ≡ true
  fit_collected f = has_in (is_key collection_key e.icid) cs f.listed (eq-eqb f.collection.icid e.icid f.icid)

module _ (k : Mapped) (e : Event) where
  abbrev event_tests : List Bool
  event_tests =
      ltb e.event (2 ^ (device_of e.device k).bits) ∷ leb 8192 e.lpi ∷ leb e.lpi 65535 ∷ has_collection e.icid k ∷ []

  pub event_says : event_ok k e ≡ true → Owned k.devices e × Fit k.collections e
  unfolding event_ok
  event_says q =
      let p = split (has_device e.device k) event_tests q in
      let d = device_of e.device k in
      let f = found_key device_key e.device k.devices no_device p.0 in (
        record { device = d; listed = f.0; id = f.1; small = ltb-true e.event (2 ^ d.bits) p.1.0 },
        fits k.collections e (leb-true 8192 e.lpi p.1.1.0) (leb-true e.lpi 65535 p.1.1.1.0) p.1.1.1.1,
      )

  pub event_is : Rises device_key k.devices → Owned k.devices e → Fit k.collections e → event_ok k e ≡ true
  unfolding event_ok
  event_is r o f =
      let g = key_found device_key k.devices no_device r o.listed in
      let has : has_device e.device k ≡ true = rw o.id at g.0 in
      let b : 2 ^ (device_of e.device k).bits ≡ 2 ^ o.device.bits = rw o.id at (ap (λ (d : Device). 2 ^ d.bits) g.1) in
      join (has_device e.device k) event_tests
      (has, (lt-ltb e.event (2 ^ (device_of e.device k).bits) (rw b o.small), (le-leb 8192 e.lpi f.low, (le-leb e.lpi 65535 f.high, fit_collected k.collections e f))))

-- nothing mapped
none_left : {A : Type 0} (l : List A) → eqb (length l) 0 ≡ true → l ≡ []
none_left [] e = refl
none_left (x ∷ l) e = let n = eqb-true (length (x ∷ l)) 0 e in absurd (omega arith)

pub is_empty_lem : (k : Mapped) → is_empty k ≡ true → k ≡ empty
is_empty_lem k e =
    let p = split (eqb (length k.collections) 0) (eqb (length k.devices) 0 ∷ eqb (length k.events) 0 ∷ []) e in
    let c = none_left k.collections p.0 in
    let d = none_left k.devices p.1.0 in
    let v = none_left k.events p.1.1 in
    λ i. record { collections = c i; devices = d i; events = v i }

-- the mapping
module _ (m : Machine) (k : Mapped) where
  abbrev mapping_tests : List Bool
  mapping_tests =
      leb (length k.devices) 32 ∷ leb (length k.events) 1024
      ∷ rising collection_key k.collections ∷ rising device_key k.devices ∷ rising event_key k.events
      ∷ all (collection_ok m) k.collections ∷ all (device_ok m) k.devices ∷ apart (table_areas m k.devices)
      ∷ all (event_ok k) k.events ∷ []

  pub mapping_says : mapping_ok m k ≡ true → MappingRules m k
  unfolding mapping_ok
  mapping_says e =
      let p = split (leb (length k.collections) 16) mapping_tests e in
      let t = p.1.1.1.1.1 in
      let s = from_all (event_ok k) k.events t.1.1.1.1 in
      record {
        few_collections_lem = leb-true (length k.collections) 16 p.0;
        few_devices_lem = leb-true (length k.devices) 32 p.1.0;
        few_events_lem = leb-true (length k.events) 1024 p.1.1.0;
        collections_rise = rises collection_key k.collections p.1.1.1.0;
        devices_rise = rises device_key k.devices p.1.1.1.1.0;
        events_rise = rises event_key k.events t.0;
        collections = all_weaker (collection_says m) k.collections (from_all (collection_ok m) k.collections t.1.0);
        devices = all_weaker (device_says m) k.devices (from_all (device_ok m) k.devices t.1.1.0);
        apart = apart_says (table_areas m k.devices) t.1.1.1.0;
        owned = all_weaker (λ x q. (event_says k x q).0) k.events s;
        fit = all_weaker (λ x q. (event_says k x q).1) k.events s;
      }

  pub mapping_is : MappingRules m k → mapping_ok m k ≡ true
  unfolding mapping_ok
  mapping_is o =
      let d = o.devices_rise in
      join (leb (length k.collections) 16) mapping_tests (
        le-leb (length k.collections) 16 o.few_collections_lem,
        (
          le-leb (length k.devices) 32 o.few_devices_lem,
          (
            le-leb (length k.events) 1024 o.few_events_lem,
            (
              risen collection_key k.collections o.collections_rise,
              (
                risen device_key k.devices d,
                (
                  risen event_key k.events o.events_rise,
                  (
                    to_all (collection_ok m) k.collections (all_weaker (collection_is m) k.collections o.collections),
                    (
                      to_all (device_ok m) k.devices (all_weaker (device_is m) k.devices o.devices),
                      (
                        apart_is (table_areas m k.devices) o.apart,
                        to_all (event_ok k) k.events (all_of k.events (λ x i. event_is k x d (all_in k.events o.owned i) (all_in k.events o.fit i))),
                      ),
                    ),
                  ),
                ),
              ),
            ),
          ),
        ),
      )

  -- with or without tables
  pub rules_say : map_rules m k ≡ true → MapMeaning m k
  unfolding map_rules
  rules_say e = record {
    placed = λ i. mapping_says (rw i at e);
    unplaced = λ i. is_empty_lem k (rw i at e);
  }

  pub rules_are : MapMeaning m k → map_rules m k ≡ true
  unfolding map_rules
  rules_are r = by (is_placed m) refl
    where
      by : (b : Bool) → is_placed m ≡ b → choose b (mapping_ok m k) (is_empty k) ≡ true
      by true i = mapping_is (r.placed i)
      by false i = rw (r.unplaced i)

  -- an event's ID is below 65,536
  pub event_small : MappingRules m k → (e : Event) → Owned k.devices e → e.event < 65536
  event_small o e w = omega (arith, w.small, pow_mono (all_in k.devices o.devices w.listed).most)
