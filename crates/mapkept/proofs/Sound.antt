-- A sound mapping in its ten parts, and the parts of a row; each made whole again.
use Prim.Native.Nat.{◌%◌, ◌^◌, ◌≤◌, ◌<◌}
use native.Mathlib.Omega.{arith}
use mathlib.Core.Path.{◌≡◌, refl, ◌∙◌}
use mathlib.Core.Bool.{Bool, true, false}
use mathlib.Core.List.{List, [], ◌∷◌}
use lib.ListN.{length}
use lib.Dec.{ltb, leb, eqb}
use borrow.Author.Tests.{leb-true, le-leb, ltb-true, lt-ltb, eqb-true, eq-eqb}
use Rattle.lists.specs.Rows.{all}
use Rattle.lists.proofs.All.{All, from_all, to_all}
use Rattle.areas.specs.Area.{inside, apart}
use Rattle.areas.proofs.Tests.{split}
use Rattle.guest.specs.Machine.{Machine}
use Rattle.rules.specs.Rules.{memory_area, rules}
use Rattle.kept.proofs.Choice.{and_both}
use Rattle.mapping.specs.declared.Device.{Device}
use Rattle.mapping.specs.declared.Collection.{Collection}
use Rattle.mapping.specs.declared.Event.{Event}
use Rattle.mapping.specs.Mapped.{Mapped, MapResult, empty, device_key, collection_key, event_key, rising, itt_area, no_device}
use Rattle.mapping.specs.Commands.{device_entries, table_areas, has_device, device_of, has_collection, with_collections, with_events, is_empty}
use Rattle.mapping.specs.MapRules.{is_placed, device_ok, collection_ok, event_ok, mapping_ok, map_rules}
use Rattle.mapkept.proofs.Rising.{keyed}
use Rattle.mapkept.proofs.Edits.{all_weaker, all_both, Same, same_self}

-- a device's row
pub record DeviceParts (m : Machine) (d : Device) : Type 0 where
  pub id : d.id < device_entries m
  pub some : 1 ≤ d.bits
  pub most : d.bits ≤ 16
  pub start : d.itt % 256 ≡ 0
  pub within : inside (memory_area m.memory) (itt_area d) ≡ true

module _ (m : Machine) (d : Device) where
  abbrev device_tests : List Bool
  device_tests = leb 1 d.bits ∷ leb d.bits 16 ∷ eqb (d.itt % 256) 0 ∷ inside (memory_area m.memory) (itt_area d) ∷ []

  pub device_parts : device_ok m d ≡ true → DeviceParts m d
  unfolding device_ok
  device_parts e =
      let p = split (ltb d.id (device_entries m)) device_tests e in
      record {
        id = ltb-true d.id (device_entries m) p.0;
        some = leb-true 1 d.bits p.1.0;
        most = leb-true d.bits 16 p.1.1.0;
        start = eqb-true (d.itt % 256) 0 p.1.1.1.0;
        within = p.1.1.1.1;
      }

  pub device_whole : DeviceParts m d → device_ok m d ≡ true
  unfolding device_ok
  device_whole p =
      and_both (lt-ltb d.id (device_entries m) p.id) (and_both (le-leb 1 d.bits p.some)
      (and_both (le-leb d.bits 16 p.most) (and_both (eq-eqb (d.itt % 256) 0 p.start) p.within)))

-- a collection's row
pub record CollectionParts (m : Machine) (c : Collection) : Type 0 where
  pub icid : c.icid < 65536
  pub pe : c.pe < length m.vcpus

module _ (m : Machine) (c : Collection) where
  pub collection_parts : collection_ok m c ≡ true → CollectionParts m c
  unfolding collection_ok
  collection_parts e =
      let p = split (ltb c.icid 65536) (ltb c.pe (length m.vcpus) ∷ []) e in
      record { icid = ltb-true c.icid 65536 p.0; pe = ltb-true c.pe (length m.vcpus) p.1 }

  pub collection_whole : CollectionParts m c → collection_ok m c ≡ true
  unfolding collection_ok
  collection_whole p = and_both (lt-ltb c.icid 65536 p.icid) (lt-ltb c.pe (length m.vcpus) p.pe)

-- an event's row
pub record EventParts (k : Mapped) (e : Event) : Type 0 where
  pub device : has_device e.device k ≡ true
  pub event : e.event < 2 ^ (device_of e.device k).bits
  pub low : 8192 ≤ e.lpi
  pub high : e.lpi ≤ 65535
  pub collection : has_collection e.icid k ≡ true

module _ (k : Mapped) (e : Event) where
  abbrev event_tests : List Bool
  event_tests =
      ltb e.event (2 ^ (device_of e.device k).bits) ∷ leb 8192 e.lpi ∷ leb e.lpi 65535 ∷ has_collection e.icid k ∷ []

  pub event_parts : event_ok k e ≡ true → EventParts k e
  unfolding event_ok
  event_parts h =
      let p = split (has_device e.device k) event_tests h in
      record {
        device = p.0;
        event = ltb-true e.event (2 ^ (device_of e.device k).bits) p.1.0;
        low = leb-true 8192 e.lpi p.1.1.0;
        high = leb-true e.lpi 65535 p.1.1.1.0;
        collection = p.1.1.1.1;
      }

  pub event_whole : EventParts k e → event_ok k e ≡ true
  unfolding event_ok
  event_whole p =
      and_both p.device (and_both (lt-ltb e.event (2 ^ (device_of e.device k).bits) p.event)
      (and_both (le-leb 8192 e.lpi p.low) (and_both (le-leb e.lpi 65535 p.high) p.collection)))

-- the mapping
pub record Sound (m : Machine) (k : Mapped) : Type 0 where
  pub few_collections : length k.collections ≤ 16
  pub few_devices : length k.devices ≤ 32
  pub few_events : length k.events ≤ 1024
  pub rising_collections : rising collection_key k.collections ≡ true
  pub rising_devices : rising device_key k.devices ≡ true
  pub rising_events : rising event_key k.events ≡ true
  pub collections : All (CollectionParts m) k.collections
  pub devices : All (DeviceParts m) k.devices
  pub apart : apart (table_areas m k.devices) ≡ true
  pub events : All (EventParts k) k.events

-- a test of every row, and what it tells of each
module _ {A : Type 0} {P : A → Type 0} (t : A → Bool) where
  each_parts : ((x : A) → t x ≡ true → P x) → (l : List A) → all t l ≡ true → All P l
  each_parts f l e = all_weaker f l (from_all t l e)

  each_whole : ((x : A) → P x → t x ≡ true) → (l : List A) → All P l → all t l ≡ true
  each_whole f l r = to_all t l (all_weaker f l r)

module _ (m : Machine) (k : Mapped) where
  abbrev mapping_tests : List Bool
  mapping_tests =
      leb (length k.devices) 32 ∷ leb (length k.events) 1024
      ∷ rising collection_key k.collections ∷ rising device_key k.devices ∷ rising event_key k.events
      ∷ all (collection_ok m) k.collections ∷ all (device_ok m) k.devices ∷ apart (table_areas m k.devices)
      ∷ all (event_ok k) k.events ∷ []

  pub mapping_parts : mapping_ok m k ≡ true → Sound m k
  unfolding mapping_ok
  mapping_parts e =
      let p = split (leb (length k.collections) 16) mapping_tests e in
      let q = p.1.1.1 in
      record {
        few_collections = leb-true (length k.collections) 16 p.0;
        few_devices = leb-true (length k.devices) 32 p.1.0;
        few_events = leb-true (length k.events) 1024 p.1.1.0;
        rising_collections = q.0;
        rising_devices = q.1.0;
        rising_events = q.1.1.0;
        collections = each_parts (collection_ok m) (collection_parts m) k.collections q.1.1.1.0;
        devices = each_parts (device_ok m) (device_parts m) k.devices q.1.1.1.1.0;
        apart = q.1.1.1.1.1.0;
        events = each_parts (event_ok k) (event_parts k) k.events q.1.1.1.1.1.1;
      }

  pub mapping_whole : Sound m k → mapping_ok m k ≡ true
  unfolding mapping_ok
  mapping_whole s =
      and_both (le-leb (length k.collections) 16 s.few_collections) (and_both (le-leb (length k.devices) 32 s.few_devices)
      (and_both (le-leb (length k.events) 1024 s.few_events) (and_both s.rising_collections (and_both s.rising_devices
      (and_both s.rising_events (and_both (each_whole (collection_ok m) (collection_whole m) k.collections s.collections)
      (and_both (each_whole (device_ok m) (device_whole m) k.devices s.devices) (and_both s.apart
      (each_whole (event_ok k) (event_whole k) k.events s.events)))))))))

  -- with the tables placed
  pub sound_mapping : is_placed m ≡ true → map_rules m k ≡ true → Sound m k
  unfolding map_rules
  sound_mapping i e = mapping_parts (rw i at e)

  pub mapping_sound : is_placed m ≡ true → Sound m k → map_rules m k ≡ true
  unfolding map_rules
  mapping_sound i s = rw i (mapping_whole s)

-- an empty mapping
none_left : {A : Type 0} (l : List A) → length l ≡ 0 → l ≡ []
none_left [] e = refl
none_left (x ∷ l) e = absurd (omega arith)

pub is_empty_lem : (k : Mapped) → is_empty k ≡ true → k ≡ empty
is_empty_lem k e =
    let p = split (eqb (length k.collections) 0) (eqb (length k.devices) 0 ∷ eqb (length k.events) 0 ∷ []) e in
    let c = none_left k.collections (eqb-true (length k.collections) 0 p.0) in
    let d = none_left k.devices (eqb-true (length k.devices) 0 p.1.0) in
    let v = none_left k.events (eqb-true (length k.events) 0 p.1.1) in
    λ i. record { collections = c i; devices = d i; events = v i }

-- the mapping is empty where no tables are placed
pub unplaced_empty : (m : Machine) (k : Mapped) → is_placed m ≡ false → map_rules m k ≡ true → k ≡ empty
unfolding map_rules
unplaced_empty m k i e = is_empty_lem k (rw i at e)

abbrev pub Stays : Machine → MapResult → Type 0
Stays m r = Sound m r.next

-- a command that keeps the rules
abbrev pub Keeps : Machine → (Mapped → MapResult) → Type 0
Keeps m command =
    (k : Mapped) → rules m ≡ true → map_rules m k ≡ true → is_placed m ≡ true → map_rules m (command k).next ≡ true

pub keeps : (m : Machine) (command : Mapped → MapResult) → ((k : Mapped) → Sound m k → Stays m (command k)) → Keeps m command
keeps m command f k _ e i = mapping_sound m (command k).next i (f k (sound_mapping m k i e))

-- an event's row where the searches for its device and its collection come to the same
pub event_after : {k next : Mapped} (e : Event) → Same (keyed device_key e.device) next.devices k.devices → has_collection e.icid next ≡ has_collection e.icid k → EventParts k e → EventParts next e
event_after e s c p = record {
  device = s.has ∙ p.device;
  event = rw (s.first no_device) p.event;
  low = p.low;
  high = p.high;
  collection = c ∙ p.collection;
}

-- other collections, or other events
module _ {m : Machine} {k : Mapped} (s : Sound m k) where
  pub with_collections_lem : (cs : List Collection) → length cs ≤ 16 → rising collection_key cs ≡ true → All (CollectionParts m) cs → All (λ e. has_collection e.icid (with_collections cs k) ≡ has_collection e.icid k) k.events → Sound m (with_collections cs k)
  with_collections_lem cs few rise each stay = record {
    few_collections = few;
    few_devices = s.few_devices;
    few_events = s.few_events;
    rising_collections = rise;
    rising_devices = s.rising_devices;
    rising_events = s.rising_events;
    collections = each;
    devices = s.devices;
    apart = s.apart;
    events = all_both (λ e p q. event_after e (same_self (keyed device_key e.device) k.devices) q p) k.events s.events stay;
  }

  pub with_events_lem : (es : List Event) → length es ≤ 1024 → rising event_key es ≡ true → All (EventParts k) es → Sound m (with_events es k)
  with_events_lem es few rise each = record {
    few_collections = s.few_collections;
    few_devices = s.few_devices;
    few_events = few;
    rising_collections = s.rising_collections;
    rising_devices = s.rising_devices;
    rising_events = rise;
    collections = s.collections;
    devices = s.devices;
    apart = s.apart;
    events = all_weaker (λ e p. event_after e (same_self (keyed device_key e.device) k.devices) refl p) es each;
  }
