-- The tests of the code decide the rules of a mapping: row by row, and in all. Assumes nothing.
use Prim.Native.Nat.{ℕ, ◌*◌, ◌%◌, ◌^◌, ◌≤◌, ◌<◌}
use native.Mathlib.Omega.{arith}
use mathlib.Core.Path.{◌≡◌, refl, sym, ap, ◌∙◌}
use mathlib.Core.Bool.{Bool, true, false, ◌&&◌}
use mathlib.Core.List.{List, [], ◌∷◌}
use lib.ListN.{length, get_or}
use lib.Dec.{ltb, leb, eqb}
use borrow.Author.Tests.{lt-ltb, le-ltb, ltb-true, le-leb, leb-true, eq-eqb, ne_eqb}
use Rattle.lists.specs.Rows.{all, find_ix}
use Rattle.lists.proofs.All.{from_all, all_at}
use Rattle.areas.specs.declared.Area.{Area}
use Rattle.areas.specs.Area.{inside, apart}
use Rattle.areas.proofs.Tests.{and_right, split, join}
use Rattle.guest.specs.declared.Memory.{Memory}
use Rattle.guest.specs.declared.Tables.{Tables}
use Rattle.guest.specs.Machine.{Machine}
use Rattle.layout.specs.Layout.{memory_of, tables_of, decode}
use Rattle.rules.specs.Rules.{memory_area, rules}
use Rattle.rules.proofs.Facts.{sound_devices, sound_collections}
use Rattle.rules.proofs.Rows.{all_weaker}
use Rattle.mapping.specs.declared.Device.{Device}
use Rattle.mapping.specs.declared.Collection.{Collection}
use Rattle.mapping.specs.declared.Event.{Event}
use Rattle.mapping.specs.Mapped.{Mapped, rising, device_key, collection_key, event_key, find_key, itt_area, no_device}
use Rattle.mapping.specs.Commands.{device_entries, table_areas, has_device, device_of, has_collection, is_empty}
use Rattle.mapping.specs.MapRules.{collection_ok, device_ok, event_ok, mapping_ok, map_rules, small_device}
use Rattle.maplayout.specs.MapLayout.{decode_map}
use Rattle.maplayout.proofs.InPlace.{collections_few, devices_few, events_few}
use Rattle.its.specs.Forms.{is_formed, is_lpi}
use Rattle.mapkept.proofs.Rising.{find_row}
use Rattle.mapcheck.specs.Examined.{Examined, Sized}

-- what a call said of a test, where its answer led on or back
pub passed : {b t : Bool} → b ≡ t → b ≡ true → t ≡ true
passed e h = sym e ∙ h

pub failed : {b t : Bool} → b ≡ t → b ≡ false → t ≡ false
failed e h = sym e ∙ h

-- two tests that say the same of each row
all_same : {A : Type 0} (p q : A → Bool) → ((x : A) → p x ≡ q x) → (l : List A) → all p l ≡ all q l
unfolding all
all_same p q f [] = refl
all_same p q f (x ∷ l) = rw (f x, all_same p q f l)

-- a row of collections and of devices, as the code tests it
abbrev pub is_collection : ℕ → Collection → Bool
is_collection vcpus c = ltb c.icid 65536 && ltb c.pe vcpus

abbrev pub is_device : Memory → ℕ → Device → Bool
is_device memory entries d = is_formed entries d && inside (memory_area memory) (itt_area d)

pub collections_same : (m : Machine) (vcpus : ℕ) (l : List Collection) {b : Bool} → vcpus ≡ length m.vcpus → b ≡ all (is_collection vcpus) l → b ≡ all (collection_ok m) l
unfolding collection_ok
collections_same m vcpus l e q = q ∙ all_same (is_collection vcpus) (collection_ok m) at l
  where
    at : (c : Collection) → is_collection vcpus c ≡ collection_ok m c
    at c = rw e

-- the tests of a device's form come first, and then its place
pub devices_same : (m : Machine) (memory : Memory) (t : Tables) (l : List Device) {b : Bool} → memory ≡ m.memory → t ≡ m.tables
    → b ≡ all (is_device memory (512 * t.devices.pages)) l → b ≡ all (device_ok m) l
unfolding device_ok
devices_same m memory t l e f q = q ∙ rw (e, f) (all_same (is_device m.memory (device_entries m)) (device_ok m) at l)
  where
    regroup : (a b c e f : Bool) → ((a && ((b && c) && e)) && f) ≡ (a && (b && (c && (e && f))))
    regroup true true true e f = refl
    regroup true true false e f = refl
    regroup true false c e f = refl
    regroup false b c e f = refl

    at : (d : Device) → is_device m.memory (device_entries m) d ≡ device_ok m d
    at d = regroup (ltb d.id (device_entries m)) (leb 1 d.bits) (leb d.bits 16) (eqb (d.itt % 256) 0) (inside (memory_area m.memory) (itt_area d))

-- a device table has at most 128 pages of 512 entries
pub devices_small : (m : Machine) (l : List Device) → m.tables.devices.pages ≤ 128 → all (device_ok m) l ≡ true → all small_device l ≡ true
unfolding device_ok
devices_small m l h e = all_weaker (device_ok m) small_device small l e
  where
    small : (d : Device) → device_ok m d ≡ true → small_device d ≡ true
    small d q =
        let p = split (ltb d.id (device_entries m))
        (leb 1 d.bits ∷ leb d.bits 16 ∷ eqb (d.itt % 256) 0 ∷ inside (memory_area m.memory) (itt_area d) ∷ []) q in
        let i = ltb-true d.id (device_entries m) p.0 in
        join (ltb d.id 65536) (leb d.bits 16 ∷ []) (lt-ltb d.id 65536 (omega arith), p.1.1.0)

pub inside_same : (whole a a' : Area) {b : Bool} → a ≡ a' → b ≡ inside whole a → b ≡ inside whole a'
inside_same whole a a' e q = rw (← e) q

-- a row that was read has few bits where every row has
pub bits_few : (l : List Device) (i : ℕ) {d : Device} → all small_device l ≡ true → i < length l → d ≡ get_or l i no_device → d.bits ≤ 16
bits_few l i a h e =
    let x = get_or l i no_device in
    rw e (leb-true x.bits 16 (and_right (ltb x.id 65536) (leb x.bits 16) (all_at l i no_device (from_all small_device l a) h)))

-- a row that has the ID is the one that a search finds, since no other has it
pub row_sought : (l : List Device) (i id : ℕ) {d : Device} → rising device_key l ≡ true → i < length l → d ≡ get_or l i no_device → d.id ≡ id → i ≡ find_key device_key id l
row_sought l i id r h e q = sym (ap (λ (k : ℕ). find_key device_key k l) (sym q ∙ ap device_key e) ∙ find_row device_key l i no_device r h)

-- the bits of the row that was read are those of the device that was sought
pub bits_sought : (l : List Device) (id : ℕ) {at ids : ℕ} {d : Device} → at ≡ find_key device_key id l → d ≡ get_or l at no_device → ids ≡ 2 ^ d.bits
    → ids ≡ 2 ^ (get_or l (find_key device_key id l) no_device).bits
bits_sought l id p e q = q ∙ ap (λ (x : Device). 2 ^ x.bits) e ∙ ap (λ (i : ℕ). 2 ^ (get_or l i no_device).bits) p

-- a search ended at a row or past the last one
module _ {A : Type 0} (p : A → Bool) (l : List A) {at n : ℕ} (e : at ≡ find_ix p l) (f : n ≡ length l) where
  pub found_same : ltb at n ≡ ltb (find_ix p l) (length l)
  found_same = rw (e, f)

  pub found : at < n → ltb (find_ix p l) (length l) ≡ true
  found h = sym found_same ∙ lt-ltb at n h

  pub not_found : n ≤ at → ltb (find_ix p l) (length l) ≡ false
  not_found h = sym found_same ∙ le-ltb at n h

-- an event: the first test that fails decides, or the last
module _ (k : Mapped) (e : Event) where
  pub event_lost : has_device e.device k ≡ false → false ≡ event_ok k e
  unfolding event_ok
  event_lost d = rw d

  module _ (d : has_device e.device k ≡ true) where
    pub event_large : ltb e.event (2 ^ (device_of e.device k).bits) ≡ false → false ≡ event_ok k e
    unfolding event_ok
    event_large b = rw (d, b)

    module _ (b : ltb e.event (2 ^ (device_of e.device k).bits) ≡ true) where
      event_lpi : event_ok k e ≡ (is_lpi e.lpi && has_collection e.icid k)
      unfolding event_ok
      event_lpi = rw (d, b) (at (leb 8192 e.lpi) (leb e.lpi 65535) (has_collection e.icid k))
        where
          at : (x y z : Bool) → (x && (y && z)) ≡ ((x && y) && z)
          at true y z = refl
          at false y z = refl

      pub event_no_lpi : is_lpi e.lpi ≡ false → false ≡ event_ok k e
      event_no_lpi l = rw (event_lpi, l)

      pub event_last : {r : Bool} → is_lpi e.lpi ≡ true → r ≡ has_collection e.icid k → r ≡ event_ok k e
      event_last l q = rw (event_lpi, l) q

-- where tables are placed and where memory lies, as they are read from the bytes
module _ (s : List ℕ) where
  pub memory_read : {r : Memory} → r ≡ memory_of s → r ≡ (decode s).memory
  unfolding decode
  memory_read e = e

  pub tables_read : {t : Tables} → t ≡ tables_of s → t ≡ (decode s).tables
  unfolding decode
  tables_read e = e

  pub pages_few : {t : Tables} → rules (decode s) ≡ true → t ≡ tables_of s → (t.devices.pages ≤ 128) × (t.collections.pages ≤ 128)
  pages_few r e = rw (tables_read e) ((sound_devices (decode s) r).most, (sound_collections (decode s) r).most)

-- the rows of every table rise
module _ (k : Mapped) where
  abbrev pub rises : Bool
  rises = rising collection_key k.collections && (rising device_key k.devices && rising event_key k.events)

  pub devices_rise : rises ≡ true → rising device_key k.devices ≡ true
  devices_rise e = (split (rising collection_key k.collections) (rising device_key k.devices ∷ rising event_key k.events ∷ []) e).1.0

-- all rules
module _ (m : Machine) (k : Mapped) where
  pub unplaced : {b : Bool} → (m.tables.devices.set ≡ 1 → ⊥) → b ≡ is_empty k → b ≡ map_rules m k
  unfolding map_rules
  unplaced n q = rw (ne_eqb m.tables.devices.set 1 n) q

  pub record Placed : Type 0 where
    pub set : m.tables.devices.set ≡ 1
    pub collections : length k.collections ≤ 16
    pub devices : length k.devices ≤ 32
    pub events : length k.events ≤ 1024

  -- the limits hold, and the other tests are left
  module _ (p : Placed) where
    tests : map_rules m k
        ≡ (rises k && (all (collection_ok m) k.collections && (all (device_ok m) k.devices
        && (apart (table_areas m k.devices) && all (event_ok k) k.events))))
    unfolding map_rules mapping_ok
    tests =
        rw (
          eq-eqb m.tables.devices.set 1 p.set,
          le-leb (length k.collections) 16 p.collections,
          le-leb (length k.devices) 32 p.devices,
          le-leb (length k.events) 1024 p.events,
        )
        (at (rising collection_key k.collections) (rising device_key k.devices) (rising event_key k.events)
        (all (collection_ok m) k.collections && (all (device_ok m) k.devices && (apart (table_areas m k.devices) && all (event_ok k) k.events))))
      where
        at : (a b c d : Bool) → (a && (b && (c && d))) ≡ ((a && (b && c)) && d)
        at true true c d = refl
        at true false c d = refl
        at false b c d = refl

    pub not_rising : rises k ≡ false → false ≡ map_rules m k
    not_rising r = rw (tests, r)

    module _ (r : rises k ≡ true) where
      pub bad_collections : all (collection_ok m) k.collections ≡ false → false ≡ map_rules m k
      bad_collections c = rw (tests, r, c)

      module _ (c : all (collection_ok m) k.collections ≡ true) where
        pub bad_devices : all (device_ok m) k.devices ≡ false → false ≡ map_rules m k
        bad_devices d = rw (tests, r, c, d)

        module _ (d : all (device_ok m) k.devices ≡ true) where
          pub bad_tables : apart (table_areas m k.devices) ≡ false → false ≡ map_rules m k
          bad_tables a = rw (tests, r, c, d, a)

          pub events_last : {b : Bool} → apart (table_areas m k.devices) ≡ true → b ≡ all (event_ok k) k.events → b ≡ map_rules m k
          events_last a q = rw (tests, r, c, d, a) q

-- what the tests rely on: the tables are placed and every number of rows is within its limit, and the devices that passed their test
-- are small
module _ (s : List ℕ) (x : Examined s) {t : Tables} (e : t ≡ tables_of s) where
  set_read : t.devices.set ≡ (decode s).tables.devices.set
  set_read = ap (λ (u : Tables). u.devices.set) (tables_read s e)

  pub not_placed : {b : Bool} → (t.devices.set ≡ 1 → ⊥) → b ≡ is_empty (decode_map s) → b ≡ map_rules (decode s) (decode_map s)
  not_placed n q = unplaced (decode s) (decode_map s) (λ f. n (set_read ∙ f)) q

  pub placed_in : t.devices.set ≡ 1 → Placed (decode s) (decode_map s)
  placed_in h = record {
    set = sym set_read ∙ h;
    collections = collections_few s x.mapping;
    devices = devices_few s x.mapping;
    events = events_few s x.mapping;
  }

pub sized_in : (s : List ℕ) → Examined s → all (device_ok (decode s)) (decode_map s).devices ≡ true → Sized s
sized_in s x d = record { counted = x.mapping; small = devices_small (decode s) (decode_map s).devices (sound_devices (decode s) x.rules).most d }
