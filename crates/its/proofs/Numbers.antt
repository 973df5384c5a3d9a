-- Bounds of the numbers of rows that stand, and of the IDs that name them. Assumes nothing.
use Prim.Native.Nat.{ℕ, suc, ◌^◌, ◌≤◌, ◌<◌}
use native.Mathlib.Nat.{lt_of_lt_of_le}
use native.Mathlib.Omega.{arith}
use mathlib.Core.Path.{◌≡◌, refl, sym, ◌∙◌}
use mathlib.Core.Bool.{Bool, true, false}
use mathlib.Core.List.{List, [], ◌∷◌}
use lib.ListN.{length, get_or, take}
use lib.Dec.{ltb, leb, eqb, leb-suc-suc}
use lib.Pow.{pow_mono}
use borrow.Author.Tests.{lt-ltb, ltb-true, leb-true, eqb-true}
use Rattle.lists.specs.Rows.{choose, find_ix, all}
use Rattle.lists.proofs.All.{from_all, all_at}
use Rattle.areas.proofs.Tests.{and_left, and_right}
use Rattle.rules.proofs.Rows.{row_passes}
use Rattle.guest.specs.declared.Guest.{Guest}
use Rattle.guest.specs.Machine.{view}
use Rattle.rules.proofs.Facts.{sound_devices, sound_collections}
use Rattle.rules.specs.Rules.{Kept}
use Rattle.mapping.proofs.Sized.{kept_sized}
use Rattle.mapping.specs.declared.Collection.{Collection}
use Rattle.mapping.specs.declared.Mapping.{Mapping}
use Rattle.mapping.specs.declared.Device.{Device}
use Rattle.mapping.specs.declared.Event.{Event}
use Rattle.mapping.specs.Mapped.{Mapped, rows, device_key, collection_key, find_key, no_device, no_collection, no_event}
use Rattle.mapping.specs.Commands.{has_device, has_collection, device_of, index_of_device}
use Rattle.mapping.specs.MapRules.{MapKept, small_device, small_collection, is_collected}

module _ {A : Type 0} (p : A → Bool) (d : A) where
  -- a search that ended before the end found a row that passes
  find_passes : (l : List A) → ltb (find_ix p l) (length l) ≡ true → p (get_or l (find_ix p l) d) ≡ true
  unfolding find_ix
  find_passes [] e = let h = ltb-true 0 0 e in absurd (omega arith)
  find_passes (x ∷ xs) e = go (p x) refl e (find_passes xs)
    where
      go : (b : Bool) → p x ≡ b → ltb (choose b 0 (suc (find_ix p xs))) (suc (length xs)) ≡ true
          → (ltb (find_ix p xs) (length xs) ≡ true → p (get_or xs (find_ix p xs) d) ≡ true)
          → p (get_or (x ∷ xs) (choose b 0 (suc (find_ix p xs))) d) ≡ true
      go true q h rest = q
      go false q h rest = rest (sym (leb-suc-suc (suc (find_ix p xs)) (length xs)) ∙ h)

-- a row that stands passes what every row does
found_passes : {A : Type 0} (q : A → Bool) (d : A) (l : List A) (i : ℕ) → all q l ≡ true → ltb i (length l) ≡ true → q (get_or l i d) ≡ true
found_passes q d l i a h = all_at l i d (from_all q l a) (ltb-true i (length l) h)

-- the number that a row was found by is below what every row's key is below
module _ {A : Type 0} (key : A → ℕ) (q : A → Bool) (bound : ℕ) (f : (x : A) → q x ≡ true → key x < bound) (d : A) where
  key_below : (l : List A) (k : ℕ) → all q l ≡ true → ltb (find_key key k l) (length l) ≡ true → k < bound
  key_below l k a h =
      let x = get_or l (find_key key k l) d in
      let e : key x ≡ k = eqb-true (key x) k (find_passes (λ y. eqb (key y) k) d l h) in
      let b : key x < bound = f x (found_passes q d l (find_key key k l) a h) in
      omega arith

module _ (id : ℕ) (k : Mapped) (a : all small_device k.devices ≡ true) (h : has_device id k ≡ true) where
  pub device_below : id < 65536
  device_below =
      key_below device_key small_device 65536 (λ x q. ltb-true x.id 65536 (and_left (ltb x.id 65536) (leb x.bits 16) q)) no_device k.devices id a h

  pub event_below : (event : ℕ) → event < 2 ^ (device_of id k).bits → event < 65536
  event_below event g =
      let d = device_of id k in
      let b = leb-true d.bits 16 (and_right (ltb d.id 65536) (leb d.bits 16) (found_passes small_device no_device k.devices (index_of_device id k) a h)) in
      lt_of_lt_of_le g (pow_mono {j = 16} b)

module _ (icid : ℕ) (l : List Collection) (a : all small_collection l ≡ true) (h : ltb (find_key collection_key icid l) (length l) ≡ true) where
  pub collection_below : icid < 65536
  collection_below = key_below collection_key small_collection 65536 (λ x q. ltb-true x.icid 65536 (and_left (ltb x.icid 65536) (ltb x.pe 65536) q)) no_collection l icid a h

  pub pe_below : (get_or l (find_key collection_key icid l) no_collection).pe < 65536
  pe_below =
      let c = get_or l (find_key collection_key icid l) no_collection in
      ltb-true c.pe 65536 (and_right (ltb c.icid 65536) (ltb c.pe 65536) (found_passes small_collection no_collection l (find_key collection_key icid l) a h))

-- the row at an index below the length, or below a count
pub small_bits : (l : List Device) (i : ℕ) → all small_device l ≡ true → i < length l → (get_or l i no_device).bits ≤ 16
small_bits l i a h =
    let d = get_or l i no_device in
    leb-true d.bits 16 (and_right (ltb d.id 65536) (leb d.bits 16) (found_passes small_device no_device l i a (lt-ltb i (length l) h)))

pub bits_small : (n : ℕ) (l : List Device) (i : ℕ) → n ≤ length l → i < n → all small_device (take n l) ≡ true → (get_or l i no_device).bits ≤ 16
bits_small n l i r h a =
    let d = get_or l i no_device in
    leb-true d.bits 16 (and_right (ltb d.id 65536) (leb d.bits 16) (row_passes small_device no_device n l i r h a))

pub event_collected : (k : Mapped) (n : ℕ) (l : List Event) (i : ℕ) → n ≤ length l → i < n → all (is_collected k) (take n l) ≡ true → has_collection (get_or l i no_event).icid k ≡ true
event_collected k n l i r h a = row_passes (is_collected k) no_event n l i r h a

-- what a guest and a mapping that keep their rules have in their tables
pub device_pages : (g : Guest) → Kept g → g.tables.devices.pages ≤ 128
device_pages g h = (sound_devices (view g) h.rules).most

pub collection_pages : (g : Guest) → Kept g → g.tables.collections.pages ≤ 128
collection_pages g h = (sound_collections (view g) h.rules).most

pub kept_devices : (g : Guest) (k : Mapping) → MapKept g k → all small_device (rows k).devices ≡ true
kept_devices g k h = (kept_sized g k h).devices

pub ruleset kept_tables = (device_pages, collection_pages, kept_devices)
