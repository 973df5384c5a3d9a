-- Searches of the rows where they lie: what they tell of the mapping that was read so far. Assumes nothing.
use Prim.Native.Nat.{ℕ, ◌≤◌, ◌<◌}
use mathlib.Core.Path.{◌≡◌, refl, sym, ap, ◌∙◌}
use mathlib.Core.Bool.{Bool, true, false, ◌||◌}
use mathlib.Core.List.{List, [], ◌∷◌, map}
use lib.ListN.{length, get_or}
use lib.Dec.{ltb}
use borrow.Author.Tests.{lt-ltb, le-ltb, leb-true}
use Rattle.std.specs.Prelude.{cond, Option, Some, None}
use Rattle.std.specs.List.{range_with_len, position_or_len, list_any}
use Rattle.std.specs.Option.{unwrap_or}
use Rattle.std.proofs.lemmas.List.FromFn.{fill_by_all}
use Rattle.lists.specs.Rows.{find_ix, all}
use Rattle.lists.proofs.Searches.{found_or_length, any_found}
use Rattle.lists.proofs.All.{from_all, all_at}
use Rattle.areas.specs.declared.Area.{Area}
use Rattle.areas.specs.Area.{overlaps, struck, strikes}
use Rattle.areas.proofs.Laws.{strikes_cons}
use Rattle.guest.specs.declared.Tables.{Tables}
use Rattle.guest.specs.Machine.{Machine}
use Rattle.rules.specs.Rules.{table_area, rules}
use Rattle.rules.proofs.Facts.{sound_devices, sound_collections}
use Rattle.mapping.specs.declared.Device.{Device}
use Rattle.mapping.specs.Mapped.{Mapped, itt_area, no_device}
use Rattle.mapping.specs.Commands.{table_areas, index_of_collection, has_collection}
use Rattle.layout.specs.Layout.{decode, tables_of}
use Rattle.maplayout.specs.MapLayout.{decode_map}
use Rattle.restore.specs.Begun.{Over, Begun}
use Rattle.restore.specs.Parts.{few_bits}
use Rattle.restore.proofs.Over.{same_guest, same_rows}

-- all rows, each read at its index, and a search among them
module _ {A : Type 0} (d : A) (l : List A) (n : ℕ) (e : n ≡ length l) where
  abbrev pub read_rows : List A
  read_rows = map (λ i. get_or l i d) (range_with_len 0 n)

  all_rows : read_rows ≡ l
  all_rows = sym (fill_by_all (λ i. get_or l i d) l n d (sym e) (λ k h. refl))

  pub row_found : (p : A → Bool) (r : Option ℕ) → r ≡ cond (ltb (position_or_len p read_rows) (length read_rows)) (Some (position_or_len p read_rows)) None
      → unwrap_or r n ≡ find_ix p l
  row_found p r f = rw (f, all_rows, e) (found_or_length p l)

-- whether a collection stands in the mapping that was read so far
module _ {s₀ : List ℕ} {k : Mapped} {s : List ℕ} (o : Over s₀ k s) (icid at n : ℕ)
    (e : at ≡ index_of_collection icid (decode_map s)) (f : n ≡ length (decode_map s).collections) where
  index : at ≡ index_of_collection icid k
  index = e ∙ ap (index_of_collection icid) (same_rows o)

  pub collections_size : n ≡ length k.collections
  collections_size = f ∙ ap (λ (x : Mapped). length x.collections) (same_rows o)

  pub stands : at < n → has_collection icid k ≡ true
  stands h = rw (← index, ← collections_size) (lt-ltb at n h)

  pub lacks : n ≤ at → has_collection icid k ≡ false
  lacks h = rw (← index, ← collections_size) (le-ltb at n h)

-- the ITTs of the devices
any_map : {A B : Type 0} (p : B → Bool) (f : A → B) (l : List A) → list_any p (map f l) ≡ list_any (λ x. p (f x)) l
any_map p f [] = refl
any_map p f (x ∷ l) = ap (λ (b : Bool). p (f x) || b) (any_map p f l)

module _ (l : List Device) (a : Area) where
  abbrev pub meets : Device → Bool
  meets d = overlaps a (itt_area d)

  -- the code's reads of them
  pub itts_met : (n : ℕ) → n ≡ length l → (b : Bool) → b ≡ list_any (λ i. meets (get_or l i no_device)) (range_with_len 0 n) → b ≡ strikes (map itt_area l) a
  unfolding strikes struck
  itts_met n e b h =
      h ∙ sym (any_map meets (λ i. get_or l i no_device) (range_with_len 0 n)) ∙ ap (list_any meets) (all_rows no_device l n e)
      ∙ sym (any_map (overlaps a) itt_area l) ∙ any_found (overlaps a) (map itt_area l)

-- the row at i has few bits
module _ (l : List Device) where
  pub bits_few : (i : ℕ) → i < length l → all few_bits l ≡ true → (d : Device) → d ≡ get_or l i no_device → d.bits ≤ 16
  bits_few i h f d e = rw e (leb-true (get_or l i no_device).bits 16 (all_at l i no_device (from_all few_bits l f) h))

-- the tables in memory: the device table, the collection table, the ITTs
module _ (m : Machine) (l : List Device) (a : Area) where
  parts : strikes (table_areas m l) a ≡ (overlaps a (table_area m.tables.devices) || (overlaps a (table_area m.tables.collections) || strikes (map itt_area l) a))
  unfolding table_areas
  parts =
      strikes_cons a (table_area m.tables.devices) _
      ∙ ap (λ (b : Bool). overlaps a (table_area m.tables.devices) || b) (strikes_cons a (table_area m.tables.collections) _)

  module _ (x : Area) (p : x ≡ table_area m.tables.devices) (b : Bool) (e : b ≡ overlaps a x) where
    first : overlaps a (table_area m.tables.devices) ≡ b
    first = sym (e ∙ ap (overlaps a) p)

    pub tables_first : b ≡ true → true ≡ strikes (table_areas m l) a
    tables_first t = sym (parts ∙ rw (first ∙ t))

    module _ (u : b ≡ false) (y : Area) (q : y ≡ table_area m.tables.collections) (c : Bool) (f : c ≡ overlaps a y) where
      second : overlaps a (table_area m.tables.collections) ≡ c
      second = sym (f ∙ ap (overlaps a) q)

      pub tables_second : c ≡ true → true ≡ strikes (table_areas m l) a
      tables_second t = sym (parts ∙ rw (first ∙ u, second ∙ t))

      pub tables_rest : c ≡ false → (r : Bool) → r ≡ strikes (map itt_area l) a → r ≡ strikes (table_areas m l) a
      tables_rest t r g = sym (parts ∙ rw (first ∙ u, second ∙ t) (sym g))

-- the guest of the bytes keeps the rules, and the tables that were loaded are its own
pub begun_rules : {s : List ℕ} → Begun s → rules (decode s) ≡ true
begun_rules b = ap rules (same_guest b.over) ∙ b.over.rules

module _ (s : List ℕ) (x : Tables) (e : x ≡ tables_of s) where
  tables_loaded : x ≡ (decode s).tables
  unfolding decode
  tables_loaded = e

  pub device_table_lem : (y : Area) → y ≡ table_area x.devices → y ≡ table_area (decode s).tables.devices
  device_table_lem y p = p ∙ ap (λ (z : Tables). table_area z.devices) tables_loaded

  pub collection_table_lem : (y : Area) → y ≡ table_area x.collections → y ≡ table_area (decode s).tables.collections
  collection_table_lem y p = p ∙ ap (λ (z : Tables). table_area z.collections) tables_loaded

  module _ (r : rules (decode s) ≡ true) where
    pub device_pages_lem : x.devices.pages ≤ 128
    device_pages_lem = rw tables_loaded (sound_devices (decode s) r).most

    pub collection_pages_lem : x.collections.pages ≤ 128
    collection_pages_lem = rw tables_loaded (sound_collections (decode s) r).most
