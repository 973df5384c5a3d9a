-- Where the tables are: their sizes in entries, and that no two overlap.
use Prim.Native.Nat.{ℕ, ◌+◌, ◌^◌}
use native.Mathlib.Omega.{arith}
use native.Mathlib.Nat.{max_comm, min_comm}
use mathlib.Core.Path.{◌≡◌, sym, ap, ◌∙◌}
use mathlib.Core.Bool.{true, false, not}
use mathlib.Core.List.{List, [], ◌∷◌, ◌++◌, map}
use lib.ListN.{length, length-take, length-drop}
use lib.Dec.{leb}
use borrow.Author.Tests.{leb-true, eqb-true, not-true}
use Rattle.areas.specs.declared.Area.{Area}
use Rattle.areas.specs.Area.{overlaps, inside, struck, strikes, apart, end_of}
use Rattle.areas.proofs.Tests.{and_left, and_right, or_left, or_right}
use Rattle.areas.proofs.Has.{has, has_nil, has_cons, has_append}
use Rattle.guest.specs.Machine.{Machine}
use Rattle.rules.specs.Rules.{table_area, memory_area, rules}
use Rattle.rules.proofs.Facts.{sound_tables, sound_devices}
use Rattle.mapping.specs.declared.Device.{Device}
use Rattle.mapping.specs.Mapped.{itt_area}
use Rattle.mapping.specs.Commands.{device_entries, table_areas}
use Rattle.mapping.specs.MapRules.{is_placed}
use Rattle.tables.specs.Bytes.{area_bytes, device_table, itt_table, device_slots, event_slots}
use Rattle.lists.proofs.Member.{map-append}

overlaps_sym : (a b : Area) → overlaps a b ≡ overlaps b a
unfolding overlaps
overlaps_sym a b = rw (max_comm a.start b.start, min_comm (end_of a) (end_of b))

-- one more area behind areas apart
apart_last : (l : List Area) (a : Area) → apart l ≡ true → strikes l a ≡ false → apart (l ++ (a ∷ [])) ≡ true
unfolding apart strikes struck
apart_last [] a p n = rw n
apart_last (x ∷ l) a p n =
    let c = and_left (not (strikes l x)) _ p in
    let u = sym (has_cons (overlaps a) x l) ∙ n in
    let v : overlaps x a ≡ false = overlaps_sym x a ∙ or_left (overlaps a x) _ u in
    let w : has (overlaps x) (a ∷ []) ≡ false = has_cons (overlaps x) a [] ∙ rw (v, has_nil (overlaps x)) in
    let s : has (overlaps x) (l ++ (a ∷ [])) ≡ false = has_append (overlaps x) l (a ∷ []) ∙ rw (not-true (strikes l x) c, w) in
    rw s (apart_last l a (and_right (not (strikes l x)) _ p) (or_right (overlaps a x) _ u))

-- an area among areas apart strikes none of those before it
apart_before : (l : List Area) (a : Area) (r : List Area) → apart (l ++ (a ∷ r)) ≡ true → strikes l a ≡ false
unfolding apart strikes struck
apart_before [] a r p = has_nil (overlaps a)
apart_before (x ∷ l) a r p =
    let t = not (strikes (l ++ (a ∷ r)) x) in
    let c : strikes (l ++ (a ∷ r)) x ≡ false = not-true _ (and_left t _ p) in
    let u = or_right (has (overlaps x) l) _ (sym (has_append (overlaps x) l (a ∷ r)) ∙ c) in
    let v : overlaps a x ≡ false = overlaps_sym a x ∙ or_left (overlaps x a) _ (sym (has_cons (overlaps x) a r) ∙ u) in
    has_cons (overlaps a) x l ∙ rw v (apart_before l a r (and_right t _ p))

module _ (m : Machine) (ds : List Device) (d : Device) where
  tables_behind : (es : List Device) → table_areas m (ds ++ es) ≡ table_areas m ds ++ map itt_area es
  unfolding table_areas
  tables_behind es = rw (map-append itt_area ds es)

  pub tables_last : apart (table_areas m ds) ≡ true → strikes (table_areas m ds) (itt_area d) ≡ false → apart (table_areas m (ds ++ (d ∷ []))) ≡ true
  tables_last p n = ap apart (tables_behind (d ∷ [])) ∙ apart_last (table_areas m ds) (itt_area d) p n

  pub tables_before : (es : List Device) → apart (table_areas m (ds ++ (d ∷ es))) ≡ true → strikes (table_areas m ds) (itt_area d) ≡ false
  tables_before es p = apart_before (table_areas m ds) (itt_area d) (map itt_area es) (ap apart (sym (tables_behind (d ∷ es))) ∙ p)

-- what is used of a sound guest with its tables placed, and of its memory
pub record Ready (m : Machine) (mem : List ℕ) : Type 0 where
  pub devices : (device_slots (device_table m mem)).size ≡ device_entries m
  pub events : (d : Device) → inside (memory_area m.memory) (itt_area d) ≡ true → (event_slots (itt_table m mem d)).size ≡ 2 ^ d.bits
  pub apart : apart (table_areas m []) ≡ true

module _ (m : Machine) (mem : List ℕ) (size : length mem ≡ m.memory.length) where
  bytes_size : (a : Area) → inside (memory_area m.memory) a ≡ true → length (area_bytes m mem a) ≡ a.size
  unfolding inside area_bytes
  bytes_size a e =
      let low = leb-true m.memory.start a.start (and_left _ _ e) in
      let high = leb-true (end_of a) (m.memory.start + m.memory.length) (and_right (leb m.memory.start a.start) _ e) in
      simp (length-take, length-drop) (omega arith)

  pub ready : rules m ≡ true → is_placed m ≡ true → Ready m mem
  unfolding device_slots event_slots table_areas apart strikes struck
  ready r p =
      let s = eqb-true m.tables.devices.set 1 p in
      let t = m.tables in
      let a : has (overlaps (table_area t.devices)) (table_area t.collections ∷ []) ≡ false =
      has_cons (overlaps (table_area t.devices)) (table_area t.collections) [] ∙ rw ((sound_tables m r).apart, has_nil (overlaps (table_area t.devices))) in
      record {
        devices = omega (arith, bytes_size (table_area t.devices) ((sound_devices m r).within s));
        events = λ d h. omega (arith, bytes_size (itt_area d) h);
        apart = rw (a, has_nil (overlaps (table_area t.collections)));
      }
