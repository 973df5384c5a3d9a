-- The tables in memory are compared two by two where their rows lie: an area with the ITTs from one on, and each ITT with those after
-- it. Assumes nothing.
use Prim.Native.Nat.{ℕ, zero, suc, ◌+◌, ◌-◌, ◌≤◌}
use native.Mathlib.Omega.{arith}
use mathlib.Core.Path.{◌≡◌, sym, ◌∙◌}
use mathlib.Core.Bool.{Bool, true, false, ◌&&◌, not}
use mathlib.Core.List.{List, map}
use lib.ListN.{length, get_or, drop, drop_of_length-le}
use Rattle.std.specs.List.{list_any, list_all, range_with_len}
use Rattle.areas.specs.declared.Area.{Area}
use Rattle.areas.specs.Area.{overlaps, strikes, apart}
use Rattle.areas.proofs.Laws.{strikes_nil, strikes_cons}
use Rattle.guest.specs.Machine.{Machine}
use Rattle.rules.specs.Rules.{rules, table_area}
use Rattle.rules.proofs.Facts.{sound_tables}
use Rattle.mapping.specs.declared.Device.{Device}
use Rattle.mapping.specs.Mapped.{itt_area, no_device}
use Rattle.mapping.specs.Commands.{table_areas}
use Rattle.mapcheck.proofs.Loops.{left_from}

module _ (l : List Device) where
  -- the ITTs of the rows from i on
  abbrev itts : ℕ → List Area
  itts i = map itt_area (drop i l)

  abbrev itt : ℕ → Area
  itt i = itt_area (get_or l i no_device)

  module _ (a : Area) where
    any_from : (n i : ℕ) → i + n ≡ length l → list_any (λ j. overlaps a (itt j)) (range_with_len i n) ≡ strikes (itts i) a
    any_from zero i h = rw (drop_of_length-le l {i = i} (omega arith), strikes_nil a)
    any_from (suc n) i h =
        rw (left_from no_device l i (omega arith), strikes_cons a (itt i) (itts (i + 1)), any_from n (i + 1) (omega arith))

    -- an area overlaps an ITT from `from` on where it overlaps one of those at these indices
    pub any_struck : (n from : ℕ) → n ≡ length l → from ≤ length l → list_any (λ j. overlaps a (itt j)) (range_with_len from (n - from)) ≡ strikes (itts from) a
    any_struck n from e h = any_from (n - from) from (omega arith)

  apart_from : (n i : ℕ) → i + n ≡ length l → list_all (λ j. not (strikes (itts (j + 1)) (itt j))) (range_with_len i n) ≡ apart (itts i)
  unfolding apart
  apart_from zero i h = rw (drop_of_length-le l {i = i} (omega arith))
  apart_from (suc n) i h = rw (left_from no_device l i (omega arith), apart_from n (i + 1) (omega arith))

  -- no two ITTs overlap where none overlaps one after it
  pub all_apart : (n : ℕ) → n ≡ length l → list_all (λ j. not (strikes (itts (j + 1)) (itt j))) (range_with_len 0 (n - 0)) ≡ apart (map itt_area l)
  all_apart n e = apart_from (n - 0) 0 (omega arith)

pub strikes_same : (l : List Area) {a b : Area} {r : Bool} → a ≡ b → r ≡ strikes l a → r ≡ strikes l b
strikes_same l e q = rw (← e) q

-- all tables: the device table and the collection table do not overlap, so three tests are left, and the first that fails decides
module _ (m : Machine) (e : rules m ≡ true) (ds : List Device) where
  tests : apart (table_areas m ds)
      ≡ (not (strikes (map itt_area ds) (table_area m.tables.devices))
      && (not (strikes (map itt_area ds) (table_area m.tables.collections)) && apart (map itt_area ds)))
  unfolding table_areas apart
  tests = rw (strikes_cons (table_area m.tables.devices) (table_area m.tables.collections) (map itt_area ds), (sound_tables m e).apart)

  module _ {r : Bool} (p : r ≡ strikes (map itt_area ds) (table_area m.tables.devices)) where
    pub devices_struck : r ≡ true → false ≡ apart (table_areas m ds)
    devices_struck t = sym (tests ∙ rw (← p, t))

    module _ (f : r ≡ false) {q : Bool} (g : q ≡ strikes (map itt_area ds) (table_area m.tables.collections)) where
      pub collections_struck : q ≡ true → false ≡ apart (table_areas m ds)
      collections_struck t = sym (tests ∙ rw (← p, f, ← g, t))

      pub itts_last : {b : Bool} → q ≡ false → b ≡ apart (map itt_area ds) → b ≡ apart (table_areas m ds)
      itts_last t z = z ∙ sym (tests ∙ rw (← p, f, ← g, t))
