-- Where the two tables are: placed together, and inside memory; what an area inside memory obeys.
use Prim.Native.Nat.{◌+◌, ◌≤◌}
use mathlib.Core.Path.{◌≡◌, sym, ◌∙◌}
use mathlib.Core.Bool.{true}
use lib.Dec.{leb}
use borrow.Author.Tests.{leb-true, eqb-true}
use Rattle.areas.specs.declared.Area.{Area}
use Rattle.areas.specs.Area.{inside, end_of}
use Rattle.areas.proofs.Tests.{and_left, and_right}
use Rattle.guest.specs.Machine.{Machine}
use Rattle.rules.specs.Rules.{table_area, memory_area, rules}
use Rattle.rules.proofs.Facts.{sound_tables, sound_devices, sound_collections}
use Rattle.mapping.specs.MapRules.{is_placed}

module _ (m : Machine) (sound : rules m ≡ true) (placed : is_placed m ≡ true) where
  pub devices_set : m.tables.devices.set ≡ 1
  devices_set = eqb-true m.tables.devices.set 1 placed

  pub collections_set : m.tables.collections.set ≡ 1
  collections_set = sym (sound_tables m sound).together ∙ devices_set

  pub devices_inside : inside (memory_area m.memory) (table_area m.tables.devices) ≡ true
  devices_inside = (sound_devices m sound).within devices_set

  pub collections_inside : inside (memory_area m.memory) (table_area m.tables.collections) ≡ true
  collections_inside = (sound_collections m sound).within collections_set

pub record Within (m : Machine) (a : Area) : Type 0 where
  pub low : m.memory.start ≤ a.start
  pub high : end_of a ≤ m.memory.start + m.memory.length

pub within : (m : Machine) (a : Area) → inside (memory_area m.memory) a ≡ true → Within m a
unfolding inside
within m a e = record {
  low = leb-true m.memory.start a.start (and_left _ _ e);
  high = leb-true (end_of a) (m.memory.start + m.memory.length) (and_right (leb m.memory.start a.start) _ e);
}
