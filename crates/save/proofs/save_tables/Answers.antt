-- `save::save_tables` meets its contract. Assumes nothing.
use native.Mathlib.Omega.{arith}
use mathlib.Core.Path.{refl, ◌∙◌}
use Rattle.save.proofs.Itts.{saved_whole}
use Rattle.save.proofs.Sound.{start_read, tables_read, devices_low, devices_few, collections_low, collections_few, devices_given, collections_given, itts_given}
use Rattle.save.proofs.save_tables.Goals as goal

pub overflow_sub-devices : goal.overflow_sub-devices
overflow_sub-devices c =
    devices_low _ _ c.requires _ _ c.load_memory-start.ensures c.load_tables-tables.ensures

pub overflow_mul-devices : goal.overflow_mul-devices
overflow_mul-devices c =
    omega (arith, devices_few _ _ c.requires _ _ c.load_memory-start.ensures c.load_tables-tables.ensures)

pub write_devices-requires : goal.write_devices-requires
write_devices-requires c =
    (c.requires.mapped, devices_given _ _ c.requires _ _ c.load_memory-start.ensures c.load_tables-tables.ensures _ refl)

pub overflow_sub-collections : goal.overflow_sub-collections
overflow_sub-collections c =
    collections_low _ _ c.requires _ _ c.load_memory-start.ensures c.load_tables-tables.ensures

pub overflow_mul-collections : goal.overflow_mul-collections
overflow_mul-collections c =
    omega (arith, collections_few _ _ c.requires _ _ c.load_memory-start.ensures c.load_tables-tables.ensures)

pub write_collections-requires : goal.write_collections-requires
write_collections-requires c =
    (c.requires.mapped, collections_given _ _ c.requires _ _ c.load_memory-start.ensures c.load_tables-tables.ensures _ c.write_devices.auto.mem)

pub write_itts-requires : goal.write_itts-requires
write_itts-requires c =
    (c.requires.mapped, itts_given _ _ c.requires _ _ c.load_memory-start.ensures c.load_tables-tables.ensures _ (c.write_collections.auto.mem ∙ c.write_devices.auto.mem))

pub returns : goal.returns
returns c =
    saved_whole _ _ _ _ _ _ _ _ (start_read _ _ c.requires _ _ c.load_memory-start.ensures c.load_tables-tables.ensures)
    (tables_read _ _ c.requires _ _ c.load_memory-start.ensures c.load_tables-tables.ensures) c.write_devices.ensures c.write_collections.ensures c.write_itts.ensures
