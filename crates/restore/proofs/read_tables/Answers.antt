-- `restore::read_tables` meets its contract. Assumes nothing.
use Rattle.std.proofs.lemmas.Result.{err_from_is_err_and}
use Rattle.restore.proofs.Searches.{device_pages_lem, collection_pages_lem}
use Rattle.restore.proofs.Whole.{collections_inside, collections_few, collections_bytes, devices_inside, devices_bytes, devices_few, restore_begun, restore_fault, restore_read, restore_memory, restore_rest}
use Rattle.restore.proofs.read_tables.Goals as goal

pub table_area-requires : goal.table_area-requires
table_area-requires c = collection_pages_lem _ _ c.load_tables-tables.ensures c.requires.rules

pub area_bytes-collections-requires : goal.area_bytes-collections-requires
area_bytes-collections-requires c =
    collections_inside _ c.args.mem.now c.requires _ c.load_memory-memory.ensures _ c.load_tables-tables.ensures _ c.table_area.ensures

pub read_collections-requires : goal.read_collections-requires
read_collections-requires c = (
  restore_begun _ c.args.mem.now c.requires _ c.store_empty.ensures,
  collections_few _ c.args.mem.now c.requires _ c.load_memory-memory.ensures _ c.load_tables-tables.ensures _ c.table_area.ensures _ c.area_bytes-collections.ensures,
)

pub returns-in_err-read_collections : goal.returns-in_err-read_collections
returns-in_err-read_collections c =
    let q = collections_bytes _ c.args.mem.now c.requires _ c.load_memory-memory.ensures _ c.load_tables-tables.ensures _ c.table_area.ensures _ c.area_bytes-collections.ensures in
    let p = err_from_is_err_and c.from_residual.result c.from_residual.ensures.1 in
    rw (p.1, p.2) (restore_fault _ c.args.mem.now c.requires _ c.store_empty.ensures _ q _ _ c.in_err-read_collections.ensures)

pub table_area-requires-2 : goal.table_area-requires-2
table_area-requires-2 c = device_pages_lem _ _ c.load_tables-tables.ensures c.requires.rules

pub area_bytes-devices-requires : goal.area_bytes-devices-requires
area_bytes-devices-requires c =
    devices_inside _ c.args.mem.now c.requires _ c.load_memory-memory.ensures _ c.load_tables-tables.ensures _ c.table_area-2.ensures

pub read_devices-requires : goal.read_devices-requires
read_devices-requires c =
    let q = collections_bytes _ c.args.mem.now c.requires _ c.load_memory-memory.ensures _ c.load_tables-tables.ensures _ c.table_area.ensures _ c.area_bytes-collections.ensures in (
      restore_read _ c.args.mem.now c.requires _ c.store_empty.ensures _ q _ c.in_ok-read_collections.ensures,
      restore_memory _ c.args.mem.now c.requires _ c.store_empty.ensures _ q _ c.in_ok-read_collections.ensures,
      devices_few _ c.args.mem.now c.requires _ c.load_memory-memory.ensures _ c.load_tables-tables.ensures _ c.table_area-2.ensures _ c.area_bytes-devices.ensures,
    )

pub returns : goal.returns
returns c =
    let q = collections_bytes _ c.args.mem.now c.requires _ c.load_memory-memory.ensures _ c.load_tables-tables.ensures _ c.table_area.ensures _ c.area_bytes-collections.ensures in
    restore_rest _ c.args.mem.now c.requires _ c.store_empty.ensures _ q _ c.in_ok-read_collections.ensures
    _ (devices_bytes _ c.args.mem.now c.requires _ c.load_memory-memory.ensures _ c.load_tables-tables.ensures _ c.table_area-2.ensures _ c.area_bytes-devices.ensures) _ _ c.read_devices.ensures
