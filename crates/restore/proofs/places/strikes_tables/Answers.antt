-- `restore::places::strikes_tables` meets its contract. Assumes nothing.
use Rattle.restore.proofs.Over.{guest_counted, counted, few_rows}
use Rattle.restore.proofs.Searches.{begun_rules, device_table_lem, collection_table_lem, device_pages_lem, collection_pages_lem, tables_first, tables_second, tables_rest}
use Rattle.restore.proofs.places.strikes_tables.Goals as goal

pub load_tables-tables-requires : goal.load_tables-tables-requires
load_tables-tables-requires c = (guest_counted c.requires.over).long

pub table_area-requires : goal.table_area-requires
table_area-requires c = device_pages_lem _ _ c.load_tables-tables.ensures (begun_rules c.requires)

pub returns-then-overlaps : goal.returns-then-overlaps
returns-then-overlaps c =
    tables_first _ _ _ _ (device_table_lem _ _ c.load_tables-tables.ensures _ c.table_area.ensures) _ c.overlaps.ensures c.if-overlaps.true

pub table_area-requires-2 : goal.table_area-requires-2
table_area-requires-2 c = collection_pages_lem _ _ c.load_tables-tables.ensures (begun_rules c.requires)

pub returns-then-overlaps-2 : goal.returns-then-overlaps-2
returns-then-overlaps-2 c =
    tables_second _ _ _ _ (device_table_lem _ _ c.load_tables-tables.ensures _ c.table_area.ensures) _ c.overlaps.ensures c.if-overlaps.false
    _ (collection_table_lem _ _ c.load_tables-tables.ensures _ c.table_area-2.ensures) _ c.overlaps-2.ensures c.if-overlaps-2.true

pub strikes_itts-requires : goal.strikes_itts-requires
strikes_itts-requires c =
    let b = c.requires in
    (counted b.over, few_rows b.over)

pub returns : goal.returns
returns c =
    tables_rest _ _ _ _ (device_table_lem _ _ c.load_tables-tables.ensures _ c.table_area.ensures) _ c.overlaps.ensures c.if-overlaps.false
    _ (collection_table_lem _ _ c.load_tables-tables.ensures _ c.table_area-2.ensures) _ c.overlaps-2.ensures c.if-overlaps-2.false _ c.strikes_itts.ensures
