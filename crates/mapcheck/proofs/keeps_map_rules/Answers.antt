-- `mapcheck::keeps_map_rules` meets its contract: the first test that fails decides, or the last. Assumes nothing.
use Rattle.mapcheck.proofs.Verdicts.{
  devices_rise,
  passed,
  failed,
  not_placed,
  placed_in,
  sized_in,
  not_rising,
  bad_collections,
  bad_devices,
  bad_tables,
  events_last,
}
use Rattle.mapcheck.proofs.keeps_map_rules.Goals as goal

pub returns-then-tables-ne1 : goal.returns-then-tables-ne1
returns-then-tables-ne1 c = not_placed _ c.requires c.load_tables-tables.ensures c.if-tables-ne1.true c.is_empty.ensures

pub returns-then-not-rows_rise : goal.returns-then-not-rows_rise
returns-then-not-rows_rise c =
    not_rising _ _ (placed_in _ c.requires c.load_tables-tables.ensures c.if-tables-ne1.false) (failed c.rows_rise.ensures c.if-not-rows_rise.true)

pub returns-then-not-collections_ok : goal.returns-then-not-collections_ok
returns-then-not-collections_ok c =
    bad_collections _ _ (placed_in _ c.requires c.load_tables-tables.ensures c.if-tables-ne1.false) (passed c.rows_rise.ensures c.if-not-rows_rise.false)
    (failed c.collections_ok.ensures c.if-not-collections_ok.true)

pub returns-then-not-devices_ok : goal.returns-then-not-devices_ok
returns-then-not-devices_ok c =
    bad_devices _ _ (placed_in _ c.requires c.load_tables-tables.ensures c.if-tables-ne1.false) (passed c.rows_rise.ensures c.if-not-rows_rise.false)
    (passed c.collections_ok.ensures c.if-not-collections_ok.false) (failed c.devices_ok.ensures c.if-not-devices_ok.true)

pub tables_apart-requires : goal.tables_apart-requires
tables_apart-requires c = (c.requires, sized_in _ c.requires (passed c.devices_ok.ensures c.if-not-devices_ok.false))

pub returns-then-not-tables_apart : goal.returns-then-not-tables_apart
returns-then-not-tables_apart c =
    bad_tables _ _ (placed_in _ c.requires c.load_tables-tables.ensures c.if-tables-ne1.false) (passed c.rows_rise.ensures c.if-not-rows_rise.false)
    (passed c.collections_ok.ensures c.if-not-collections_ok.false) (passed c.devices_ok.ensures c.if-not-devices_ok.false)
    (failed c.tables_apart.ensures c.if-not-tables_apart.true)

pub events_ok-requires : goal.events_ok-requires
events_ok-requires c =
    (sized_in _ c.requires (passed c.devices_ok.ensures c.if-not-devices_ok.false), devices_rise _ (passed c.rows_rise.ensures c.if-not-rows_rise.false))

pub returns : goal.returns
returns c =
    events_last _ _ (placed_in _ c.requires c.load_tables-tables.ensures c.if-tables-ne1.false) (passed c.rows_rise.ensures c.if-not-rows_rise.false)
    (passed c.collections_ok.ensures c.if-not-collections_ok.false) (passed c.devices_ok.ensures c.if-not-devices_ok.false)
    (passed c.tables_apart.ensures c.if-not-tables_apart.false) c.events_ok.ensures
