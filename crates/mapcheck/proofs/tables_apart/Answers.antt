-- `mapcheck::tables_apart` meets its contract. Assumes nothing.
use mathlib.Core.List.{map}
use mathlib.Core.Path.{◌≡◌, ap, ◌∙◌}
use Rattle.areas.specs.Area.{strikes}
use Rattle.guest.specs.declared.Tables.{Tables}
use Rattle.layout.specs.Layout.{decode}
use Rattle.rules.specs.Rules.{table_area}
use Rattle.mapping.specs.Mapped.{itt_area}
use Rattle.maplayout.specs.MapLayout.{decode_map}
use Rattle.mapcheck.proofs.Verdicts.{tables_read, pages_few}
use Rattle.mapcheck.proofs.Overlaps.{strikes_same, devices_struck, collections_struck, itts_last}
use Rattle.mapcheck.proofs.tables_apart.Goals as goal

pub table_area-requires : goal.table_area-requires
table_area-requires c =
    (pages_few _ c.requires.0.rules c.load_tables-tables.ensures).0

pub returns-then-strikes_itts : goal.returns-then-strikes_itts
returns-then-strikes_itts c =
    let first : c.strikes_itts.result ≡ strikes (map itt_area (decode_map c.args.s.now).devices) (table_area (decode c.args.s.now).tables.devices) = strikes_same _ (c.table_area.ensures ∙ ap (λ (x : Tables). table_area x.devices) (tables_read _ c.load_tables-tables.ensures)) c.strikes_itts.ensures in
    devices_struck _ c.requires.0.rules _ (first) c.if-strikes_itts.true

pub table_area-requires-2 : goal.table_area-requires-2
table_area-requires-2 c =
    (pages_few _ c.requires.0.rules c.load_tables-tables.ensures).1

pub returns-then-strikes_itts-2 : goal.returns-then-strikes_itts-2
returns-then-strikes_itts-2 c =
    let first : c.strikes_itts.result ≡ strikes (map itt_area (decode_map c.args.s.now).devices) (table_area (decode c.args.s.now).tables.devices) = strikes_same _ (c.table_area.ensures ∙ ap (λ (x : Tables). table_area x.devices) (tables_read _ c.load_tables-tables.ensures)) c.strikes_itts.ensures in
    let second : c.strikes_itts-2.result ≡ strikes (map itt_area (decode_map c.args.s.now).devices) (table_area (decode c.args.s.now).tables.collections) = strikes_same _ (c.table_area-2.ensures ∙ ap (λ (x : Tables). table_area x.collections) (tables_read _ c.load_tables-tables.ensures)) c.strikes_itts-2.ensures in
    collections_struck _ c.requires.0.rules _ (first) c.if-strikes_itts.false (second) c.if-strikes_itts-2.true

pub returns : goal.returns
returns c =
    let first : c.strikes_itts.result ≡ strikes (map itt_area (decode_map c.args.s.now).devices) (table_area (decode c.args.s.now).tables.devices) = strikes_same _ (c.table_area.ensures ∙ ap (λ (x : Tables). table_area x.devices) (tables_read _ c.load_tables-tables.ensures)) c.strikes_itts.ensures in
    let second : c.strikes_itts-2.result ≡ strikes (map itt_area (decode_map c.args.s.now).devices) (table_area (decode c.args.s.now).tables.collections) = strikes_same _ (c.table_area-2.ensures ∙ ap (λ (x : Tables). table_area x.collections) (tables_read _ c.load_tables-tables.ensures)) c.strikes_itts-2.ensures in
    itts_last _ c.requires.0.rules _ (first) c.if-strikes_itts.false (second) c.if-strikes_itts-2.false c.itts_apart.ensures
