-- `mapcheck::event_ok` meets its contract. Assumes nothing.
use Prim.Native.Nat.{◌^◌}
use native.Mathlib.Omega.{arith}
use mathlib.Core.Bool.{true}
use mathlib.Core.Path.{◌≡◌}
use lib.Dec.{ltb}
use borrow.Author.Tests.{lt-ltb, le-ltb}
use Rattle.mapping.specs.Commands.{has_device, device_of}
use Rattle.maplayout.specs.MapLayout.{decode_map}
use Rattle.mapcheck.proofs.Verdicts.{passed, failed, bits_few, bits_sought, found_same, found, not_found, event_lost, event_large, event_no_lpi, event_last}
use Rattle.mapcheck.proofs.event_ok.Goals as goal

pub device_count-requires : goal.device_count-requires
device_count-requires c = c.requires.0.counted

pub returns-then-device_count-at : goal.returns-then-device_count-at
returns-then-device_count-at c =
    event_lost _ _ (not_found _ _ c.requires.1 c.device_count.ensures c.if-device_count-at.true)

pub device_at-d-requires : goal.device_at-d-requires
device_at-d-requires c = (c.requires.0.counted, omega (arith, c.device_count.ensures))

pub event_ids-requires : goal.event_ids-requires
event_ids-requires c =
    bits_few _ _ c.requires.0.small (omega (arith, c.device_count.ensures, c.if-device_count-at.false)) c.device_at-d.ensures

pub returns-then-event_ids-e : goal.returns-then-event_ids-e
returns-then-event_ids-e c =
    let stands : has_device c.args.e.device (decode_map c.args.s.now) ≡ true = found _ _ c.requires.1 c.device_count.ensures c.if-device_count-at.false in
    let ids : c.event_ids.result ≡ 2 ^ (device_of c.args.e.device (decode_map c.args.s.now)).bits = bits_sought _ _ c.requires.1 c.device_at-d.ensures c.event_ids.ensures.0 in
    event_large _ _ (stands) (rw (← ids) (le-ltb _ _ c.if-event_ids-e.true))

pub returns-then-not-is_lpi : goal.returns-then-not-is_lpi
returns-then-not-is_lpi c =
    let stands : has_device c.args.e.device (decode_map c.args.s.now) ≡ true = found _ _ c.requires.1 c.device_count.ensures c.if-device_count-at.false in
    let ids : c.event_ids.result ≡ 2 ^ (device_of c.args.e.device (decode_map c.args.s.now)).bits = bits_sought _ _ c.requires.1 c.device_at-d.ensures c.event_ids.ensures.0 in
    let small : ltb c.args.e.event (2 ^ (device_of c.args.e.device (decode_map c.args.s.now)).bits) ≡ true = rw (← ids) (lt-ltb _ _ c.if-event_ids-e.false) in
    event_no_lpi _ _ (stands) (small) (failed c.is_lpi.ensures c.if-not-is_lpi.true)

pub find_collection-requires : goal.find_collection-requires
find_collection-requires c = c.requires.0.counted

pub collection_count-requires : goal.collection_count-requires
collection_count-requires c = c.requires.0.counted

pub returns : goal.returns
returns c =
    let stands : has_device c.args.e.device (decode_map c.args.s.now) ≡ true = found _ _ c.requires.1 c.device_count.ensures c.if-device_count-at.false in
    let ids : c.event_ids.result ≡ 2 ^ (device_of c.args.e.device (decode_map c.args.s.now)).bits = bits_sought _ _ c.requires.1 c.device_at-d.ensures c.event_ids.ensures.0 in
    let small : ltb c.args.e.event (2 ^ (device_of c.args.e.device (decode_map c.args.s.now)).bits) ≡ true = rw (← ids) (lt-ltb _ _ c.if-event_ids-e.false) in
    event_last _ _ (stands) (small) (passed c.is_lpi.ensures c.if-not-is_lpi.false)
    (found_same _ _ c.find_collection.ensures c.collection_count.ensures)
