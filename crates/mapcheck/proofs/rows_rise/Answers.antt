-- `mapcheck::rows_rise` meets its contract. Assumes nothing.
use Rattle.std.proofs.Common.{rules, ◌≡◌}
use Rattle.mapping.specs.Mapped.{rising, collection_key, device_key, no_collection, no_device, no_event}
use Rattle.maplayout.specs.MapLayout.{decode_map}
use Rattle.mapcheck.proofs.rows_rise.Goals as goal

pub returns-else-keys_rise : goal.returns-else-keys_rise
returns-else-keys_rise c =
    let a : c.keys_rise.result ≡ rising collection_key (decode_map c.args.s.now).collections =
    c.keys_rise.ensures _ no_collection (record { count = c.collection_count.ensures; row = λ i x p. search rules }) in
    rw (← a, c.if-keys_rise.false)

pub returns-else-keys_rise-2 : goal.returns-else-keys_rise-2
returns-else-keys_rise-2 c =
    let a : c.keys_rise.result ≡ rising collection_key (decode_map c.args.s.now).collections =
    c.keys_rise.ensures _ no_collection (record { count = c.collection_count.ensures; row = λ i x p. search rules }) in
    let b : c.keys_rise-then-keys_rise.result ≡ rising device_key (decode_map c.args.s.now).devices =
    c.keys_rise-then-keys_rise.ensures _ no_device (record { count = c.device_count.ensures; row = λ i x p. search rules }) in
    rw (← a, ← b, c.if-keys_rise.true, c.if-keys_rise-2.false)

pub returns-then-keys_rise-2 : goal.returns-then-keys_rise-2
returns-then-keys_rise-2 c =
    let a : c.keys_rise.result ≡ rising collection_key (decode_map c.args.s.now).collections =
    c.keys_rise.ensures _ no_collection (record { count = c.collection_count.ensures; row = λ i x p. search rules }) in
    let b : c.keys_rise-then-keys_rise.result ≡ rising device_key (decode_map c.args.s.now).devices =
    c.keys_rise-then-keys_rise.ensures _ no_device (record { count = c.device_count.ensures; row = λ i x p. search rules }) in
    rw (← a, ← b, c.if-keys_rise.true, c.if-keys_rise-2.true)
    (c.keys_rise-then-keys_rise-2.ensures _ no_event (record { count = c.event_count.ensures; row = λ i x p. search rules }))
