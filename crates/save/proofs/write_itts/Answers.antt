-- `save::write_itts` meets its contract. Assumes nothing.
use Prim.Native.Nat.{◌<◌}
use native.Mathlib.Omega.{arith}
use lib.ListN.{length}
use Rattle.mapping.specs.Mapped.{no_device}
use Rattle.maplayout.specs.MapLayout.{decode_map}
use Rattle.save.proofs.Rows.{row_good}
use Rattle.save.proofs.Itts.{table_start, passed_at, table_turn, table_end}
use Rattle.save.proofs.write_itts.Goals as goal

pub loop-i-init : goal.loop-i-init
loop-i-init c = table_start _ _ _ _

pub write_itt-j-requires : goal.write_itt-j-requires
write_itt-j-requires c =
    let below : c.loop-i.i < length (decode_map c.args.s.now).devices = omega (arith, c.device_count-n.ensures, c.loop-i-test.true) in
    let v = c.loop-i.invariant in (
      c.requires.0,
      record {
        events = c.requires.1.events;
        itt = rw v.same (row_good no_device _ _ _ (below) c.device_at-d.ensures c.requires.1.each);
        passed = passed_at _ _ _ _ _ _ _ v _ (below) c.device_at-d.ensures;
      },
    )

pub loop-i-preserved : goal.loop-i-preserved
loop-i-preserved c =
    let below : c.loop-i.i < length (decode_map c.args.s.now).devices = omega (arith, c.device_count-n.ensures, c.loop-i-test.true) in
    table_turn _ _ _ _ _ _ _ c.loop-i.invariant _ _ c.requires.1.devices (below) c.device_at-d.ensures
    _ _ c.write_itt-j.auto.mem c.write_itt-j.ensures.0 c.write_itt-j.ensures.1

pub returns : goal.returns
returns c = table_end _ _ _ _ _ _ _ c.loop-i.invariant (omega (arith, c.device_count-n.ensures, c.loop-i-test.false))
