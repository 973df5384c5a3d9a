-- `mapcheck::find_device` meets its contract. Assumes nothing.
use Rattle.std.proofs.Common.{rules}
use Rattle.mapping.specs.Mapped.{no_device}
use Rattle.maplayout.specs.MapLayout.{decode_map}
use Rattle.mapcheck.proofs.find_device.Goals as goal

pub returns : goal.returns
returns c =
    c.find_row.ensures (decode_map c.args.s.now).devices no_device (record { count = c.device_count.ensures; row = λ i x p. search rules })
