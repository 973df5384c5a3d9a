use native.Mathlib.Omega.{arith}
use Rattle.words.proofs.Laws.{read_in}
use Rattle.maplayout.specs.MapLayout.{device_of}
use Rattle.maplayout.proofs.DeviceRowsLayout.load.Goals as goal

pub returns : goal.returns
unfolding device_of
returns c =
    λ i. record {
      id = read_in _ c.args.at 24 0 8 _ _ c.get64.ensures (omega arith) (omega arith) i;
      itt = read_in _ c.args.at 24 8 8 _ _ c.get64-2.ensures (omega arith) (omega arith) i;
      bits = read_in _ c.args.at 24 16 8 _ _ c.get64-3.ensures (omega arith) (omega arith) i;
    }
