use native.Mathlib.Omega.{arith}
use Rattle.words.proofs.Laws.{read_in}
use Rattle.layout.specs.Layout.{region_of}
use Rattle.layout.proofs.RegionRowsLayout.load.Goals as goal

pub returns : goal.returns
unfolding region_of
returns c =
    λ i. record {
      base = read_in _ c.args.at 16 0 8 _ _ c.get64.ensures (omega arith) (omega arith) i;
      count = read_in _ c.args.at 16 8 8 _ _ c.get64-2.ensures (omega arith) (omega arith) i;
    }
