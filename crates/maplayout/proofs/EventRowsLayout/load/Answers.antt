use native.Mathlib.Omega.{arith}
use Rattle.words.proofs.Laws.{read_in}
use Rattle.maplayout.specs.MapLayout.{event_of}
use Rattle.maplayout.proofs.EventRowsLayout.load.Goals as goal

pub returns : goal.returns
unfolding event_of
returns c =
    λ i. record {
      device = read_in _ c.args.at 8 0 2 _ _ c.get16.ensures (omega arith) (omega arith) i;
      event = read_in _ c.args.at 8 2 2 _ _ c.get16-2.ensures (omega arith) (omega arith) i;
      lpi = read_in _ c.args.at 8 4 2 _ _ c.get16-3.ensures (omega arith) (omega arith) i;
      icid = read_in _ c.args.at 8 6 2 _ _ c.get16-4.ensures (omega arith) (omega arith) i;
    }
