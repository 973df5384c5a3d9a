use native.Mathlib.Omega.{arith}
use Rattle.words.proofs.Laws.{read_in}
use Rattle.maplayout.specs.MapLayout.{collection_of}
use Rattle.maplayout.proofs.CollectionRowsLayout.load.Goals as goal

pub returns : goal.returns
unfolding collection_of
returns c =
    λ i. record {
      icid = read_in _ c.args.at 4 0 2 _ _ c.get16.ensures (omega arith) (omega arith) i;
      pe = read_in _ c.args.at 4 2 2 _ _ c.get16-2.ensures (omega arith) (omega arith) i;
    }
