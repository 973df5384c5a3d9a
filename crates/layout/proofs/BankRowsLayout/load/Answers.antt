use native.Mathlib.Omega.{arith}
use Rattle.words.proofs.Laws.{read_in}
use Rattle.layout.specs.Layout.{bank_of}
use Rattle.layout.proofs.BankRowsLayout.load.Goals as goal

pub returns : goal.returns
unfolding bank_of
returns c =
    λ i. record {
      latch = read_in _ c.args.at 12 0 4 _ _ c.get32.ensures (omega arith) (omega arith) i;
      level = read_in _ c.args.at 12 4 4 _ _ c.get32-2.ensures (omega arith) (omega arith) i;
      trigger = read_in _ c.args.at 12 8 4 _ _ c.get32-3.ensures (omega arith) (omega arith) i;
    }
