use native.Mathlib.Omega.{arith}
use mathlib.Core.List.{[], ◌∷◌}
use Rattle.words.proofs.Rows.{run_one, run_more}
use Rattle.layout.specs.Layout.{bank_bytes}
use Rattle.layout.proofs.BankRowsLayout.store.Goals as goal

pub returns : goal.returns
unfolding bank_bytes
returns c =
    let b = c.args.row in
    run_more 4 _ _ _ _ 8 (b.latch ∷ b.level ∷ []) (b.trigger ∷ []) (omega arith) (omega (arith, c.requires))
    (run_more 4 _ _ _ _ 4 (b.latch ∷ []) (b.level ∷ []) (omega arith) (omega (arith, c.requires)) (run_one 4 _ _ _ _ c.put32.ensures) (run_one 4 _ _ _ _ c.put32-2.ensures))
    (run_one 4 _ _ _ _ c.put32-3.ensures)
