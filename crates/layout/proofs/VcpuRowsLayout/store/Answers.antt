use native.Mathlib.Omega.{arith}
use mathlib.Core.List.{[], ◌∷◌}
use Rattle.words.proofs.Rows.{run_one, run_more}
use Rattle.layout.specs.Layout.{bank_bytes, bank_words, vcpu_bytes}
use Rattle.layout.proofs.VcpuRowsLayout.store.Goals as goal

pub returns : goal.returns
unfolding bank_bytes vcpu_bytes
returns c =
    let v = c.args.row in
    run_more 4 _ _ _ _ 16 (v.affinity ∷ bank_words v.bank) (v.status ∷ []) (omega arith) (omega (arith, c.requires))
    (run_more 4 _ _ _ _ 4 (v.affinity ∷ []) (bank_words v.bank) (omega arith) (omega (arith, c.requires)) (run_one 4 _ _ _ _ c.put32.ensures) c.store.ensures)
    (run_one 4 _ _ _ _ c.put32-2.ensures)
