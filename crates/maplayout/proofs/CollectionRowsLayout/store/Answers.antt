use native.Mathlib.Omega.{arith}
use mathlib.Core.List.{[], ◌∷◌}
use Rattle.words.proofs.Rows.{run_one, run_more}
use Rattle.maplayout.specs.MapLayout.{collection_bytes}
use Rattle.maplayout.proofs.CollectionRowsLayout.store.Goals as goal

pub returns : goal.returns
unfolding collection_bytes
returns c =
    let r = c.args.row in
    run_more 2 _ _ _ _ 2 (r.icid ∷ []) (r.pe ∷ []) (omega arith) (omega (arith, c.requires)) (run_one 2 _ _ _ _ c.put16.ensures) (run_one 2 _ _ _ _ c.put16-2.ensures)
