use native.Mathlib.Omega.{arith}
use mathlib.Core.List.{[], ◌∷◌}
use Rattle.words.proofs.Rows.{run_one, run_more}
use Rattle.maplayout.specs.MapLayout.{event_bytes}
use Rattle.maplayout.proofs.EventRowsLayout.store.Goals as goal

pub returns : goal.returns
unfolding event_bytes
returns c =
    let e = c.args.row in
    run_more 2 _ _ _ _ 6 (e.device ∷ e.event ∷ e.lpi ∷ []) (e.icid ∷ []) (omega arith) (omega (arith, c.requires))
    (run_more 2 _ _ _ _ 4 (e.device ∷ e.event ∷ []) (e.lpi ∷ []) (omega arith) (omega (arith, c.requires))
    (run_more 2 _ _ _ _ 2 (e.device ∷ []) (e.event ∷ []) (omega arith) (omega (arith, c.requires)) (run_one 2 _ _ _ _ c.put16.ensures) (run_one 2 _ _ _ _ c.put16-2.ensures))
    (run_one 2 _ _ _ _ c.put16-3.ensures))
    (run_one 2 _ _ _ _ c.put16-4.ensures)
