use native.Mathlib.Omega.{arith}
use mathlib.Core.List.{[], ◌∷◌, ◌++◌}
use Rattle.words.proofs.Rows.{run_more}
use Rattle.layout.specs.Layout.{memory_words, control_words, frames_words, tables_words}
use Rattle.layout.proofs.store_head.Goals as goal

pub returns : goal.returns
returns c =
    let x = c.args in
    let r = memory_words x.r in
    let k = control_words x.c in
    let f = frames_words x.f in
    let t = tables_words x.t in
    run_more 8 _ _ _ 0 168 (r ++ k ++ f ++ t) (x.regions ∷ x.vcpus ∷ []) (omega arith) (omega (arith, c.requires))
    (run_more 8 _ _ _ 0 120 (r ++ k ++ f) t (omega arith) (omega (arith, c.requires))
    (run_more 8 _ _ _ 0 72 (r ++ k) f (omega arith) (omega (arith, c.requires))
    (run_more 8 _ _ _ 0 24 r k (omega arith) (omega (arith, c.requires)) c.store_words.ensures c.store_control.ensures)
    c.store_frames.ensures)
    c.store_tables.ensures)
    c.store_words-2.ensures
