use Prim.Native.Nat.{ℕ, ◌*◌}
use native.Mathlib.Omega.{arith}
use mathlib.Core.Path.{refl, sym, ap, ◌∙◌}
use mathlib.Core.List.{List}
use lib.ListN.{take}
use lib.Seq.{drop-drop, take_all}
use Rattle.words.proofs.Rows.{load_start, load_turn, load_end}
use Rattle.layout.proofs.fill_rows.Goals as goal

pub loop-i-init : goal.loop-i-init
loop-i-init g c = load_start _ _ _ _ _ _ (omega arith) _ refl

pub loop-i-preserved : goal.loop-i-preserved
loop-i-preserved g c =
    let t = g.T.Layout in
    load_turn _ _ _ _ _ _ (omega arith) _ _ _ c.loop-i-test.true
    (c.row_at.ensures ∙ ap (λ (x : List ℕ). t.of (take t.SIZE x)) (sym (drop-drop (c.loop-i.i * t.SIZE) _ _))) c.loop-i.invariant

pub returns : goal.returns
returns g c =
    let e = c.loop-i.auto.rows in
    sym (take_all _ c.loop-i.rows (omega arith)) ∙ load_end _ _ _ _ _ _ (omega arith) _ _ c.loop-i-test.false c.loop-i.invariant
