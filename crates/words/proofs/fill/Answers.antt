use native.Mathlib.Omega.{arith}
use mathlib.Core.Path.{◌∙◌}
use lib.ListN.{length, length-set}
use Rattle.words.proofs.Laws.{fill_turn, fill_end}
use Rattle.words.proofs.fill.Goals as goal

pub loop-b-preserved : goal.loop-b-preserved
loop-b-preserved c =
    let l = c.loop-b in
    let v = l.invariant in
    (simp length-set v.0, fill_turn l.s _ l.b-index l.rest (omega arith) v.0 ∙ v.1)

pub returns : goal.returns
returns c =
    let l = c.loop-b in
    let v = l.invariant in
    fill_end l.s (length c.args.s.now) l.b-index l.rest _ (omega arith) v.0 v.1
