use mathlib.Core.List.{[]}
use lib.ListN.{length, drop}
use Rattle.words.proofs.Rows.{Loading}
use Rattle.layout.proofs.fill_rows.Given as goal

abbrev pub invariant-loop-i : goal.invariant-loop-i
invariant-loop-i g l =
    let t = g.T.Layout in
    let n = length l.fn.rows in
    Loading t.of t.SIZE n n (drop t.START l.s) (t.of []) l.rows l.i
