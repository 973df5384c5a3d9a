use lib.ListN.{length}
use Rattle.words.proofs.Rows.{Storing}
use Rattle.layout.proofs.store_rows.Given as goal

abbrev pub invariant-loop-i : goal.invariant-loop-i
invariant-loop-i g l =
    let t = g.T.Layout in
    Storing t.bytes t.SIZE g.met.T.Layout.sized (length l.rows) l.initial.s t.START l.rows l.s l.i
