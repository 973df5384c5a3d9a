-- `save::write_chain` meets its contract. Assumes nothing.
use lib.ListN.{take, drop}
use Rattle.save.specs.Saving.{run_of}
use Rattle.save.proofs.Chain.{Writing}
use Rattle.save.proofs.write_chain.Given as goal

abbrev pub invariant-loop-j : goal.invariant-loop-j
invariant-loop-j g l =
    let t = g.C.Chained in
    Writing t.key t.word t.cap l.n (run_of (t.rows l.s) l.from l.to) l.initial.mem l.at (drop l.j (take l.to (t.rows l.s))) l.mem l.i
