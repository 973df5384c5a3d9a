use Prim.Native.Nat.{◌+◌, ◌<◌}
use native.Mathlib.Omega.{arith}
use lib.ListN.{get_or}
use Rattle.words.proofs.Laws.{read_none, read_more}
use Rattle.words.proofs.get.Goals as goal

pub loop-i-init : goal.loop-i-init
loop-i-init g c = read_none _ _

pub loop-i-preserved : goal.loop-i-preserved
loop-i-preserved g c =
    let i = c.loop-i.i in
    let b : get_or c.args.s.now (c.args.at + i) 0 < 256 = omega (arith, c.type_inv.s (c.args.at + i)) in
    read_more _ _ i _ (omega (arith, c.requires.at_in_bounds, c.loop-i-test.true)) b (omega (arith, c.requires.fits, c.loop-i-test.true)) c.loop-i.invariant
