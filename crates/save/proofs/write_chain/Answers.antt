-- `save::write_chain` meets its contract. Assumes nothing.
use Prim.Native.Nat.{◌≤◌, ◌<◌}
use native.Mathlib.Omega.{arith}
use mathlib.Core.Path.{refl}
use Rattle.save.specs.Saving.{run_of}
use Rattle.save.proofs.Rows.{row_good, run_count, run_row}
use Rattle.save.proofs.Chain.{row_low, row_high, write_start, write_row, write_end}
use Rattle.save.proofs.write_chain.Goals as goal

pub loop-j-init : goal.loop-j-init
loop-j-init g c = write_start _ _ _ _ _ _ _ c.requires.1.ready

pub entry-requires : goal.entry-requires
entry-requires g c =
    row_good g.C.Chained.none _ _ _ (omega (arith, c.loop-j-test.true, c.requires.1.most)) c.row-row.ensures c.requires.1.good

pub write_next-requires : goal.write_next-requires
write_next-requires g c =
    let t = g.C.Chained in
    let low : c.loop-j.i ≤ t.key c.row-row.result = row_low t.key _ t.none _ _ _ _ _ (run_count _ _ c.requires.1.most) c.loop-j-test.true (run_row _ _ _ _ _ c.loop-j-test.true c.row-row.ensures) c.loop-j.invariant.ready in
    let high : t.key c.row-row.result < c.args.n = row_high t.key _ t.none _ _ _ _ _ (run_count _ _ c.requires.1.most) c.loop-j-test.true (run_row _ _ _ _ _ c.loop-j-test.true c.row-row.ensures) c.loop-j.invariant.ready in
    omega (arith, low, high, c.id-id.ensures, c.loop-j.invariant.same, c.requires.1.room)

pub overflow_add-i : goal.overflow_add-i
overflow_add-i g c =
    let t = g.C.Chained in
    let high : t.key c.row-row.result < c.args.n = row_high t.key _ t.none _ _ _ _ _ (run_count _ _ c.requires.1.most) c.loop-j-test.true (run_row _ _ _ _ _ c.loop-j-test.true c.row-row.ensures) c.loop-j.invariant.ready in
    omega (arith, high, c.id-id.ensures, c.ranges.n)

pub loop-j-preserved : goal.loop-j-preserved
loop-j-preserved g c =
    let t = g.C.Chained in
    let e = c.id-id.ensures in
    rw e
    (write_row t.key t.word t.cap _ _ _ _ c.requires.1.room _ _ _ t.none _ _ _ _ _ _ _ _ (run_count _ _ c.requires.1.most) c.loop-j-test.true
    c.loop-j.invariant (run_row _ _ _ _ _ c.loop-j-test.true c.row-row.ensures) c.row_after.ensures.0
    (run_row _ _ _ _ _ c.row_after.ensures.1 c.row-following.ensures) refl c.entry.ensures c.write_next.auto.mem (rw e at c.write_next.ensures))

pub returns : goal.returns
returns g c =
    let t = g.C.Chained in
    write_end t.key t.word t.cap _ (run_of (t.rows c.args.s.now) c.args.from c.args.to) _ _ c.requires.1.room _ _ _ _ _ _ (run_count _ _ c.requires.1.most) c.loop-j-test.false c.loop-j.invariant c.write_blanks.ensures
