-- `save::first_event` meets its contract. Assumes nothing.
use native.Mathlib.Omega.{arith}
use borrow.Author.Tests.{le-leb, lt-leb}
use Rattle.save.proofs.Rows.{seek_from, seek_past, found_here, found_none}
use Rattle.save.proofs.first_event.Goals as goal

pub loop-j-init : goal.loop-j-init
loop-j-init c = seek_from _ _ _ _ c.event_count-n.ensures _ c.requires.1

pub returns-then-id-e : goal.returns-then-id-e
returns-then-id-e c =
    found_here _ _ _ _ c.event_count-n.ensures _ _ c.loop-j.invariant c.loop-j-test.true c.event_at-e.ensures
    (le-leb c.args.id c.event_at-e.result.device (omega (arith, c.if-id-e.true)))

pub loop-j-preserved : goal.loop-j-preserved
loop-j-preserved c =
    seek_past _ _ _ _ c.event_count-n.ensures _ _ c.loop-j.invariant c.loop-j-test.true c.event_at-e.ensures (lt-leb _ _ c.if-id-e.false)

pub returns : goal.returns
returns c = found_none _ _ _ _ c.event_count-n.ensures _ c.loop-j.invariant c.loop-j-test.false
