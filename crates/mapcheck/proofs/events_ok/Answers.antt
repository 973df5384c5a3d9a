-- `mapcheck::events_ok` meets its contract. The loop's invariant: every row passed is right. Assumes nothing.
use native.Mathlib.Omega.{arith}
use Rattle.mapping.specs.Mapped.{no_event}
use Rattle.mapcheck.proofs.Verdicts.{passed, failed}
use Rattle.mapcheck.proofs.Loops.{pass_start, pass_turn, pass_fail, pass_end}
use Rattle.mapcheck.proofs.events_ok.Goals as goal

pub event_count-n-requires : goal.event_count-n-requires
event_count-n-requires c = c.requires.0.counted

pub loop-i-init : goal.loop-i-init
loop-i-init c = pass_start _ _ _ _ c.event_count-n.ensures

pub event_at-e-requires : goal.event_at-e-requires
event_at-e-requires c = (c.requires.0.counted, omega (arith, c.loop-i.invariant))

pub device_index-at-requires : goal.device_index-at-requires
device_index-at-requires c =
    (c.requires.0.counted, c.requires.1)

pub event_ok-requires : goal.event_ok-requires
event_ok-requires c =
    (c.requires.0, c.device_index-at.ensures)

pub returns-then-not-event_ok : goal.returns-then-not-event_ok
returns-then-not-event_ok c =
    pass_fail _ no_event _ _ _ c.loop-i.invariant c.event_at-e.ensures c.loop-i-test.true (failed c.event_ok.ensures c.if-not-event_ok.true)

pub loop-i-preserved : goal.loop-i-preserved
loop-i-preserved c =
    pass_turn _ no_event _ _ _ c.loop-i.invariant c.event_at-e.ensures c.loop-i-test.true (passed c.event_ok.ensures c.if-not-event_ok.false)

pub returns : goal.returns
returns c = pass_end _ no_event _ _ _ c.loop-i.invariant c.loop-i-test.false
