-- `mapcheck::events_ok` meets its contract. The loop's invariant: every row passed is right. Assumes nothing.
use Rattle.mapping.specs.Mapped.{no_event}
use Rattle.mapping.specs.MapRules.{event_ok}
use Rattle.maplayout.specs.MapLayout.{decode_map}
use Rattle.mapcheck.proofs.Loops.{Passing}
use Rattle.mapcheck.proofs.events_ok.Given as goal

abbrev pub invariant-loop-i : goal.invariant-loop-i
invariant-loop-i l = Passing (event_ok (decode_map l.s)) no_event l.n (decode_map l.s).events l.i
