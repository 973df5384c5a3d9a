-- `save::first_event` meets its contract. Assumes nothing.
use lib.Dec.{leb}
use Rattle.mapping.specs.Mapped.{no_event}
use Rattle.mapping.proofs.Table.{Seeking}
use Rattle.maplayout.specs.MapLayout.{decode_map}
use Rattle.save.specs.Saving.{event_device}
use Rattle.save.proofs.first_event.Given as goal

abbrev pub invariant-loop-j : goal.invariant-loop-j
invariant-loop-j l = Seeking (λ x. leb l.id (event_device x)) no_event l.n (decode_map l.s).events l.j
