-- `save::write_itts` meets its contract. Assumes nothing.
use Rattle.maplayout.specs.MapLayout.{decode_map}
use Rattle.save.proofs.Itts.{Tabling}
use Rattle.save.proofs.write_itts.Given as goal

abbrev pub invariant-loop-i : goal.invariant-loop-i
invariant-loop-i l = Tabling l.start (decode_map l.s).devices (decode_map l.s).events l.initial.mem l.mem l.i l.j
