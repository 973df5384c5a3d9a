-- `save::write_collections` meets its contract. Assumes nothing.
use Rattle.maplayout.specs.MapLayout.{decode_map}
use Rattle.save.proofs.Collections.{Listing}
use Rattle.save.proofs.write_collections.Given as goal

abbrev pub invariant-loop-i : goal.invariant-loop-i
invariant-loop-i l = Listing l.count (decode_map l.s).collections l.initial.mem l.at l.mem l.i
