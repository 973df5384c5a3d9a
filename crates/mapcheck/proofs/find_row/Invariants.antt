-- `mapcheck::find_row` meets its contract. The loop's invariant: no row passed has the key. Assumes nothing.
use mathlib.Core.List.{List}
use Rattle.mapcheck.specs.Reads.{Reads}
use Rattle.mapcheck.proofs.Loops.{SeekingKey}
use Rattle.mapcheck.proofs.find_row.Given as goal

abbrev pub invariant-loop-i : goal.invariant-loop-i
invariant-loop-i g l =
    (r : List g.row.T.Denot) (d : g.row.T.Denot) → Reads (goal.F-post g l.at) l.n r d → SeekingKey g.T.Keyed.key l.key d l.n r l.i
