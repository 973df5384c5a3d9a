use lib.ListN.{length}
use Rattle.words.specs.Words.{bytes_of}
use Rattle.words.proofs.Laws.{length-bytes_of}
use Rattle.words.proofs.Rows.{Storing}
use Rattle.layout.proofs.store_words.Given as goal

abbrev pub invariant-loop-i : goal.invariant-loop-i
invariant-loop-i l = Storing (bytes_of 8) 8 (length-bytes_of 8) (length l.words) l.initial.s l.at l.words l.s l.i
