-- How many bytes the three counts take.
use mathlib.Core.Path.{◌≡◌}
use lib.ListN.{length}
use Rattle.words.specs.Words.{bytes_of}
use Rattle.words.proofs.Laws.{length-bytes_of}
use Rattle.words.proofs.Rows.{length-bytes_all}
use Rattle.mapping.specs.Mapped.{Mapped}
use Rattle.maplayout.specs.MapLayout.{count_bytes, count_words}

pub counts_sized : (k : Mapped) → length (count_bytes k) ≡ 24
unfolding count_bytes
counts_sized k = length-bytes_all (bytes_of 8) 8 (length-bytes_of 8) (count_words k)
