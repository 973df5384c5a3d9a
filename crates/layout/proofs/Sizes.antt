-- How many bytes the numbers in front of the rows take.
use mathlib.Core.Path.{◌≡◌}
use lib.ListN.{length}
use Rattle.words.specs.Words.{bytes_of}
use Rattle.words.proofs.Laws.{length-bytes_of}
use Rattle.words.proofs.Rows.{length-bytes_all}
use Rattle.guest.specs.Machine.{Machine}
use Rattle.layout.specs.Layout.{head_bytes}

pub head_sized : (m : Machine) → length (head_bytes m) ≡ 184
unfolding head_bytes
head_sized m = length-bytes_all (bytes_of 8) 8 (length-bytes_of 8) _
